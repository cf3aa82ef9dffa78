use Rattle.std.proofs.Common.{refl, arith}
use Rattle.coset_value.specs.View.{value_item}
use Rattle.coset_value.specs.Item.{no_pairs}
use Rattle.coset_codec.proofs.Lists.{on_err}
use Rattle.coset_codec.proofs.Encoding.{extends-on}
use Rattle.coset_codec.proofs.EncodingMaps.{item-is, label-added, nothing-added, row-added, row-none, rows-done, rows-kept}
use Rattle.coset_codec.proofs.write.map.write_rest.Goals as goal

pub loop-label-init : goal.loop-label-init
loop-label-init g c = (no_pairs, refl, nothing-added c.args.out.now.items)

pub returns-in_err-append-clause-refused : goal.returns-in_err-append-clause-refused
returns-in_err-append-clause-refused g c =
    on_err c.from_residual.result c.in_err-append.field-0.0 _ c.from_residual.ensures.1
    (λ n. let p = c.in_err-append.ensures.written n in (
      p.0,
      row-none g.L.Encode.image value_item c.args.rest.now c.loop-label.label-index c.loop-label-item.result
          (omega arith) c.loop-label-item.is p.1,
    ))

pub loop-label-preserved : goal.loop-label-preserved
loop-label-preserved g c =
    row-added g.L.Encode.image (λ e. (e.0, value_item e.1)) c.args.rest.now c.loop-label.label-index c.loop-label-item.result
    (omega arith) c.loop-label-item.is c.loop-label.invariant (label-added c.in_ok-append.ensures.written (item-is c.in_ok-append-2.ensures.written))

pub returns-in_err-append-clause-kept : goal.returns-in_err-append-clause-kept
returns-in_err-append-clause-kept g c =
    extends-on c.args.out.now.items c.loop-label.out.items _ (rows-kept c.args.out.now.items c.loop-label.out.items c.loop-label.invariant)
    c.in_err-append.ensures.kept

pub returns-in_err-append-2-clause-kept : goal.returns-in_err-append-2-clause-kept
returns-in_err-append-2-clause-kept g c =
    extends-on c.args.out.now.items c.loop-label.out.items _ (rows-kept c.args.out.now.items c.loop-label.out.items c.loop-label.invariant)
    (extends-on _ c.append.new.out.items _ c.in_ok-append.ensures.kept c.in_err-append-2.ensures.kept)

pub returns-in_err-append-2-clause-refused : goal.returns-in_err-append-2-clause-refused
returns-in_err-append-2-clause-refused g c =
    on_err c.from_residual-in_err-append-2.result c.in_err-append-2.field-0.0 _ c.from_residual-in_err-append-2.ensures.1
    (λ n. let p = c.in_err-append-2.ensures.written n in absurd (cc p.1))

pub returns-clause-ok : goal.returns-clause-ok
returns-clause-ok g c =
    rows-done g.L.Encode.image (λ e. (e.0, value_item e.1)) c.args.rest.now c.loop-label.label-index (omega arith) c.loop-label.invariant

pub returns-clause-kept : goal.returns-clause-kept
returns-clause-kept g c = rows-kept c.args.out.now.items c.loop-label.out.items c.loop-label.invariant
