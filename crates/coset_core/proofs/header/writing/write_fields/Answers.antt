use Rattle.std.proofs.Common.{refl, ◌∙◌, rules}
use Rattle.coset_codec.proofs.Encoding.{extends-on}
use Rattle.coset_codec.proofs.EncodingMaps.{optional-has, optional-view}
use Rattle.coset_label.specs.Labels.{algorithm}
use Rattle.coset_label.specs.Views.{algorithm_view}
use Rattle.coset_label.proofs.Memory.{passed_memory}
use Rattle.coset_core.specs.Fields.{content_type}
use Rattle.coset_core.specs.Views.{content_type_view}
use Rattle.coset_core.specs.declared.header.Header.{out-Header}
use Rattle.coset_core.proofs.WritingHeaders.{algorithm-has, content_type-has, field-view}
use Rattle.coset_core.proofs.header.writing.write_fields.Goals as goal

pub returns-in_err-write_optional-clause-memory : goal.returns-in_err-write_optional-clause-memory
unfolding algorithm
returns-in_err-write_optional-clause-memory c =
    passed_memory c.from_residual.result _ _ c.from_residual.ensures.1
    (optional-has (λ l. algorithm.image (algorithm_view l)) (λ l. algorithm-has (algorithm_view l))
    (out-Header c.args.header.now).alg) c.in_err-write_optional.ensures.refused

pub returns-in_err-write_optional-2-clause-memory : goal.returns-in_err-write_optional-2-clause-memory
unfolding content_type
returns-in_err-write_optional-2-clause-memory c =
    passed_memory c.from_residual-in_err-write_optional-2.result _ _ c.from_residual-in_err-write_optional-2.ensures.1
    (optional-has (λ l. content_type.image (content_type_view l)) (λ l. content_type-has (content_type_view l))
    (out-Header c.args.header.now).content_type) c.in_err-write_optional-2.ensures.refused

pub returns-clause-ok : goal.returns-clause-ok
unfolding algorithm content_type
returns-clause-ok c =
    let x = out-Header c.args.header.now in
    record {
      behind_alg = c.write_optional.new.out.items;
      behind_crit = c.write_critical.new.out.items;
      behind_content_type = c.write_optional-2.new.out.items;
      behind_kid = c.write_nonempty.new.out.items;
      behind_iv = c.write_nonempty-2.new.out.items;
      alg = field-view _ _ ((search rules) ∙ c.to_i64.ensures) (optional-view algorithm_view algorithm.image x.alg) c.in_ok-write_optional.ensures.ok;
      crit = rw c.deref.ensures.value at c.in_ok-write_critical.ensures.ok;
      content_type = field-view _ _ ((search rules) ∙ c.to_i64-2.ensures)
          (optional-view content_type_view content_type.image x.content_type) c.in_ok-write_optional-2.ensures.ok;
      key_id = field-view _ _ ((search rules) ∙ c.to_i64-3.ensures) refl c.in_ok-write_nonempty.ensures.ok;
      iv = field-view _ _ ((search rules) ∙ c.to_i64-4.ensures) refl c.in_ok-write_nonempty-2.ensures.ok;
      partial_iv = field-view _ _ ((search rules) ∙ c.to_i64-5.ensures) refl c.in_ok-write_nonempty-3.ensures.ok;
    }

pub returns-in_err-write_optional-clause-kept : goal.returns-in_err-write_optional-clause-kept
returns-in_err-write_optional-clause-kept c = c.in_err-write_optional.ensures.kept

pub returns-in_err-write_critical-clause-kept : goal.returns-in_err-write_critical-clause-kept
returns-in_err-write_critical-clause-kept c =
    extends-on c.args.out.now.items c.write_optional.new.out.items _ c.in_ok-write_optional.ensures.kept c.in_err-write_critical.ensures.kept

pub returns-in_err-write_optional-2-clause-kept : goal.returns-in_err-write_optional-2-clause-kept
returns-in_err-write_optional-2-clause-kept c =
    extends-on c.args.out.now.items c.write_optional.new.out.items _ c.in_ok-write_optional.ensures.kept
    (extends-on _ c.write_critical.new.out.items _ c.in_ok-write_critical.ensures.kept c.in_err-write_optional-2.ensures.kept)

pub returns-in_err-write_nonempty-clause-kept : goal.returns-in_err-write_nonempty-clause-kept
returns-in_err-write_nonempty-clause-kept c =
    extends-on c.args.out.now.items c.write_optional.new.out.items _ c.in_ok-write_optional.ensures.kept
    (extends-on _ c.write_critical.new.out.items _ c.in_ok-write_critical.ensures.kept
    (extends-on _ c.write_optional-2.new.out.items _ c.in_ok-write_optional-2.ensures.kept c.in_err-write_nonempty.ensures.kept))

pub returns-in_err-write_nonempty-2-clause-kept : goal.returns-in_err-write_nonempty-2-clause-kept
returns-in_err-write_nonempty-2-clause-kept c =
    extends-on c.args.out.now.items c.write_optional.new.out.items _ c.in_ok-write_optional.ensures.kept
    (extends-on _ c.write_critical.new.out.items _ c.in_ok-write_critical.ensures.kept
    (extends-on _ c.write_optional-2.new.out.items _ c.in_ok-write_optional-2.ensures.kept
    (extends-on _ c.write_nonempty.new.out.items _ c.in_ok-write_nonempty.ensures.kept c.in_err-write_nonempty-2.ensures.kept)))

pub returns-in_err-write_nonempty-3-clause-kept : goal.returns-in_err-write_nonempty-3-clause-kept
returns-in_err-write_nonempty-3-clause-kept c =
    extends-on c.args.out.now.items c.write_optional.new.out.items _ c.in_ok-write_optional.ensures.kept
    (extends-on _ c.write_critical.new.out.items _ c.in_ok-write_critical.ensures.kept
    (extends-on _ c.write_optional-2.new.out.items _ c.in_ok-write_optional-2.ensures.kept
    (extends-on _ c.write_nonempty.new.out.items _ c.in_ok-write_nonempty.ensures.kept
    (extends-on _ c.write_nonempty-2.new.out.items _ c.in_ok-write_nonempty-2.ensures.kept c.in_err-write_nonempty-3.ensures.kept))))

pub returns-clause-kept : goal.returns-clause-kept
returns-clause-kept c =
    extends-on c.args.out.now.items c.write_optional.new.out.items _ c.in_ok-write_optional.ensures.kept
    (extends-on _ c.write_critical.new.out.items _ c.in_ok-write_critical.ensures.kept
    (extends-on _ c.write_optional-2.new.out.items _ c.in_ok-write_optional-2.ensures.kept
    (extends-on _ c.write_nonempty.new.out.items _ c.in_ok-write_nonempty.ensures.kept
    (extends-on _ c.write_nonempty-2.new.out.items _ c.in_ok-write_nonempty-2.ensures.kept c.in_ok-write_nonempty-3.ensures.kept))))
