use Rattle.std.proofs.Common.{take, drop, length, sym, subst, ap, ◌∙◌, ◌+◌, ◌≡◌, arith}
use Rattle.std.proofs.Math.Seq.{take-length}
use Rattle.coset_codec.specs.Encoding.{AppendsElements, HasNoImage}
use Rattle.coset_codec.specs.Shape.{images}
use Rattle.coset_codec.proofs.Encoding.{nothing-put, element-put, images-missing, one_taken, one_between}
use Rattle.coset_codec.proofs.Lists.{on_err}
use Rattle.coset_codec.proofs.write.encode.encode_elements.Goals as goal

pub loop-element-init : goal.loop-element-init
loop-element-init g c = nothing-put c.args.out.now.items

pub loop-element-preserved : goal.loop-element-preserved
loop-element-preserved g c =
    let all = c.args.elements.now in
    let i = c.loop-element.element-index in
    subst (λ xs. AppendsElements (images g.T.Encode.image xs) (i + 1) c.args.out.now.items c.append.new.out.items)
    (sym (one_taken all i c.element-item.result (omega arith) c.element-item.is))
    (element-put g.T.Encode.image (take i all) c.element-item.result c.loop-element.invariant c.in_ok-append.ensures.written)

pub returns-in_err-append-clause-refused : goal.returns-in_err-append-clause-refused
returns-in_err-append-clause-refused g c =
    let all = c.args.elements.now in
    let i = c.loop-element.element-index in
    let x = c.element-item.result in
    on_err c.from_residual.result c.in_err-append.field-0.0 (HasNoImage (images g.T.Encode.image all)) c.from_residual.ensures.1
    (λ m.
    let none = c.in_err-append.ensures.written m in (
      none.0,
      ap (images g.T.Encode.image) (one_between all i x (omega arith) c.element-item.is)
          ∙ images-missing g.T.Encode.image (take i all) (drop (i + 1) all) x none.1,
    ))

pub returns-clause-ok : goal.returns-clause-ok
returns-clause-ok g c =
    let all = c.args.elements.now in
    let ends : c.loop-element.element-index ≡ length all = omega (arith, c.loop-element-test.false, c.loop-element.auto.element-index-end) in
    subst (λ xs. AppendsElements (images g.T.Encode.image xs) (length all) c.args.out.now.items c.loop-element.out.items) (take-length all)
    (subst (λ k. AppendsElements (images g.T.Encode.image (take k all)) k c.args.out.now.items c.loop-element.out.items) ends c.loop-element.invariant)
