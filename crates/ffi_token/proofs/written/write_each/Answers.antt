use Rattle.std.proofs.Common.{take, drop, length, sym, subst, ap, ◌∙◌, ◌+◌, ◌≡◌, arith}
use Rattle.std.proofs.Math.Seq.{take-length}
use Rattle.coset_codec.specs.Encoding.{AppendsElements, HasNoImage}
use Rattle.coset_codec.specs.Shape.{images}
use Rattle.coset_codec.proofs.Encoding.{nothing-put, element-put, images-missing, one_taken, one_between}
use Rattle.coset_codec.proofs.Lists.{on_err}
use Rattle.cwt_verify.specs.Opening.{verified_view}
use Rattle.ffi_token.specs.Written.{layer_image}
use Rattle.cwt_verify.specs.declared.layer.VerifiedLayer.{VerifiedLayer}
use Rattle.ffi_token.proofs.written.write_each.Goals as goal

pub loop-layer-init : goal.loop-layer-init
loop-layer-init c = nothing-put c.args.out.now.items

pub loop-layer-preserved : goal.loop-layer-preserved
loop-layer-preserved c =
    let all = c.args.layers.now in
    let i = c.loop-layer.layer-index in
    subst (λ xs. AppendsElements (images (λ (x : VerifiedLayer). layer_image (verified_view x)) xs) (i + 1) c.args.out.now.items c.write_layer.new.out.items)
    (sym (one_taken all i c.layer-item.result (omega arith) c.layer-item.is))
    (element-put (λ (x : VerifiedLayer). layer_image (verified_view x)) (take i all) c.layer-item.result
    c.loop-layer.invariant c.in_ok-write_layer.ensures.written)

pub returns-in_err-write_layer-clause-refused : goal.returns-in_err-write_layer-clause-refused
returns-in_err-write_layer-clause-refused c =
    let all = c.args.layers.now in
    let i = c.loop-layer.layer-index in
    let x = c.layer-item.result in
    on_err c.from_residual.result c.in_err-write_layer.field-0.0 (HasNoImage (images (λ (y : VerifiedLayer). layer_image (verified_view y)) all))
    c.from_residual.ensures.1
    (λ m.
    let none = c.in_err-write_layer.ensures.written m in (
      none.0,
      ap (images (λ (y : VerifiedLayer). layer_image (verified_view y))) (one_between all i x (omega arith) c.layer-item.is)
          ∙ images-missing (λ (y : VerifiedLayer). layer_image (verified_view y)) (take i all) (drop (i + 1) all) x none.1,
    ))

pub returns-clause-ok : goal.returns-clause-ok
returns-clause-ok c =
    let all = c.args.layers.now in
    let ends : c.loop-layer.layer-index ≡ length all = omega (arith, c.loop-layer-test.false, c.loop-layer.auto.layer-index-end) in
    subst (λ xs. AppendsElements (images (λ (y : VerifiedLayer). layer_image (verified_view y)) xs) (length all) c.args.out.now.items c.loop-layer.out.items)
    (take-length all)
    (subst (λ k. AppendsElements (images (λ (y : VerifiedLayer). layer_image (verified_view y)) (take k all)) k c.args.out.now.items c.loop-layer.out.items)
    ends c.loop-layer.invariant)
