use Rattle.std.proofs.Common.{take}
use Rattle.coset_codec.specs.Encoding.{AppendsElements}
use Rattle.coset_codec.specs.Shape.{images}
use Rattle.cwt_verify.specs.Opening.{verified_view}
use Rattle.ffi_token.specs.Written.{layer_image}
use Rattle.ffi_token.proofs.written.write_each.Given as goal

abbrev pub invariant-loop-layer : goal.invariant-loop-layer
invariant-loop-layer l =
    AppendsElements (images (λ x. layer_image (verified_view x)) (take l.layer-index l.layers)) l.layer-index l.initial.out.items l.out.items
