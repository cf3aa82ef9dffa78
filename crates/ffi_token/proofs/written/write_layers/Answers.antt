use Rattle.std.proofs.Common.{length, map, option_map, subst, arith}
use Rattle.coset_codec.specs.Encoding.{Encodes}
use Rattle.coset_codec.specs.Shape.{images}
use Rattle.coset_codec.proofs.Encoding.{array-encoded, images-mapped}
use Rattle.coset_value.specs.Item.{array}
use Rattle.cwt_verify.specs.Opening.{verified_view}
use Rattle.ffi_token.specs.Written.{layer_image}
use Rattle.cwt_verify.specs.declared.layer.VerifiedLayer.{VerifiedLayer}
use Rattle.ffi_token.proofs.written.write_layers.Goals as goal

pub returns-clause-written : goal.returns-clause-written
returns-clause-written c =
    let all = c.args.layers.now in
    subst (λ o. Encodes (option_map array o) c.args.out.now.items c.write_each.new.out.items c.write_each.result)
    (images-mapped layer_image verified_view all)
    (array-encoded (images (λ (x : VerifiedLayer). layer_image (verified_view x)) all) (length all) _ _ _ c.write_each.result
    (omega arith) c.in_ok-write_array_head.ensures.ok c.write_each.ensures.ok c.write_each.ensures.refused)
