use Rattle.std.proofs.Common.{◌∙◌, ap, map, option_map, string_bytes, subst}
use Rattle.coset.specs.Claims.{claims}
use Rattle.coset_codec.specs.Encoding.{Encodes, five_elements}
use Rattle.coset_codec.specs.Shape.{images, tstr}
use Rattle.coset_codec.proofs.Encoding.{images-mapped}
use Rattle.coset_value.specs.Item.{array}
use Rattle.coset_label.specs.Views.{entry_view}
use Rattle.cwt_verify.specs.Opening.{verified_view}
use Rattle.cwt_verify.specs.Verify.{token_view}
use Rattle.ffi_token.specs.Written.{layer_image, name_image, others_image}
use Rattle.ffi_token.proofs.written.write_token.Goals as goal

pub returns-clause-written : goal.returns-clause-written
returns-clause-written c =
    let t = token_view c.args.token.now in
    let texts = images-mapped tstr.image string_bytes c.deref.result.now ∙ ap (λ xs. images tstr.image (map string_bytes xs)) c.deref.ensures.value in
    let written = images (λ s. tstr.image (string_bytes s)) c.deref.result.now in
    let old = c.args.out.now.items in
    let new = c.encode_five.new.out.items in
    let r = c.encode_five.result in
    subst (λ o. Encodes (five_elements (claims.image t.known.claims) (option_map array o) (others_image t.known.others) (name_image t.issuer)
    (option_map array (images layer_image t.layers))) old new r) texts
    (subst (λ xs. Encodes (five_elements (claims.image t.known.claims) (option_map array written) (others_image (map entry_view xs))
    (name_image t.issuer) (option_map array (images layer_image t.layers))) old new r) c.deref-2.ensures.value
    (subst (λ xs. Encodes (five_elements (claims.image t.known.claims) (option_map array written) (others_image (map entry_view c.deref-2.result.now))
    (name_image t.issuer) (option_map array (images layer_image (map verified_view xs)))) old new r) c.deref-3.ensures.value c.encode_five.ensures.written))
