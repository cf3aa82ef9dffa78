-- The item that a token is written as.
use Rattle.std.specs.Prelude.{ℕ, ℤ, pos, List, Option, Some, option_map}
use Rattle.coset.specs.Claims.{claims}
use Rattle.coset.specs.Encoding.{five_elements, four_elements}
use Rattle.coset.specs.Headers.{header, protected}
use Rattle.coset.specs.Item.{Item, array, dict, integer}
use Rattle.coset.specs.LabelData.{LabelView}
use Rattle.coset.specs.Labels.{label}
use Rattle.coset.specs.Maps.{labelled_image}
use Rattle.coset.specs.Shape.{images, or_nil, tstr}
use Rattle.cwt_keys.specs.Keys.{Name}
use Rattle.cwt_verify.specs.Opening.{VerifiedView}
use Rattle.cwt_verify.specs.Verify.{TokenView}
use Rattle.ffi_token.specs.Opened.{form_number}

-- tstr / nil
abbrev pub name_image : Name → Option Item
name_image n = (or_nil tstr).image n

-- { * label => any }
abbrev pub others_image : List (LabelView × Item) → Option Item
others_image es = option_map dict (labelled_image label.image es)

-- [ form : 1 / 3 / 5, protected : bstr, unprotected : header_map, issuer : tstr / nil ]
abbrev pub layer_image : VerifiedView → Option Item
layer_image v =
    four_elements (Some (integer (pos (form_number v.form)))) (protected.image v.protected) (header.image v.unprotected) (name_image v.issuer)

-- [ claims : Claims_Set, audience : [* tstr], others : { * label => any }, issuer : tstr / nil, layers : [+ verified_layer] ]
abbrev pub token_image : TokenView → Option Item
token_image t =
    five_elements (claims.image t.known.claims) (option_map array (images tstr.image t.known.audience)) (others_image t.known.others)
    (name_image t.issuer) (option_map array (images layer_image t.layers))
