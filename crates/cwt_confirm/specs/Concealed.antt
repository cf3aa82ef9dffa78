-- Whether the layers of a token keep its confirmation claim from those who can't decrypt them (RFC 8747, section 3.2).
use Rattle.std.specs.Prelude.{◌&&◌, ◌||◌, not, List, [], ◌∷◌, Bool, true, false, is_some}
use Rattle.std.specs.Option.{option_map_or}
use Rattle.coset.specs.Headers.{HeaderView}
use Rattle.coset.specs.Item.{Item}
use Rattle.coset.specs.Parts.{as_map}
use Rattle.coset_iana.specs.CwtClaimName as claim_names
use Rattle.coset_iana.specs.declared.claims.CwtClaimName.TheVariants.{Cnf}
use Rattle.cwt_keys.specs.declared.form.Form.{Form}
use Rattle.cwt_keys.specs.declared.form.Form.TheVariants.{Encrypt0, Encrypt}
use Rattle.cwt_verify.specs.HeaderClaims.{claims_in}
use Rattle.cwt_verify.specs.Layers.{PartView, whole, by_signature, for_recipient}
use Rattle.cwt_verify.specs.Opening.{VerifiedView}
use Rattle.cwt_confirm.specs.Members.{member}

-- Returns true if the item is claims with a confirmation.
abbrev pub has_cnf : Item → Bool
has_cnf v = option_map_or (λ ps. is_some (member (claim_names.number Cnf) ps)) (as_map v) false

-- Returns true if the claims in the header have a confirmation (RFC 9597).
abbrev pub shows_cnf : HeaderView → Bool
shows_cnf h = option_map_or has_cnf (claims_in h) false

-- Returns true if a header of the accepted part shows the confirmation. The protected header of a recipient is empty.
abbrev pub part_shows_cnf : PartView → Bool
part_shows_cnf whole = false
part_shows_cnf (by_signature s) = shows_cnf s.protected.header || shows_cnf s.unprotected
part_shows_cnf (for_recipient r) = shows_cnf r.unprotected

-- Returns true if a header of the layer, or of its accepted part, shows the confirmation.
abbrev pub reveals : VerifiedView → Bool
reveals v = shows_cnf v.protected.header || shows_cnf v.unprotected || part_shows_cnf v.part

abbrev pub is_encrypted : Form → Bool
is_encrypted Encrypt0 = true
is_encrypted Encrypt = true
is_encrypted f = false

-- Of the layers, from the outermost in, one is encrypted. Neither its headers nor those of the layers around it show the
-- confirmation. The claims are inside all layers.
abbrev pub conceal_cnf : List VerifiedView → Bool
conceal_cnf [] = false
conceal_cnf (v ∷ vs) = not (reveals v) && (is_encrypted v.form || conceal_cnf vs)
