use Rattle.std.proofs.Common.{◌≡◌, ℤ, false, refl, sym}
use Rattle.coset_iana.specs.CwtClaimName as claim_names
use Rattle.coset_iana.specs.declared.claims.CwtClaimName.{CwtClaimName}
use Rattle.coset_codec.specs.MapLaws.{not_same}
use Rattle.coset_label.specs.LabelData.{assigned}
use Rattle.coset_label.specs.declared.registered.RegisteredLabelWithPrivate.{RegisteredLabelWithPrivate}
use Rattle.coset_label.specs.declared.registered.RegisteredLabelWithPrivate.TheVariants.{PrivateUse, Assigned, Text}
use Rattle.coset_claims.specs.Claims.{name_view, names, same_label}
use Rattle.coset_claims.specs.ClaimsLaws.{names_laws}
use Rattle.coset_claims.proofs.claims_set.is_claim.Goals as goal

-- A name of another kind is no name of a registered claim.
other_name : (i : ℤ) (n : RegisteredLabelWithPrivate CwtClaimName) → ((x : CwtClaimName) → n ≡ Assigned x → ⊥) → false ≡ same_label (assigned i) (name_view n)
other_name i (PrivateUse j) other = sym (not_same names names_laws (assigned i) (name_view (PrivateUse j)) (λ e. absurd (cc)))
other_name i (Assigned x) other = absurd (other x refl)
other_name i (Text s) other = sym (not_same names names_laws (assigned i) (name_view (Text s)) (λ e. absurd (cc)))

pub returns-in_default : goal.returns-in_default
returns-in_default c = other_name (claim_names.number c.args.claim) c.args.name.now c.in_default.not-Assigned
