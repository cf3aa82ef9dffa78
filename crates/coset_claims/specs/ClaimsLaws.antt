-- The laws of the shape of claims sets.
use Rattle.std.proofs.Common.{◌≡◌, Some, false, refl, rules}
use Rattle.std.specs.Prelude.{ℤ}
use Rattle.coset_value.specs.Item.{integer}
use Rattle.coset_codec.specs.MapLaws.{LawfulMapLabels, LawfulFields, Flat, field_laws, labelled_laws, no_field_laws, optional_laws}
use Rattle.coset_codec.specs.Shape.{bstr, tstr}
use Rattle.coset_codec.specs.ShapeLaws.{Lawful, mapped_laws, bstr_laws, tstr_laws}
use Rattle.coset_label.specs.LabelLaws.{registered_or_private_laws}
use Rattle.coset_label.specs.NameOrder.{registered_cmp-apart}
use Rattle.coset_label.specs.LabelData.{RegisteredLabelView, assigned}
use Rattle.coset_claims.specs.ClaimLabels as labels
use Rattle.coset_claims.specs.Claims.{ClaimsView, FieldTuple, claim_name, claims, claims_of, fields, names, parts_of}
use Rattle.coset_claims.specs.Timestamp.{timestamp, timestamp_laws}

claim_name_laws : Lawful RegisteredLabelView claim_name
unfolding claim_name
claim_name_laws = registered_or_private_laws _ _

pub names_laws : LawfulMapLabels RegisteredLabelView names
names_laws = record {
  shape = claim_name_laws;
  same_is = λ l m h. (registered_cmp-apart l m).0 h;
  same_self = λ l. (registered_cmp-apart l l).1 refl;
}

-- The name of a registered claim is an integer.
flat : (i : ℤ) → claim_name.image (assigned i) ≡ Some (integer i) → claim_name.describes (integer i) (assigned i) → Flat RegisteredLabelView names (assigned i)
flat i e d = record { key = integer i; is_image = e; described = d; is_flat = refl }

flat_iss : Flat RegisteredLabelView names labels.iss
unfolding claim_name
flat_iss = flat _ refl (refl, (refl, (refl, search rules)))

flat_sub : Flat RegisteredLabelView names labels.sub
unfolding claim_name
flat_sub = flat _ refl (refl, (refl, (refl, search rules)))

flat_aud : Flat RegisteredLabelView names labels.aud
unfolding claim_name
flat_aud = flat _ refl (refl, (refl, (refl, search rules)))

flat_exp : Flat RegisteredLabelView names labels.exp
unfolding claim_name
flat_exp = flat _ refl (refl, (refl, (refl, search rules)))

flat_nbf : Flat RegisteredLabelView names labels.nbf
unfolding claim_name
flat_nbf = flat _ refl (refl, (refl, (refl, search rules)))

flat_iat : Flat RegisteredLabelView names labels.iat
unfolding claim_name
flat_iat = flat _ refl (refl, (refl, (refl, search rules)))

flat_cti : Flat RegisteredLabelView names labels.cti
unfolding claim_name
flat_cti = flat _ refl (refl, (refl, (refl, search rules)))

pub fields_laws : LawfulFields RegisteredLabelView FieldTuple names fields
fields_laws =
    field_laws names names_laws labels.iss flat_iss _ (optional_laws tstr tstr_laws) _
    (field_laws names names_laws labels.sub flat_sub _ (optional_laws tstr tstr_laws) _
    (field_laws names names_laws labels.aud flat_aud _ (optional_laws tstr tstr_laws) _
    (field_laws names names_laws labels.exp flat_exp _ (optional_laws timestamp timestamp_laws) _
    (field_laws names names_laws labels.nbf flat_nbf _ (optional_laws timestamp timestamp_laws) _
    (field_laws names names_laws labels.iat flat_iat _ (optional_laws timestamp timestamp_laws) _
    (field_laws names names_laws labels.cti flat_cti _ (optional_laws bstr bstr_laws) _ (no_field_laws names names_laws) refl)
    refl) refl) refl) refl) refl) refl

pub claims_laws : Lawful ClaimsView claims
unfolding claims
claims_laws = mapped_laws claims_of parts_of (λ x. refl) _ (labelled_laws names names_laws false fields fields_laws)
