-- Claims sets (RFC 8392, sections 3 and 4).
use Rattle.std.specs.Prelude.{◌≡◌, ◌⊎◌, ℕ, ℤ, pos, int_lt, List, [], ◌∷◌, ◌++◌, Option, None, Bool, true, is_some, map, option_map, string_bytes}
use Rattle.std.specs.Ordering.{is_eq}
use Rattle.coset_value.specs.Item.{Item}
use Rattle.coset_value.specs.View.{value_item}
use Rattle.coset_value.specs.declared.value.Value.{Value}
use Rattle.coset_iana.specs.CwtClaimName as claim_names
use Rattle.coset_iana.specs.Registry.{first_numbered}
use Rattle.coset_iana.specs.WithPrivateRange.{is_private_use}
use Rattle.coset_iana.specs.declared.claims.CwtClaimName.{CwtClaimName}
use Rattle.coset_iana.specs.declared.claims.TheConstants.{CWT_CLAIM_NAMES}
use Rattle.coset_codec.specs.Maps.{MapLabels, Fields, field, no_field, optional, labelled_freely}
use Rattle.coset_codec.specs.Shape.{Shape, mapped, bstr, tstr}
use Rattle.coset_label.specs.Labels.{registered_or_private}
use Rattle.coset_label.specs.LabelData.{RegisteredLabelView, registered_cmp}
use Rattle.coset_label.specs.Views.{registered_or_private_view}
use Rattle.coset_label.specs.declared.registered.RegisteredLabelWithPrivate.{RegisteredLabelWithPrivate}
use Rattle.coset_claims.specs.ClaimLabels as labels
use Rattle.coset_claims.specs.Timestamp.{TimestampView, timestamp, timestamp_view}
use Rattle.coset_claims.specs.declared.claims_set.ClaimsSet.{ClaimsSet}

-- ---- views

-- The view of a claims set.
pub record ClaimsView : Type 0 where
  pub issuer : Option (List ℕ)
  pub subject : Option (List ℕ)
  pub audience : Option (List ℕ)
  pub expiration_time : Option TimestampView
  pub not_before : Option TimestampView
  pub issued_at : Option TimestampView
  pub cwt_id : Option (List ℕ)
  pub rest : List (RegisteredLabelView × Item)

-- The view of a claim's name.
abbrev pub name_view : RegisteredLabelWithPrivate CwtClaimName → RegisteredLabelView
name_view = registered_or_private_view claim_names.number

-- The view of a claim in `rest`.
abbrev pub entry_view : RegisteredLabelWithPrivate CwtClaimName × Value → RegisteredLabelView × Item
entry_view e = (name_view e.0, value_item e.1)

abbrev pub claims_view : ClaimsSet → ClaimsView
claims_view c = record {
  issuer = option_map string_bytes c.issuer;
  subject = option_map string_bytes c.subject;
  audience = option_map string_bytes c.audience;
  expiration_time = option_map timestamp_view c.expiration_time;
  not_before = option_map timestamp_view c.not_before;
  issued_at = option_map timestamp_view c.issued_at;
  cwt_id = option_map (λ b. b.items) c.cwt_id;
  rest = map entry_view c.rest.items;
}

-- A claims set without claims.
abbrev pub no_claims : ClaimsView
no_claims = record {
  issuer = None;
  subject = None;
  audience = None;
  expiration_time = None;
  not_before = None;
  issued_at = None;
  cwt_id = None;
  rest = [];
}

-- ---- shapes

-- A claim's name: a number that IANA assigned, a number for private use, or a text.
unfoldable pub claim_name : Shape RegisteredLabelView
claim_name = registered_or_private (λ i. is_some (first_numbered claim_names.number CWT_CLAIM_NAMES i)) is_private_use

-- Returns true if the two names are the same.
abbrev pub same_label : RegisteredLabelView → RegisteredLabelView → Bool
same_label a b = is_eq (registered_cmp a b)

-- Claim names, which are the same if their numbers or texts are.
abbrev pub names : MapLabels RegisteredLabelView
names = record { shape = claim_name; same = same_label }

-- The registered claims, in the order of their numbers.
abbrev pub FieldTuple : Type 0
FieldTuple = Option (List ℕ) × (Option (List ℕ) × (Option (List ℕ)
    × (Option TimestampView × (Option TimestampView × (Option TimestampView × (Option (List ℕ) × Unit {0}))))))

-- ? 1 => tstr, ? 2 => tstr, ? 3 => tstr, ? 4 => timestamp, ? 5 => timestamp, ? 6 => timestamp, ? 7 => bstr
abbrev pub fields : Fields RegisteredLabelView FieldTuple
fields =
    field names labels.iss (optional tstr)
    (field names labels.sub (optional tstr)
    (field names labels.aud (optional tstr)
    (field names labels.exp (optional timestamp)
    (field names labels.nbf (optional timestamp)
    (field names labels.iat (optional timestamp)
    (field names labels.cti (optional bstr)
    no_field))))))

abbrev pub claims_of : FieldTuple × List (RegisteredLabelView × Item) → ClaimsView
claims_of p = record {
  issuer = p.0.0;
  subject = p.0.1.0;
  audience = p.0.1.1.0;
  expiration_time = p.0.1.1.1.0;
  not_before = p.0.1.1.1.1.0;
  issued_at = p.0.1.1.1.1.1.0;
  cwt_id = p.0.1.1.1.1.1.1.0;
  rest = p.1;
}

abbrev pub parts_of : ClaimsView → FieldTuple × List (RegisteredLabelView × Item)
parts_of c = ((c.issuer, (c.subject, (c.audience, (c.expiration_time, (c.not_before, (c.issued_at, (c.cwt_id, tt))))))), c.rest)

-- {fields, * claim_name => any}. Reading a claims set refuses repeated names; writing one doesn't check them.
unfoldable pub claims : Shape ClaimsView
claims = mapped claims_of parts_of (labelled_freely names fields)

-- ---- the builder's calls

-- The claims set with one more claim at the end of `rest`.
abbrev pub push_claim : RegisteredLabelView → Item → ClaimsView → ClaimsView
push_claim l v c = record c { rest = c.rest ++ (l, v) ∷ [] }

-- The number is none of 1 to 7, which are the claims with fields of their own.
abbrev pub IsOtherClaim : ℤ → Type 0
IsOtherClaim n = (int_lt n (pos 1) ≡ true) ⊎ (int_lt (pos 7) n ≡ true)
