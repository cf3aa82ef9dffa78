-- Headers without the counter signatures of both versions, and their maps (RFC 8152, section 3.1).
use Rattle.std.specs.Prelude.{◌≡◌, ◌≢◌, ◌⊎◌, ℕ, ◌==◌, List, [], filter, length, Option, Some, None, true, is_some, ⊤}
use Rattle.std.specs.Str.{trim}
use Rattle.coset_value.specs.Item.{Item, Pairs}
use Rattle.coset_value.specs.Parts.{as_map}
use Rattle.coset_iana.specs.CoapContentFormat as content_formats
use Rattle.coset_iana.specs.HeaderParameter as parameters
use Rattle.coset_iana.specs.Registry.{first_numbered}
use Rattle.coset_iana.specs.WithPrivateRange.{is_private_use}
use Rattle.coset_iana.specs.declared.content_formats.TheConstants.{COAP_CONTENT_FORMATS}
use Rattle.coset_iana.specs.declared.headers.TheConstants.{HEADER_PARAMETERS}
use Rattle.coset_codec.specs.Errors.{IsUnexpected}
use Rattle.coset_codec.specs.Shape.{Shape, such_that, any, mapped, some_of, bstr, nonempty_bstr}
use Rattle.coset_codec.specs.Maps.{Fields, FieldShape, HasLabel, SomePair, Excludes, field, no_field, optional, unless_empty, labelled}
use Rattle.coset_label.specs.LabelData.{LabelView, number, text_label, RegisteredLabelView, same_label}
use Rattle.coset_label.specs.Labels.{label, registered, registered_or_private, algorithm, cose_labels}
use Rattle.coset_core.specs.FieldLabels as labels

-- The view of a header without its counter signatures of both versions.
pub record FieldsView : Type 0 where
  pub alg : Option RegisteredLabelView
  pub crit : List RegisteredLabelView
  pub content_type : Option LabelView
  pub key_id : List ℕ
  pub iv : List ℕ
  pub partial_iv : List ℕ
  pub countersignature0_v2 : Option (List ℕ)
  pub rest : List (LabelView × Item)

-- The fields of the empty header.
abbrev pub empty_fields : FieldsView
empty_fields = record { alg = None; crit = []; content_type = None; key_id = []; iv = []; partial_iv = []; countersignature0_v2 = None; rest = [] }

-- ---- the fields' values

-- An entry of `crit`: a registered header parameter, a private-use number, or a text (RFC 8152, section 3.1).
unfoldable pub critical : Shape RegisteredLabelView
critical = registered_or_private (λ i. is_some (first_numbered parameters.number HEADER_PARAMETERS i)) is_private_use

-- The text names a media type: it isn't empty, doesn't begin or end with white space, and has one '/'.
pub record IsMediaType (s : List ℕ) : Type 0 where
  pub filled : s ≢ []
  pub trimmed : trim s ≡ s
  pub slash : length (filter (λ b. b == 47) s) ≡ 1

abbrev pub IsContentType : LabelView → Type 0
IsContentType (number i) = ⊤
IsContentType (text_label s) = IsMediaType s

-- A content type: the number of a CoAP content format, or a media type.
unfoldable pub content_type : Shape LabelView
content_type = such_that IsUnexpected IsContentType (registered (λ i. is_some (first_numbered content_formats.number COAP_CONTENT_FORMATS i)))

-- ---- maps of the fields

-- A value for each of the two labels of counter signatures, 7 and 11.
abbrev pub PerVersion : Type 0 → Type 0
PerVersion C = C × C

-- The fields by label, in the order in which they are written. C is the type of the values of labels 7 and 11.
abbrev pub FieldTuple : Type 0 → Type 0
FieldTuple C = Option RegisteredLabelView × (List RegisteredLabelView
    × (Option LabelView × (List ℕ × (List ℕ × (List ℕ × (C × (C × (Option (List ℕ) × Unit {0}))))))))

abbrev pub fields : {C : Type 0} → FieldShape C → FieldShape C → Fields LabelView (FieldTuple C)
fields counter_signatures countersignatures_v2 =
    field cose_labels labels.alg (optional algorithm)
    (field cose_labels labels.crit (unless_empty (some_of critical))
    (field cose_labels labels.content_type (optional content_type)
    (field cose_labels labels.kid (unless_empty nonempty_bstr)
    (field cose_labels labels.iv (unless_empty nonempty_bstr)
    (field cose_labels labels.partial_iv (unless_empty nonempty_bstr)
    (field cose_labels labels.counter_signature counter_signatures
    (field cose_labels labels.countersignature_v2 countersignatures_v2
    (field cose_labels labels.countersignature0_v2 (optional bstr)
    no_field))))))))

abbrev pub fields_of : {C : Type 0} → FieldTuple C × List (LabelView × Item) → FieldsView × PerVersion C
fields_of p = (
  record {
    alg = p.0.0;
    crit = p.0.1.0;
    content_type = p.0.1.1.0;
    key_id = p.0.1.1.1.0;
    iv = p.0.1.1.1.1.0;
    partial_iv = p.0.1.1.1.1.1.0;
    countersignature0_v2 = p.0.1.1.1.1.1.1.1.1.0;
    rest = p.1;
  },
  (p.0.1.1.1.1.1.1.0, p.0.1.1.1.1.1.1.1.0),
)

abbrev pub parts_of : {C : Type 0} → FieldsView × PerVersion C → FieldTuple C × List (LabelView × Item)
parts_of x =
    ((x.0.alg, (x.0.crit, (x.0.content_type, (x.0.key_id, (x.0.iv, (x.0.partial_iv, (x.1.0, (x.1.1, (x.0.countersignature0_v2, tt))))))))), x.0.rest)

-- The header doesn't have both IV and Partial IV.
abbrev pub HasOneIv : FieldsView → Type 0
HasOneIv f = (f.iv ≡ []) ⊎ (f.partial_iv ≡ [])

-- The map of the fields, by label, and of the rest. c and d are the shapes of labels 7 and 11.
abbrev pub map_of : {C : Type 0} → FieldShape C → FieldShape C → Shape (FieldsView × PerVersion C)
map_of c d = mapped fields_of parts_of (labelled cose_labels (fields c d))

-- The map has the labels of both IV and Partial IV.
abbrev pub HasBothIvs : Item → Type 0
HasBothIvs v = (ps : Pairs) × (as_map v ≡ Some ps) × HasLabel label.describes labels.iv ps × HasLabel label.describes labels.partial_iv ps

-- {? 1 => algorithm, ? 2 => [+ critical], ? 3 => content_type, ? 4 => bstr .size (1..), ? 5 => bstr .size (1..) //
-- 6 => bstr .size (1..), ? 7 => c, ? 11 => d, ? 12 => bstr, * label => any}
abbrev pub map_with : {C : Type 0} → FieldShape C → FieldShape C → Shape (FieldsView × PerVersion C)
map_with c d = record {
  describes = λ v x. (map_of c d).describes v x × HasOneIv x.0;
  image = (map_of c d).image;
  faults = λ v e. (map_of c d).faults v e ⊎ (HasBothIvs v × IsUnexpected e);
}

-- A header's map, with the values of labels 7 and 11 not decoded.
unfoldable pub partial_header : Shape (FieldsView × PerVersion (Option Item))
partial_header = map_with (optional any) (optional any)

-- The key is a label of counter signatures: 7 or 11.
abbrev pub IsCountersignatureLabel : Item → Type 0
IsCountersignatureLabel k = label.describes k labels.counter_signature ⊎ label.describes k labels.countersignature_v2

-- A pair of the map is under a label of counter signatures, and P holds for its value.
abbrev pub SomeCounterSignatures : (Item → Type 0) → Item → Type 0
SomeCounterSignatures P v = (ps : Pairs) × (as_map v ≡ Some ps) × SomePair (λ k w. IsCountersignatureLabel k × P w) ps

-- The label is refused because of an earlier one: Partial IV after IV, or IV after Partial IV.
abbrev pub excludes : {C : Type 0} → Excludes LabelView (FieldTuple C)
excludes m x e =
    ((same_label labels.iv m ≡ true) × ((fields_of x).0.partial_iv ≢ []) × IsUnexpected e)
    ⊎ ((same_label labels.partial_iv m ≡ true) × ((fields_of x).0.iv ≢ []) × IsUnexpected e)
