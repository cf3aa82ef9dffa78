-- How signatures in headers keep their bytes, for both versions. The first part is about decoded headers, the
-- second about headers that are written and read again.
use Rattle.std.specs.Prelude.{◌≡◌, ℕ, List, [], ◌∷◌, Option, Some, None}
use Rattle.std.specs.Map.{lookup}
use Rattle.coset_value.specs.Item.{Item, Items, no_items, item}
use Rattle.coset_value.specs.Parts.{as_array, as_bytes}
use Rattle.coset_codec.specs.Lists.{EachHas, EachWith}
use Rattle.coset_label.specs.LabelData.{LabelView, same_label}
use Rattle.coset_core.specs.FieldLabels as labels
use Rattle.coset_core.specs.HeaderMap.{each_of}
use Rattle.coset_core.specs.Headers.{HeaderView, ProtectedView, SignatureView, counter_signatures_in, countersignatures_in, fields_in, protected_bytes}

-- ---- decoding

-- The protected header is represented by the bytes that it was decoded from.
abbrev pub KeepsOwn : ProtectedView → Type 0
KeepsOwn p = (b : List ℕ) × (p.original ≡ Some b) × (protected_bytes p ≡ Some b)

-- The bytes of the byte string in the first element.
abbrev pub first_bytes : Items → Option (List ℕ)
first_bytes no_items = None
first_bytes (item v vs) = as_bytes v

-- The protected header is represented by the bytes that it was decoded from. They are the bytes of the byte string in
-- the first element of the array v.
abbrev pub KeepsFirst : Item → ProtectedView → Type 0
KeepsFirst v p = KeepsOwn p × ((vs : Items) × (as_array v ≡ Some vs) × (first_bytes vs ≡ protected_bytes p))

-- The same, of the protected header of a signature.
abbrev pub KeepsReceived : Item → SignatureView → Type 0
KeepsReceived v s = KeepsFirst v s.protected

-- P holds for each signature under label 7 and under label 11.
abbrev pub EachSignature : (SignatureView → Type 0) → HeaderView → Type 0
EachSignature P h = EachHas P (each_of (counter_signatures_in h)) × EachHas P (each_of (countersignatures_in h))

-- The protected header of each signature in the header is represented by the bytes that it was decoded from.
abbrev pub KeepsSignatures : HeaderView → Type 0
KeepsSignatures h = EachSignature (λ s. KeepsOwn s.protected) h

-- ---- writing and reading again

-- The two signatures have the same bytes, and their protected headers are represented by the same bytes.
abbrev pub KeepsSignature : SignatureView → SignatureView → Type 0
KeepsSignature s t = (protected_bytes t.protected ≡ protected_bytes s.protected) × (t.signature ≡ s.signature)

-- The signatures ss were written under the label l, next to this rest, and the signatures ts were read. They are
-- equally many, and R relates them in order. If ss is empty, so is ts, unless the rest has the label l.
abbrev pub EachReadAs : (SignatureView → SignatureView → Type 0) → LabelView → List (LabelView × Item) → List SignatureView → List SignatureView → Type 0
EachReadAs R l rest [] ts = lookup (same_label l) rest ≡ None → ts ≡ []
EachReadAs R l rest (s ∷ ss) ts = EachWith R (s ∷ ss) ts

-- R relates the signatures written in the header h to those read in g, under label 7 and under label 11.
abbrev pub SignaturesReadAs : (SignatureView → SignatureView → Type 0) → HeaderView → HeaderView → Type 0
SignaturesReadAs R h g =
    EachReadAs R labels.counter_signature (fields_in h).rest (each_of (counter_signatures_in h)) (each_of (counter_signatures_in g))
    × EachReadAs R labels.countersignature_v2 (fields_in h).rest (each_of (countersignatures_in h)) (each_of (countersignatures_in g))

-- If h was written with an abbreviated countersignature of version 2 (label 12), g was read with the same.
abbrev pub KeepsAbbreviated : HeaderView → HeaderView → Type 0
KeepsAbbreviated h g = (s : List ℕ) → (fields_in h).countersignature0_v2 ≡ Some s → (fields_in g).countersignature0_v2 ≡ Some s
