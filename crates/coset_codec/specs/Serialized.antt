-- Byte strings that contain an encoded item (RFC 8152, section 3). The bytes are kept as they were read, because
-- signatures cover them, and are written as they were kept.
use Rattle.std.specs.Prelude.{◌≡◌, ◌⊎◌, ℕ, List, [], ◌∷◌, Option, Some, None, Bool, true, false, option_map}
use Rattle.coset_value.specs.Item.{Item, bytes}
use Rattle.coset_value.specs.Parts.{as_bytes}
use Rattle.coset_cbor.specs.Grammar.{IsItem}
use Rattle.coset_cbor.specs.Least.{least_encoding}
use Rattle.coset_codec.specs.declared.error.CoseError.{CoseError}
use Rattle.coset_codec.specs.Errors.{IsUnexpected}
use Rattle.coset_codec.specs.Shape.{Shape}
use Rattle.coset_codec.specs.Results.{Describes, IsWholeFault}

-- The content of the string. No bytes represent `empty`, and other bytes are one item, which s describes.
abbrev pub ContentDescribes : {A : Type 0} → A → Shape A → List ℕ → A → Type 0
ContentDescribes empty s [] x = x ≡ empty
ContentDescribes empty s (c ∷ b) x = Describes s (c ∷ b) x

-- The error names a fault in the content.
abbrev pub ContentFaults : {A : Type 0} → Shape A → List ℕ → CoseError → Type 0
ContentFaults s [] e = ⊥
ContentFaults s (c ∷ b) e = IsWholeFault (c ∷ b) e ⊎ ((v : Item) × IsItem (c ∷ b) v × s.faults v e)

-- The bytes of a value that was not read: none if the value is empty, else the shortest encoding of its item.
abbrev pub fresh_bytes : Bool → Option Item → Option (List ℕ)
fresh_bytes true o = Some []
fresh_bytes false o = option_map least_encoding o

-- The bytes that were read, or else `fresh_bytes`.
abbrev pub content_bytes : {A : Type 0} → (A → Bool) → (A → Option Item) → Option (List ℕ) → A → Option (List ℕ)
content_bytes is_empty image (Some b) x = Some b
content_bytes is_empty image None x = fresh_bytes (is_empty x) (image x)

-- bstr .cbor s / bstr .size 0, seen as the bytes that were read and their value
abbrev pub serialized_or_empty : {A : Type 0} → A → (A → Bool) → Shape A → Shape (Option (List ℕ) × A)
serialized_or_empty empty is_empty s = record {
  describes = λ v x. (b : List ℕ) × (as_bytes v ≡ Some b) × (x.0 ≡ Some b) × ContentDescribes empty s b x.1;
  image = λ x. option_map bytes (content_bytes is_empty s.image x.0 x.1);
  faults = λ v e. ((as_bytes v ≡ None) × IsUnexpected e) ⊎ ((b : List ℕ) × (as_bytes v ≡ Some b) × ContentFaults s b e);
}
