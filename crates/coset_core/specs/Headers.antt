-- Headers (RFC 8152, section 3), and the counter signatures in them, which have headers themselves (section 4.5). All
-- signatures in a protected header's byte string are one layer deeper.
use Rattle.std.specs.Prelude.{◌≡◌, ◌⊎◌, ℕ, zero, suc, List, [], ◌∷◌, length, ◌==◌, ◌&&◌, Option, Some, None, Bool, true, false, option_map, ⊤}
use Rattle.std.specs.Option.{is_none}
use Rattle.coset_value.specs.Item.{Item, bytes, array, Items, no_items, item}
use Rattle.coset_value.specs.Parts.{as_bytes}
use Rattle.coset_cbor.specs.Grammar.{IsItem}
use Rattle.coset_cbor.specs.declared.de.Error.TheVariants.{RecursionLimitExceeded}
use Rattle.coset_codec.specs.Errors.{IsUnexpected}
use Rattle.coset_codec.specs.Serialized.{ContentFaults, content_bytes, serialized_or_empty}
use Rattle.coset_codec.specs.Shape.{Shape, both, fixed, mapped, array_of, ◌then◌, end, any_number, bstr, one_or_more, one_or_array, one_or_many}
use Rattle.coset_codec.specs.declared.error.CoseError.{CoseError}
use Rattle.coset_codec.specs.declared.error.CoseError.TheVariants.{DecodeFailed}
use Rattle.coset_core.specs.Fields.{FieldsView, PerVersion, empty_fields, partial_header, SomeCounterSignatures}

-- ---- views of headers

-- A header: its fields, its counter signatures, and those of version 2. Each signature has a protected header with its
-- kept bytes (`None` if it has none), an unprotected header, and the signature's bytes.
mutual
  pub data HeaderView : Type 0 where
    header_of : FieldsView → Signatures → Signatures → HeaderView

  pub data Signatures : Type 0 where
    no_signatures : Signatures
    signature_and : Option (List ℕ) → HeaderView → HeaderView → List ℕ → Signatures → Signatures

-- The fields of a header, without its signatures.
abbrev pub fields_in : HeaderView → FieldsView
fields_in (header_of f ss ts) = f

abbrev pub counter_signatures_in : HeaderView → Signatures
counter_signatures_in (header_of f ss ts) = ss

abbrev pub countersignatures_in : HeaderView → Signatures
countersignatures_in (header_of f ss ts) = ts

-- A protected header: its kept bytes (`None` if it has none) and the header.
pub record ProtectedView : Type 0 where
  pub original : Option (List ℕ)
  pub header : HeaderView

-- The view of a signature or a countersignature.
pub record SignatureView : Type 0 where
  pub protected : ProtectedView
  pub unprotected : HeaderView
  pub signature : List ℕ

abbrev pub and_signatures : SignatureView → Signatures → Signatures
and_signatures s more = signature_and s.protected.original s.protected.header s.unprotected s.signature more

abbrev pub signatures_of : List SignatureView → Signatures
signatures_of [] = no_signatures
signatures_of (s ∷ ss) = and_signatures s (signatures_of ss)

-- The header without parameters.
abbrev pub empty_header : HeaderView
empty_header = header_of empty_fields no_signatures no_signatures

abbrev pub are_none : Signatures → Bool
are_none no_signatures = true
are_none (signature_and o p u s more) = false

-- Returns true if the header has no parameters.
abbrev pub is_empty_header : HeaderView → Bool
is_empty_header (header_of f ss ts) =
    is_none f.alg
    && (length f.crit == 0
    && (is_none f.content_type
    && (length f.key_id == 0
    && (length f.iv == 0 && (length f.partial_iv == 0 && (are_none ss && (are_none ts && (is_none f.countersignature0_v2 && length f.rest == 0))))))))

-- ---- items that describe headers, with k layers left

-- The value of label 7 or 11 describes signatures: `Are` holds for the items of one signature or of several. Without a
-- value there are no signatures, which `is_none` states.
abbrev pub CounterSignaturesAre : (Items → Type 0) → Type 0 → Option Item → Type 0
CounterSignaturesAre Are is_none None = is_none
CounterSignaturesAre Are is_none (Some w) = (vs : Items) × (one_or_more w ≡ Some vs) × Are vs

-- The item is a map of these fields, and its values of labels 7 and 11 describe the signatures of both versions.
abbrev pub DescribesHeader : (Option Item → Type 0) → (Option Item → Type 0) → FieldsView → Item → Type 0
DescribesHeader First Second f v = (o : PerVersion (Option Item)) × partial_header.describes v (f, o) × First o.0 × Second o.1

-- The content of a byte string describes a header. Empty content describes the empty header, and other content is one
-- item for which P holds.
abbrev pub DescribesContent : (Item → Type 0) → Type 0 → List ℕ → Type 0
DescribesContent P is_empty [] = is_empty
DescribesContent P is_empty (c ∷ b) = (w : Item) × IsItem (c ∷ b) w × P w

-- The item is a byte string, whose bytes are kept. Its content is one layer deeper.
abbrev pub DescribesProtected : (ℕ → Item → Type 0) → Type 0 → Option (List ℕ) → ℕ → Item → Type 0
DescribesProtected P is_empty o zero v = ⊥
DescribesProtected P is_empty o (suc k) v = (b : List ℕ) × (as_bytes v ≡ Some b) × (o ≡ Some b) × DescribesContent (P k) is_empty b

-- [protected, unprotected, signature : bstr]
abbrev pub signed_array : {A B : Type 0} → Shape A → Shape B → Shape (A × (B × (List ℕ × Unit {0})))
signed_array p u = array_of (p then u then bstr then end)

abbrev nothing_wrong : Item → CoseError → Type 0
nothing_wrong v e = ⊥

-- The shape of a single value, from the items that describe it.
abbrev pub described_by : (Item → Type 0) → Shape (Unit {0})
described_by P = fixed P None nothing_wrong

-- The item describes this header. `AreSignatures` says that the items describe these signatures, in order.
abbrev mutual
  pub IsHeader : HeaderView → ℕ → Item → Type 0
  IsHeader (header_of f ss ts) k v =
      DescribesHeader (CounterSignaturesAre (AreSignatures ss k) (ss ≡ no_signatures)) (CounterSignaturesAre (AreSignatures ts k) (ts ≡ no_signatures)) f v

  pub AreSignatures : Signatures → ℕ → Items → Type 0
  AreSignatures no_signatures k vs = vs ≡ no_items
  AreSignatures (signature_and o p u s more) k no_items = ⊥
  AreSignatures (signature_and o p u s more) k (item v vs) =
      (signed_array (described_by (DescribesProtected (IsHeader p) (p ≡ empty_header) o k)) (described_by (IsHeader u k))).describes v (tt, (tt, (s, tt)))
      × AreSignatures more k vs

-- ---- images

-- The value of label 7 or 11, from the images of the signatures.
abbrev pub counter_signatures_item : Signatures → Option Items → Option (Option Item)
counter_signatures_item no_signatures o = Some None
counter_signatures_item (signature_and b p u s more) o = option_map (λ vs. Some (one_or_array vs)) o

abbrev pub header_item : FieldsView → Option (Option Item) → Option (Option Item) → Option Item
header_item f (Some o) (Some p) = partial_header.image (f, (o, p))
header_item f (Some o) None = None
header_item f None q = None

-- The byte string of a protected header, from the image of its map. `signature_item` is the array of a signature, from
-- the images of its headers.
abbrev pub protected_item : Option (List ℕ) → HeaderView → Option Item → Option Item
protected_item o h i = option_map bytes (content_bytes is_empty_header (λ g. i) o h)

abbrev pub signature_item : Option Item → Option Item → List ℕ → Option Item
signature_item p u s = option_map array (both item p (both item u (Some (item (bytes s) no_items))))

-- The image of a header, and the images of its signatures.
abbrev mutual
  pub header_image : HeaderView → Option Item
  header_image (header_of f ss ts) = header_item f (counter_signatures_item ss (signatures_image ss)) (counter_signatures_item ts (signatures_image ts))

  pub signatures_image : Signatures → Option Items
  signatures_image no_signatures = Some no_items
  signatures_image (signature_and o p u s more) =
      both item (signature_item (protected_item o p (header_image p)) (header_image u) s) (signatures_image more)

-- ---- faults of an item

-- A fault of a header: a fault of its map, or a fault C of a value of label 7 or 11.
abbrev pub HeaderFaults : (Item → CoseError → Type 0) → Item → CoseError → Type 0
HeaderFaults C v e = partial_header.faults v e ⊎ SomeCounterSignatures (λ w. C w e) v

-- A fault of a protected header's item: the item is no byte string, no layer is left, or the content has a fault.
abbrev pub ProtectedFaults : (ℕ → Item → CoseError → Type 0) → ℕ → Item → CoseError → Type 0
ProtectedFaults H zero v e = ((as_bytes v ≡ None) × IsUnexpected e) ⊎ ((b : List ℕ) × (as_bytes v ≡ Some b) × (e ≡ DecodeFailed RecursionLimitExceeded))
ProtectedFaults H (suc k) v e = ((as_bytes v ≡ None) × IsUnexpected e) ⊎ ((b : List ℕ) × (as_bytes v ≡ Some b) × ContentFaults (fixed (λ w. ⊤) None (H k)) b e)

-- A fault of a value of label 7 or 11, to a depth of n nested signatures.
abbrev pub counter_signatures_faults : ℕ → ℕ → Item → CoseError → Type 0
counter_signatures_faults zero k w e = ⊥
counter_signatures_faults (suc n) k w e =
    (one_or_many (any_number (signed_array
    (fixed (λ v. ⊤) None (ProtectedFaults (λ j. HeaderFaults (counter_signatures_faults n j)) k))
    (fixed (λ v. ⊤) None (HeaderFaults (counter_signatures_faults n k)))))).faults w e

-- ---- the shapes

-- A header, with k layers left.
unfoldable pub layered_header : ℕ → Shape HeaderView
layered_header k = record {
  describes = λ v h. IsHeader h k v;
  image = header_image;
  faults = λ v e. (n : ℕ) × HeaderFaults (counter_signatures_faults n k) v e;
}

-- A protected header with no layer left, which no item describes.
abbrev pub no_layer : {A : Type 0} → (A → Option (List ℕ)) → Shape A
no_layer image = record {
  describes = λ v x. ⊥;
  image = λ x. option_map bytes (image x);
  faults = λ v e. ((as_bytes v ≡ None) × IsUnexpected e) ⊎ ((b : List ℕ) × (as_bytes v ≡ Some b) × (e ≡ DecodeFailed RecursionLimitExceeded));
}

-- The bytes that represent a protected header in messages and under signatures: the kept bytes, if there are any.
-- Otherwise an empty header has no bytes, and any other has the shortest encoding of its map, if there is one.
abbrev pub protected_bytes : ProtectedView → Option (List ℕ)
protected_bytes p = content_bytes is_empty_header header_image p.original p.header

abbrev pub protected_of : Option (List ℕ) × HeaderView → ProtectedView
protected_of p = record { original = p.0; header = p.1 }

abbrev pub both_of : ProtectedView → Option (List ℕ) × HeaderView
both_of p = (p.original, p.header)

abbrev protected_by : ℕ → Shape ProtectedView
protected_by zero = no_layer protected_bytes
protected_by (suc k) = mapped protected_of both_of (serialized_or_empty empty_header is_empty_header (layered_header k))

-- bstr .cbor header / bstr .size 0, with k layers left
unfoldable pub layered_protected : ℕ → Shape ProtectedView
layered_protected k = protected_by k

abbrev pub signature_of : ProtectedView × (HeaderView × (List ℕ × Unit {0})) → SignatureView
signature_of p = record { protected = p.0; unprotected = p.1.0; signature = p.1.1.0 }

abbrev pub elements_of : SignatureView → ProtectedView × (HeaderView × (List ℕ × Unit {0}))
elements_of s = (s.protected, (s.unprotected, (s.signature, tt)))

-- [protected, unprotected, signature : bstr], with k layers left
abbrev pub layered_signature : ℕ → Shape SignatureView
layered_signature k = mapped signature_of elements_of (signed_array (layered_protected k) (layered_header k))

-- The value of label 7 or 11: one signature or several.
abbrev pub signatures_within : ℕ → Shape (List SignatureView)
signatures_within k = one_or_many (any_number (layered_signature k))

-- The maximum number of protected headers' byte strings inside one another.
abbrev pub LAYERS : ℕ
LAYERS = 16

abbrev pub header : Shape HeaderView
header = layered_header LAYERS

abbrev pub protected : Shape ProtectedView
protected = layered_protected LAYERS

abbrev pub signature : Shape SignatureView
signature = layered_signature LAYERS
