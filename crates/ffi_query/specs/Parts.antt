-- The parts of an item (RFC 8152, sections 3 to 7).
use Rattle.std.specs.Prelude.{◌≡◌, ◌<◌, ℕ, List, Option, Some, None, Bool, true, false, option_and_then, if◌then◌else◌}
use Rattle.coset.specs.Item.{Item, Items, items_count}
use Rattle.ffi_query.specs.declared.kind.Kind as kinds
use Rattle.ffi_query.specs.declared.kind.Kind.TheVariants.{Sign1, Sign, Mac0, Mac, Encrypt0, Encrypt, Signature, Recipient}
use Rattle.ffi_query.specs.declared.kind.Kind.TheVariants.{Header, Key, KeySet, Claims, Any, KdfContext}
use Rattle.ffi_query.specs.declared.part.Part as parts
use Rattle.ffi_query.specs.declared.refusal.Refusal as refusals
use Rattle.ffi_query.specs.declared.refusal.Refusal.TheVariants.{Absent, Empty}
use Rattle.ffi_query.specs.declared.part.Part.TheVariants.{Protected, Payload, Ciphertext, Proof}
use Rattle.ffi_query.specs.Places.{bytes_in, member_at, members}
use Rattle.ffi_query.specs.Results.{IsEncodingOf}

-- Items of this kind are arrays that begin with two headers.
abbrev pub has_headers : kinds.Kind → Bool
has_headers Header = false
has_headers Key = false
has_headers KeySet = false
has_headers Claims = false
has_headers Any = false
has_headers KdfContext = false
has_headers k = true

-- The index of payload : bstr / nil.
abbrev pub payload_place : kinds.Kind → Option ℕ
payload_place (Sign1 f) = Some 2
payload_place (Sign f) = Some 2
payload_place (Mac0 f) = Some 2
payload_place (Mac f) = Some 2
payload_place k = None

-- The index of ciphertext : bstr / nil.
abbrev pub ciphertext_place : kinds.Kind → Option ℕ
ciphertext_place (Encrypt0 f) = Some 2
ciphertext_place (Encrypt f) = Some 2
ciphertext_place Recipient = Some 2
ciphertext_place k = None

-- The index of signature : bstr, or tag : bstr.
abbrev pub proof_place : kinds.Kind → Option ℕ
proof_place (Sign1 f) = Some 3
proof_place (Mac0 f) = Some 3
proof_place (Mac f) = Some 3
proof_place Signature = Some 2
proof_place k = None

-- The part's index in the item's array.
abbrev pub place_of : parts.Part → kinds.Kind → Option ℕ
place_of Protected k = if has_headers k then Some 0 else None
place_of Payload k = payload_place k
place_of Ciphertext k = ciphertext_place k
place_of Proof k = proof_place k

-- The part that is the content of a message.
abbrev pub content_part : kinds.Kind → parts.Part
content_part (Encrypt0 f) = Ciphertext
content_part (Encrypt f) = Ciphertext
content_part k = Payload

-- t is the content of this part of the item v, of kind k.
abbrev pub IsPart : kinds.Kind → parts.Part → Item → List ℕ → Type 0
IsPart k p v t = option_and_then (λ n. bytes_in n v) (place_of p k) ≡ Some t

-- t is the shortest encoding of the element at index i.
abbrev pub IsMember : kinds.Kind → ℕ → Item → List ℕ → Type 0
IsMember k i v t = IsEncodingOf (member_at k i v) t

-- n is the number of elements.
abbrev pub IsCount : kinds.Kind → Item → ℕ → Type 0
IsCount k v n = (vs : Items) × (members k v ≡ Some vs) × (n ≡ items_count vs)

-- n is the number of elements, and at least 1.
abbrev pub IsPositiveCount : kinds.Kind → Item → ℕ → Type 0
IsPositiveCount k v n = IsCount k v n × (0 < n)

-- The reason why there is no count. `Absent`: the item v, of kind k, has no list. `Empty`: the list is empty. It should
-- have at least one element (RFC 8152, sections 4.1, 5.1, 6.1 and 7).
abbrev pub HasNoCount : kinds.Kind → Item → refusals.Refusal → Type 0
HasNoCount k v Absent = members k v ≡ None
HasNoCount k v Empty = IsCount k v 0
HasNoCount k v r = ⊥
