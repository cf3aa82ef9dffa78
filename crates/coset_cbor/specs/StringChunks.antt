-- The chunks of a string (RFC 8949, section 3.2.3). The flag is true for text strings, and false for byte strings.
use Rattle.std.specs.Prelude.{◌≡◌, ℕ, suc, ◌≤◌, ◌⊎◌, Bool, true, false, ◌&&◌, List, [], ◌∷◌, ◌++◌, length, Option, Some, Result, Ok, Err}
use Rattle.coset_value.specs.Item.{Item}
use Rattle.coset_value.specs.Parts.{as_bytes, as_text}
use Rattle.coset_cbor.specs.declared.fault.Fault.{Fault}
use Rattle.coset_cbor.specs.Grammar.{EachInOrder, joined_chunks, string_type, IsDefinite, IsIndefinite}
use Rattle.coset_cbor.specs.Reading.{chunk_at, until_at}
use Rattle.coset_cbor.specs.Whole.{are_bytes, item_of}

-- b is a string, and ss are the contents of its chunks in order. If its length is definite, b is its own only chunk. If
-- not, the chunks are those up to the break.
abbrev pub HasChunks : Bool → List ℕ → List (List ℕ) → Type 0
HasChunks is_text b ss =
    ((s : List ℕ) × (ss ≡ s ∷ []) × IsDefinite is_text s b)
    ⊎ ((c : List ℕ) × EachInOrder (IsDefinite is_text) ss c × IsIndefinite (string_type is_text) c b)

-- c is the bytes of the chunks of the string b. If the length is definite, c is b itself, else the bytes up to the
-- break.
abbrev pub HoldsChunks : Bool → List ℕ → List ℕ → Type 0
HoldsChunks is_text b c = (c ≡ b) ⊎ IsIndefinite (string_type is_text) c b

-- The content of a string of the type that the flag selects.
abbrev pub as_string : Bool → Item → Option (List ℕ)
as_string false v = as_bytes v
as_string true v = as_text v

-- ---- bytes that are chunks one after the other: a test, and the contents of the chunks

-- The chunks read from b and a break after it.
abbrev pub chunks_read : Bool → List ℕ → Result (List (List ℕ) × List ℕ) Fault
chunks_read is_text b = until_at (chunk_at is_text) (suc (length b)) (b ++ 255 ∷ [])

-- No bytes are left.
abbrev pub is_all_read : Result (List (List ℕ) × List ℕ) Fault → Bool
is_all_read (Ok (ss, [])) = true
is_all_read (Ok (ss, x ∷ s)) = false
is_all_read (Err e) = false

abbrev pub contents_or_none : Result (List (List ℕ) × List ℕ) Fault → List (List ℕ)
contents_or_none (Ok x) = x.0
contents_or_none (Err e) = []

unfoldable pub are_chunks : Bool → List ℕ → Bool
are_chunks is_text b = are_bytes b && is_all_read (chunks_read is_text b)

unfoldable pub chunk_contents : Bool → List ℕ → List (List ℕ)
chunk_contents is_text b = contents_or_none (chunks_read is_text b)

-- c is the bytes of the chunks of the string b.
pub record AreChunksOf (is_text : Bool) (b c : List ℕ) : Type 0 where
  pub chunks : are_chunks is_text c ≡ true
  pub counted : length (chunk_contents is_text c) ≤ length c
  pub contents : HasChunks is_text b (chunk_contents is_text c)
  pub held : HoldsChunks is_text b c
  pub whole : as_string is_text (item_of b) ≡ Some (joined_chunks (chunk_contents is_text c))
