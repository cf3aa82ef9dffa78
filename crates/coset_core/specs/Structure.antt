-- The structures that are signed, authenticated, or go with a ciphertext (RFC 8152, sections 4.4, 5.3 and 6.3). They
-- are arrays of a context, which is a text, and byte strings. Other items may follow these.
use Rattle.std.specs.Prelude.{◌≡◌, ◌<◌, ◌+◌, ◌^◌, ℕ, List, [], ◌∷◌, ◌++◌, length}
use Rattle.coset_value.specs.Item.{Item, bytes, text, array, Items, no_items, item}
use Rattle.coset_value.specs.Range.{IsInRange, AreInRange}
use Rattle.coset_cbor.specs.Least.{least_encoding, least_encodings, least_head}

-- These byte strings, in order, and then these items.
abbrev pub byte_strings_and : List (List ℕ) → Items → Items
byte_strings_and [] vs = vs
byte_strings_and (s ∷ ss) vs = item (bytes s) (byte_strings_and ss vs)

-- These byte strings, in order.
abbrev pub byte_strings : List (List ℕ) → Items
byte_strings ss = byte_strings_and ss no_items

-- [context : tstr, * bstr, and then these]
abbrev pub structure_and : List ℕ → List (List ℕ) → Items → Item
structure_and context parts vs = array (item (text context) (byte_strings_and parts vs))

-- [context : tstr, * bstr]
abbrev pub structure : List ℕ → List (List ℕ) → Item
structure context parts = structure_and context parts no_items

-- b is the beginning of a structure's shortest encoding: its head, the context and the parts. The head also counts
-- `elements` more elements.
pub record BeginsStructure (b context : List ℕ) (parts : List (List ℕ)) (elements : ℕ) : Type 0 where
  pub begins : b ≡ (least_head 4 (length parts + 1 + elements) ++ least_encoding (text context)) ++ least_encodings (byte_strings parts)
  pub small : length parts + 1 + elements < 2 ^ 64
  pub context_in_range : IsInRange (text context)
  pub in_range : AreInRange (byte_strings parts)
