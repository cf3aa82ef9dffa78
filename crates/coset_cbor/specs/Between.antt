-- The elements that bytes encode one after the other. These are defined by the array or map of indefinite length around
-- the bytes (RFC 8949, section 3.2.2).
use Rattle.std.specs.Prelude.{◌≡◌, ℕ, List, [], ◌∷◌, ◌++◌, Some, None, Ok, unwrap_or}
use Rattle.coset_value.specs.Item.{Items, no_items, Pairs, no_pairs}
use Rattle.coset_value.specs.Parts.{as_array, as_map}
use Rattle.coset_cbor.specs.declared.head.MajorType.{MajorType}
use Rattle.coset_cbor.specs.Heads.{HeadView}
use Rattle.coset_cbor.specs.Reading.{head_at, number_of}
use Rattle.coset_cbor.specs.Whole.{item_of}

-- The array of indefinite length around the bytes s. `map_around` is the map around them.
abbrev pub array_around : List ℕ → List ℕ
array_around s = 0x9F ∷ (s ++ 0xFF ∷ [])

abbrev pub map_around : List ℕ → List ℕ
map_around s = 0xBF ∷ (s ++ 0xFF ∷ [])

-- The elements of the array at the start of `array_around s`, or no items if no array is there. If that array is one
-- item within 256 levels, these are the items that s encodes one after the other.
unfoldable pub items_in : List ℕ → Items
items_in s = unwrap_or (as_array (item_of (array_around s))) no_items

-- The pairs of the map at the start of `map_around s`, or no pairs if no map is there. If that map is one item within
-- 256 levels, these are the pairs that s encodes one after the other.
unfoldable pub pairs_in : List ℕ → Pairs
pairs_in s = unwrap_or (as_map (item_of (map_around s))) no_pairs

-- b begins with a head of major type k, and s is the content after it. If the head announces no number, s ends before
-- the break.
pub record IsContent (k : MajorType) (b s : List ℕ) : Type 0 where
  pub head : HeadView × List ℕ
  pub reads : head_at b ≡ Ok head
  pub major_type : head.0.major_type ≡ k
  pub definite : (n : ℕ) → number_of head.0.argument ≡ Some n → s ≡ head.1
  pub indefinite : number_of head.0.argument ≡ None → (c : List ℕ) → head.1 ≡ c ++ 255 ∷ [] → s ≡ c
