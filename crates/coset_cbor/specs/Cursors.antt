-- Reading forward over bytes, when items are known to be at their start (RFC 8949, section 3).
use Rattle.std.specs.Prelude.{◌≡◌, ℕ, ◌+◌, ◌^◌, ◌<◌, List, ◌∷◌, ◌++◌, Bool, true, false, Option, Some, None, Result, Ok, Err, ◌≢◌, option_map}
use Rattle.coset_value.specs.Item.{Item, null, Items, no_items, item, items_count, Pairs, no_pairs, pair}
use Rattle.coset_value.specs.Parts.{as_map}
use Rattle.coset_cbor.specs.declared.cursor.Cursor.{Cursor}
use Rattle.coset_cbor.specs.declared.cursor.Remaining.{Remaining}
use Rattle.coset_cbor.specs.Grammar.{IsItem}

-- The remaining input.
abbrev pub bytes_left : Cursor → List ℕ
bytes_left c = c.rest.now

-- The item v, within 256 levels, is at the start of s, and a follows it.
unfoldable pub ItemAt : Item → List ℕ → List ℕ → Type 0
ItemAt v s a = (b : List ℕ) × (s ≡ b ++ a) × IsItem b v

-- The items are at the start of s, one after the other, and a follows them.
unfoldable pub AreAt : Items → List ℕ → List ℕ → Type 0
AreAt no_items s a = s ≡ a
AreAt (item v vs) s a = (mid : List ℕ) × ItemAt v s mid × AreAt vs mid a

-- The keys and values of a map's pairs, each key before its value.
abbrev pub keys_and_values : Pairs → Items
keys_and_values no_pairs = no_items
keys_and_values (pair k v ps) = item k (item v (keys_and_values ps))

-- The items that a cursor reads in a map: each key, and then its value. `None` for any other item.
abbrev pub map_items : Item → Option Items
map_items v = option_map keys_and_values (as_map v)

-- The items vs of an array or map are still to be read at s, and a follows that array or map.
pub record AreWithin (p : Remaining) (vs : Items) (s a : List ℕ) : Type 0 where
  pub definite : (n : ℕ) → p.left ≡ Some n → (n ≡ items_count vs) × AreAt vs s a
  pub indefinite : p.left ≡ None → AreAt vs s (255 ∷ a)

-- The items that `parts` finds in the array or map v are to be read at t, and a follows v.
abbrev pub Enters : (Item → Option Items) → Item → List ℕ → List ℕ → Remaining → Type 0
Enters parts v t a p = (vs : Items) × (parts v ≡ Some vs) × AreWithin p vs t a

-- If true, the next item is at the start of s, and the others are to be read after it. If false, no item is left.
abbrev pub Nexts : Items → List ℕ → List ℕ → Remaining → Bool → Type 0
Nexts vs s a p true = (v : Item) × (others : Items) × (mid : List ℕ) × (vs ≡ item v others) × ItemAt v s mid × AreWithin p others mid a
Nexts vs s a p false = (vs ≡ no_items) × AreWithin p no_items s a

-- The number of items in that many pairs, if it is below 2^64.
abbrev pub Doubles : Option ℕ → Option ℕ → Type 0
Doubles pairs None = pairs ≡ None
Doubles pairs (Some n) = (m : ℕ) × (pairs ≡ Some m) × (m + m < 2 ^ 64 → n ≡ m + m)

-- The part of v was read, and t is the input just after v. Or v has no such part, and t is s, unchanged.
abbrev pub TakesPart : {T P : Type 0} → (Item → Option P) → (T → P) → Item → List ℕ → List ℕ → List ℕ → Option T → Type 0
TakesPart part view v s t a (Some x) = (part v ≡ Some (view x)) × (t ≡ a)
TakesPart part view v s t a None = (part v ≡ None) × (t ≡ s)

-- The same as `TakesPart`, for a part that is copied. If an allocation fails, t is the input after the item.
abbrev pub CopiesPart : {T P E : Type 0} → (Item → Option P) → (T → P) → Item → List ℕ → List ℕ → List ℕ → Result (Option T) E → Type 0
CopiesPart part view v s t a (Ok o) = TakesPart part view v s t a o
CopiesPart part view v s t a (Err e) = t ≡ a

-- The item was null, and t is the input after it. Or v is another item, and t is s, unchanged.
abbrev pub TakesNull : Item → List ℕ → List ℕ → List ℕ → Bool → Type 0
TakesNull v s t a true = (v ≡ null) × (t ≡ a)
TakesNull v s t a false = (v ≢ null) × (t ≡ s)
