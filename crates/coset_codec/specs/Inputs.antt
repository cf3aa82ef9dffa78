-- Reading forward: the items at the input, in a tree or in borrowed bytes.
use Rattle.std.specs.Prelude.{◌≡◌, ◌<◌, ◌≤◌, OnOk, ⊤, ℕ, List, length, codes, Bool, true, false, Option, Some, None, Result, Ok, Err}
use Rattle.std.specs.Vec.Iter.{into_iter_items}
use Rattle.coset_value.specs.Item.{Item, null, Items, no_items, item, items_count, items_depth, Pairs, no_pairs, pair, pairs_count, pairs_depth, depth}
use Rattle.coset_value.specs.Parts.{as_array, as_map}
use Rattle.coset_value.specs.View.{value_item, value_items, value_pairs}
use Rattle.coset_cbor.specs.Cursors as bytes
use Rattle.coset_cbor.specs.Cursors.{bytes_left, keys_and_values}
use Rattle.coset_codec.specs.declared.error.CoseError.{CoseError}
use Rattle.coset_codec.specs.declared.read.decoder.Decoder.{Decoder}
use Rattle.coset_codec.specs.declared.read.decoder.Decoder.TheVariants.{Tree, Borrowed}
use Rattle.coset_codec.specs.declared.read.decoder.ArrayElements.{ArrayElements}
use Rattle.coset_codec.specs.declared.read.decoder.ArrayElements.TheVariants as items
use Rattle.coset_codec.specs.declared.read.decoder.MapEntries.{MapEntries}
use Rattle.coset_codec.specs.declared.read.decoder.MapEntries.TheVariants as pairs
use Rattle.coset_codec.specs.Errors.{IsUnexpected, UnlessMemory}
use Rattle.coset_codec.specs.Kinds.{kind, Says}
use Rattle.coset_codec.specs.Shape.{Shape, is_nil}
use Rattle.coset_codec.specs.Sources.{IsWrongLength}

-- The remaining input: an item, or bytes.
pub data State : Type 0 where
  tree : Item → State
  borrowed : List ℕ → State

-- The remaining input of a decoder.
abbrev pub state : Decoder → State
state (Tree v) = tree (value_item v)
state (Borrowed c) = borrowed (bytes_left c)

-- The item v is at s, and z is the input after it. A tree leaves null.
abbrev pub ItemAt : Item → State → State → Type 0
ItemAt v (tree w) z = (w ≡ v) × (z ≡ tree null)
ItemAt v (borrowed s) z = (a : List ℕ) × (z ≡ borrowed a) × bytes.ItemAt v s a

-- The elements vs of an array are still to be read at s, and z is the input after the array.
abbrev pub AreWithin : ArrayElements → Items → State → State → Type 0
AreWithin (items.Tree it) vs s z = (value_items (into_iter_items it) ≡ vs) × (s ≡ tree null) × (z ≡ tree null)
AreWithin (items.Borrowed p) vs s z = (b : List ℕ) × (a : List ℕ) × (s ≡ borrowed b) × (z ≡ borrowed a) × bytes.AreWithin p vs b a

-- The pairs ps of a map are still to be read at s, and z is the input after the map.
abbrev pub PairsWithin : MapEntries → Pairs → State → State → Type 0
PairsWithin (pairs.Tree it) ps s z = (value_pairs (into_iter_items it) ≡ ps) × (s ≡ tree null) × (z ≡ tree null)
PairsWithin (pairs.Borrowed p) ps s z = (b : List ℕ) × (a : List ℕ) × (s ≡ borrowed b) × (z ≡ borrowed a) × bytes.AreWithin p (keys_and_values ps) b a

-- ---- results of reading

-- If an item is at s, t is the input just after it, and P holds of the item. P says what was returned.
abbrev pub ReadsAt : State → State → (Item → Type 0) → Type 0
ReadsAt s t P = (v : Item) (z : State) → ItemAt v s z → (t ≡ z) × P v

-- The part of v was read, and t is the input just after v. Or v has no such part, and t is s, unchanged.
abbrev pub TakesPart : {T P : Type 0} → (Item → Option P) → (T → P) → Item → State → State → State → Option T → Type 0
TakesPart part view v s t z (Some x) = (part v ≡ Some (view x)) × (t ≡ z)
TakesPart part view v s t z None = (part v ≡ None) × (t ≡ s)

-- The item was null, and t is the input after it. Or v is another item, and t is s, unchanged.
abbrev pub TakesNull : Item → State → State → State → Bool → Type 0
TakesNull v s t z true = (is_nil v ≡ true) × (t ≡ z)
TakesNull v s t z false = (is_nil v ≡ false) × (t ≡ s)

-- The remaining input is borrowed bytes.
abbrev pub IsBorrowed : State → Type 0
IsBorrowed (tree w) = ⊥
IsBorrowed (borrowed s) = ⊤

-- The elements of the array v are to be read at t. Or v is no array and was skipped.
abbrev pub EntersArray : List ℕ → Item → State → State → Result ArrayElements CoseError → Type 0
EntersArray want v t z (Ok m) = (vs : Items) × (as_array v ≡ Some vs) × AreWithin m vs t z
EntersArray want v t z (Err e) = (t ≡ z) × (as_array v ≡ None) × IsUnexpected e × Says (kind v) want e

-- The pairs of the map v are to be read at t. Or v is no map and was skipped.
abbrev pub EntersMap : Item → State → State → Result MapEntries CoseError → Type 0
EntersMap v t z (Ok m) = (ps : Pairs) × (as_map v ≡ Some ps) × PairsWithin m ps t z
EntersMap v t z (Err e) = (t ≡ z) × (as_map v ≡ None) × IsUnexpected e × Says (kind v) (codes "map") e

-- If true, the next element is at t, and the others are to be read after it. If false, no element is left.
abbrev pub Nexts : Items → State → State → ArrayElements → Bool → Type 0
Nexts vs t z m true = (v : Item) × (others : Items) × (mid : State) × (vs ≡ item v others) × ItemAt v t mid × AreWithin m others mid z
Nexts vs t z m false = (vs ≡ no_items) × AreWithin m no_items t z

-- The next element is at t. Or no element is left, the array was skipped, and the error says with `want` that there are
-- too few.
abbrev pub NextPlace : List ℕ → Items → State → State → ArrayElements → Result (Unit {0}) CoseError → Type 0
NextPlace want vs t z m (Ok x) = (v : Item) × (others : Items) × (mid : State) × (vs ≡ item v others) × ItemAt v t mid × AreWithin m others mid z
NextPlace want vs t z m (Err e) = (vs ≡ no_items) × (t ≡ z) × IsWrongLength want e

-- The key of the next pair was read, and its value is at t. Or no pair is left. Or the key has a fault, and the value
-- was skipped.
abbrev pub NextsKey : {K A : Type 0} → Shape A → (K → A) → Pairs → State → State → MapEntries → Result (Option K) CoseError → Type 0
NextsKey s view ps t z m (Ok (Some key)) =
    (k : Item) × (v : Item) × (others : Pairs) × (mid : State) × (ps ≡ pair k v others) × s.describes k (view key) × ItemAt v t mid × PairsWithin m others mid z
NextsKey s view ps t z m (Ok None) = (ps ≡ no_pairs) × PairsWithin m no_pairs t z
NextsKey s view ps t z m (Err e) = (k : Item) × (v : Item) × (others : Pairs) × (ps ≡ pair k v others) × PairsWithin m others t z × UnlessMemory e (s.faults k)

-- ---- how much is left to read

-- The number of bytes left.
abbrev pub length_left : State → ℕ
length_left (tree w) = 0
length_left (borrowed s) = length s

-- The depth of a tree, or the number of bytes left.
abbrev pub input_size : State → ℕ
input_size (tree w) = depth w
input_size (borrowed s) = length s

-- The depth of the elements left in a tree, or the number of bytes left. Recursive readers end because this falls.
abbrev pub items_size : ArrayElements → State → ℕ
items_size (items.Tree it) s = items_depth (value_items (into_iter_items it))
items_size (items.Borrowed p) s = length_left s

-- The depth of the pairs left in a tree, or the number of bytes left.
abbrev pub pairs_size : MapEntries → State → ℕ
pairs_size (pairs.Tree it) s = pairs_depth (value_pairs (into_iter_items it))
pairs_size (pairs.Borrowed p) s = length_left s

-- The most elements of an array that can still be read.
abbrev pub items_turns : ArrayElements → State → ℕ
items_turns (items.Tree it) s = items_count (value_items (into_iter_items it))
items_turns (items.Borrowed p) s = length_left s

-- The most pairs of a map that can still be read.
abbrev pub pairs_turns : MapEntries → State → ℕ
pairs_turns (pairs.Tree it) s = pairs_count (value_pairs (into_iter_items it))
pairs_turns (pairs.Borrowed p) s = length_left s

-- If s is bytes, fewer of them are left at t.
abbrev pub MovesForward : State → State → Type 0
MovesForward (tree w) t = ⊤
MovesForward (borrowed s) t = length_left t < length s

-- Reading goes forward from s to t. At t there are at most as many bytes left as at s. If the result is `Ok` and s is
-- bytes, there are fewer. If an item is at s, t is the input just after it, and P holds of the item.
pub record ReadsForward {A E : Type 0} (s t : State) (result : Result A E) (P : Item → Type 0) : Type 0 where
  pub shrinks : length_left t ≤ length_left s
  pub strictly : OnOk result (MovesForward s t)
  pub reads : ReadsAt s t P
