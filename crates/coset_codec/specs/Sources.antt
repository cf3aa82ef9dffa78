-- Items given as a value or as borrowed bytes, as contracts see them. Also the errors for a wrong number of array
-- elements.
use Rattle.std.specs.Prelude.{◌≡◌, List, codes, ℕ, length, zero, suc, Result, Ok, Err}
use Rattle.coset_value.specs.Item.{Item, Items, no_items, depth}
use Rattle.coset_value.specs.View.{value_item}
use Rattle.coset_cbor.specs.Pulls.{pull_bytes, pull_item}
use Rattle.coset_codec.specs.declared.error.CoseError.{CoseError}
use Rattle.coset_codec.specs.declared.error.CoseError.TheVariants.{OutOfMemory}
use Rattle.coset_codec.specs.declared.read.source.ItemSource.{ItemSource}
use Rattle.coset_codec.specs.declared.read.source.ItemSource.TheVariants.{Tree, Borrowed}
use Rattle.coset_codec.specs.Errors.{IsUnexpected}
use Rattle.coset_codec.specs.Kinds.{Says}
use Rattle.coset_codec.specs.Shape.{FirstWrongLength, IsEnd}

-- The item of a source.
abbrev pub source_item : ItemSource → Item
source_item (Tree v) = value_item v
source_item (Borrowed p) = pull_item p

-- The depth of a value, or the number of bytes of a borrowed item.
abbrev pub source_size : ItemSource → ℕ
source_size (Tree v) = depth (value_item v)
source_size (Borrowed p) = length (pull_bytes p)

-- A value of the item, or `OutOfMemory`.
abbrev pub Copies : {T : Type 0} → (T → Item) → Item → Result T CoseError → Type 0
Copies item_of v (Ok x) = item_of x ≡ v
Copies item_of v (Err e) = e ≡ OutOfMemory

-- There are fewer than n elements, or m says that the number of those after the first n is wrong.
abbrev pub wrong_length_after : ℕ → (Items → Type 0) → Items → Type 0
wrong_length_after zero m = m
wrong_length_after (suc n) m = FirstWrongLength (wrong_length_after n m)

-- No number of elements is wrong.
abbrev pub Never : Items → Type 0
Never vs = ⊥

-- The error says with this text that an array has too few elements or too many.
abbrev pub IsWrongLength : List ℕ → CoseError → Type 0
IsWrongLength want e = IsUnexpected e × Says (codes "array") want e

-- No element is left. Or an element is left, and the error says so.
abbrev pub TakesEnd : List ℕ → Items → Result (Unit {0}) CoseError → Type 0
TakesEnd want vs (Ok x) = vs ≡ no_items
TakesEnd want vs (Err e) = IsWrongLength want e × (IsEnd vs → ⊥)
