-- A test whether bytes are one item, and the item at their start.
use Rattle.std.specs.Prelude.{ℕ, List, [], ◌∷◌, Bool, true, false, ◌&&◌, nat_lt, Result, Ok, Err}
use Rattle.coset_value.specs.Item.{Item, null}
use Rattle.coset_cbor.specs.declared.fault.Fault.{Fault}
use Rattle.coset_cbor.specs.Reading.{item_at}

-- No bytes are left.
abbrev pub is_all : Result (Item × List ℕ) Fault → Bool
is_all (Ok (v, [])) = true
is_all (Ok (v, x ∷ s)) = false
is_all (Err e) = false

abbrev pub item_or_null : Result (Item × List ℕ) Fault → Item
item_or_null (Ok x) = x.0
item_or_null (Err e) = null

-- Every number in the list is a byte.
abbrev pub are_bytes : List ℕ → Bool
are_bytes [] = true
are_bytes (x ∷ s) = nat_lt x 256 && are_bytes s

-- True if the bytes are one item within 256 levels.
unfoldable pub is_one_item : List ℕ → Bool
is_one_item b = are_bytes b && is_all (item_at 256 b)

-- The item at the start of the bytes, or `null` if there is none.
unfoldable pub item_of : List ℕ → Item
item_of b = item_or_null (item_at 256 b)
