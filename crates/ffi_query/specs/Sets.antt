-- A key of a set by its key identifier (RFC 8152, section 7).
use Rattle.std.specs.Prelude.{◌==◌, ℕ, pos, List, Option, Some, None, Bool, false, option_and_then, if◌then◌else◌}
use Rattle.std.specs.Cmp.Lexicographic.{pointwise}
use Rattle.coset.specs.Item.{Item, bytes, Items, no_items, item}
use Rattle.coset.specs.LabelData.{LabelView, number}
use Rattle.coset.specs.Parts.{as_array}
use Rattle.ffi_query.specs.Results.{IsEncodingOf}
use Rattle.ffi_query.specs.Labels.{value_under}

-- The label kid of a key (section 7.1, table 3).
abbrev pub key_id_label : LabelView
key_id_label = number (pos 2)

-- The item is a byte string with the content t.
abbrev pub holds : List ℕ → Item → Bool
holds t (bytes s) = pointwise ◌==◌ s t
holds t v = false

-- There is an item, and it is a byte string with the content t.
abbrev pub holds_some : List ℕ → Option Item → Bool
holds_some t None = false
holds_some t (Some v) = holds t v

-- The key has the identifier t.
abbrev pub has_key_id : List ℕ → Item → Bool
has_key_id t v = holds_some t (value_under key_id_label v)

-- The first key with the identifier t.
abbrev pub first_key : List ℕ → Items → Option Item
first_key t no_items = None
first_key t (item v vs) = if has_key_id t v then Some v else first_key t vs

-- The first key of the set with the identifier t.
abbrev pub key_in : List ℕ → Item → Option Item
key_in t v = option_and_then (first_key t) (as_array v)

-- s is the shortest encoding of that key.
abbrev pub IsKeyBy : List ℕ → Item → List ℕ → Type 0
IsKeyBy t v s = IsEncodingOf (key_in t v) s
