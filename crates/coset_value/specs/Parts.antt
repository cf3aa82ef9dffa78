-- The contents of items, by kind (RFC 8949, sections 3.1 to 3.4). Each function returns `None` for any other kind.
use Rattle.std.specs.Prelude.{ℕ, ℤ, List, Bool, Option, Some, None}
use Rattle.coset_value.specs.Item.{Item, integer, bytes, text, boolean, tag, array, dict, Items, Pairs}

-- The number of an integer.
abbrev pub as_integer : Item → Option ℤ
as_integer (integer n) = Some n
as_integer v = None

-- The bytes of a byte string.
abbrev pub as_bytes : Item → Option (List ℕ)
as_bytes (bytes s) = Some s
as_bytes v = None

-- The UTF-8 bytes of a text string.
abbrev pub as_text : Item → Option (List ℕ)
as_text (text s) = Some s
as_text v = None

-- The boolean of the simple values `false` and `true`.
abbrev pub as_bool : Item → Option Bool
as_bool (boolean b) = Some b
as_bool v = None

-- The elements of an array, in order.
abbrev pub as_array : Item → Option Items
as_array (array vs) = Some vs
as_array v = None

-- The pairs of a map, in order.
abbrev pub as_map : Item → Option Pairs
as_map (dict ps) = Some ps
as_map v = None

-- The number of a tag, and the enclosed item.
abbrev pub as_tag : Item → Option (ℕ × Item)
as_tag (tag t v) = Some (t, v)
as_tag v = None
