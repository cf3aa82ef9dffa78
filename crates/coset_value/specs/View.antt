-- The item that a `Value` represents.
use Rattle.std.specs.Prelude.{List, [], ◌∷◌, map, string_bytes}
use Rattle.coset_value.specs.Item.{Bits, half, single, double, Item, integer, bytes, float, text, boolean, null, tag, array, dict, Items, no_items, item, Pairs}
use Rattle.coset_value.specs.Item.{no_pairs, pair}
use Rattle.coset_value.specs.declared.float.Float.{Float}
use Rattle.coset_value.specs.declared.float.Float.TheVariants.{Half, Single, Double}
use Rattle.coset_value.specs.declared.value.Value.{Value, fold-Value}
use Rattle.coset_value.specs.declared.value.Value.TheOpen.{Value-F}

-- A float as its width and bits.
abbrev pub bits_of : Float → Bits
bits_of (Half n) = half n
bits_of (Single n) = single n
bits_of (Double n) = double n

-- Lists as `Items` and `Pairs`.
abbrev pub items_of : List Item → Items
items_of [] = no_items
items_of (v ∷ vs) = item v (items_of vs)

abbrev pub pairs_of : List (Item × Item) → Pairs
pairs_of [] = no_pairs
pairs_of (p ∷ ps) = pair p.0 p.1 (pairs_of ps)

-- The item of a value, if the values inside it are already replaced by their items.
abbrev pub value_step : Value-F Item → Item
value_step (Value-F.Integer n) = integer n
value_step (Value-F.Bytes v) = bytes v.items
value_step (Value-F.Float x) = float (bits_of x)
value_step (Value-F.Text s) = text (string_bytes s)
value_step (Value-F.Bool b) = boolean b
value_step Value-F.Null = null
value_step (Value-F.Tag t v) = tag t v.value
value_step (Value-F.Array v) = array (items_of v.items)
value_step (Value-F.Map v) = dict (pairs_of v.items)

-- The item of a value.
abbrev pub value_item : Value → Item
value_item = fold-Value Item value_step

-- The items of a list of values.
abbrev pub value_items : List Value → Items
value_items vs = items_of (map value_item vs)

-- The items of a key and its value.
abbrev pub value_pair : Value × Value → Item × Item
value_pair p = (value_item p.0, value_item p.1)

-- The items of a list of pairs of values.
abbrev pub value_pairs : List (Value × Value) → Pairs
value_pairs ps = pairs_of (map value_pair ps)
