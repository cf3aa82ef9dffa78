-- Equality of items, as functions that return a `Bool`: `true` exactly when the two items are equal.
use Rattle.std.specs.Prelude.{Bool, true, false, ◌&&◌, ◌==◌}
use Rattle.std.specs.Bool.{beq}
use Rattle.std.specs.Ordering.{int_eq}
use Rattle.std.specs.Cmp.Lexicographic.{pointwise}
use Rattle.coset_value.specs.Item.{Bits, half, single, double, Item, integer, bytes, float, text, boolean, null, tag, array, dict, Items, no_items, item, Pairs}
use Rattle.coset_value.specs.Item.{no_pairs, pair}

-- Returns true if the two floats have the same width and the same bits.
abbrev pub bits_eq : Bits → Bits → Bool
bits_eq (half m) (half n) = m == n
bits_eq (single m) (single n) = m == n
bits_eq (double m) (double n) = m == n
bits_eq x y = false

abbrev mutual
  -- Returns true if the two items have the same kind and the same content.
  pub item_eq : Item → Item → Bool
  item_eq (integer m) (integer n) = int_eq m n
  item_eq (bytes s) (bytes t) = pointwise ◌==◌ s t
  item_eq (float x) (float y) = bits_eq x y
  item_eq (text s) (text t) = pointwise ◌==◌ s t
  item_eq (boolean x) (boolean y) = beq x y
  item_eq null null = true
  item_eq (tag t v) (tag u w) = (t == u) && item_eq v w
  item_eq (array vs) (array ws) = items_eq vs ws
  item_eq (dict ps) (dict qs) = pairs_eq ps qs
  item_eq v w = false

  -- Returns true if the lists have the same length and the same items, in the same order.
  pub items_eq : Items → Items → Bool
  items_eq no_items no_items = true
  items_eq (item v vs) (item w ws) = item_eq v w && items_eq vs ws
  items_eq vs ws = false

  -- Returns true if the lists have the same length and the same keys and values, in the same order.
  pub pairs_eq : Pairs → Pairs → Bool
  pairs_eq no_pairs no_pairs = true
  pairs_eq (pair j v ps) (pair k w qs) = (item_eq j k && item_eq v w) && pairs_eq ps qs
  pairs_eq ps qs = false
