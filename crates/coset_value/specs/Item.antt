-- CBOR data items (RFC 8949, sections 2 and 3), apart from their layout in memory.
use Rattle.std.specs.Prelude.{ℕ, suc, max, ℤ, List, Bool}

-- A float: its width and its bits (section 3.3).
pub data Bits : Type 0 where
  half : ℕ → Bits
  single : ℕ → Bits
  double : ℕ → Bits

-- A data item, by its major type (section 3.1). `dict` is the RFC's map, and a text string is its UTF-8 bytes. The only
-- simple values are `false`, `true` and `null`.
mutual
  pub data Item : Type 0 where
    integer : ℤ → Item
    bytes : List ℕ → Item
    float : Bits → Item
    text : List ℕ → Item
    boolean : Bool → Item
    null : Item
    tag : ℕ → Item → Item
    array : Items → Item
    dict : Pairs → Item

  pub data Items : Type 0 where
    no_items : Items
    item : Item → Items → Items

  pub data Pairs : Type 0 where
    no_pairs : Pairs
    pair : Item → Item → Pairs → Pairs

-- The number of items.
abbrev pub items_count : Items → ℕ
items_count no_items = 0
items_count (item v vs) = suc (items_count vs)

-- The number of pairs.
abbrev pub pairs_count : Pairs → ℕ
pairs_count no_pairs = 0
pairs_count (pair k v ps) = suc (pairs_count ps)

-- The nesting depth. An array, a map or a tag is 1 deeper than the deepest item in it. An empty array or map has depth
-- 1. Items of all other kinds have depth 0.
abbrev mutual
  pub depth : Item → ℕ
  depth (integer n) = 0
  depth (bytes s) = 0
  depth (float x) = 0
  depth (text s) = 0
  depth (boolean b) = 0
  depth null = 0
  depth (tag t v) = suc (depth v)
  depth (array vs) = suc (items_depth vs)
  depth (dict ps) = suc (pairs_depth ps)

  pub items_depth : Items → ℕ
  items_depth no_items = 0
  items_depth (item v vs) = max (depth v) (items_depth vs)

  pub pairs_depth : Pairs → ℕ
  pairs_depth no_pairs = 0
  pairs_depth (pair k v ps) = max (depth k) (max (depth v) (pairs_depth ps))
