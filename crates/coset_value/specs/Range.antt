-- The ranges of CBOR's numbers and lengths (RFC 8949, section 3). Every argument is below 2 ^ 64, and text strings are
-- UTF-8.
use Rattle.std.specs.Prelude.{◌^◌, ◌<◌, ⊤, ℤ, pos, negsuc, length}
use Rattle.std.specs.Str.{IsUtf8}
use Rattle.coset_value.specs.Item.{Bits, half, single, double, Item, integer, bytes, float, text, boolean, null, tag, array, dict, Items, no_items, item, Pairs}
use Rattle.coset_value.specs.Item.{no_pairs, pair, items_count, pairs_count}

-- The integer is from -2 ^ 64 to 2 ^ 64 - 1. `negsuc n` is -1 - n.
abbrev pub IsIntegerInRange : ℤ → Type 0
IsIntegerInRange (pos n) = n < 2 ^ 64
IsIntegerInRange (negsuc n) = n < 2 ^ 64

-- The bits fit the width.
abbrev pub AreBitsInRange : Bits → Type 0
AreBitsInRange (half n) = n < 2 ^ 16
AreBitsInRange (single n) = n < 2 ^ 32
AreBitsInRange (double n) = n < 2 ^ 64

abbrev mutual
  -- Every number and length in the item is in CBOR's range, and every text string is UTF-8.
  pub IsInRange : Item → Type 0
  IsInRange (integer n) = IsIntegerInRange n
  IsInRange (bytes s) = length s < 2 ^ 64
  IsInRange (float x) = AreBitsInRange x
  IsInRange (text s) = (length s < 2 ^ 64) × IsUtf8 s
  IsInRange (boolean b) = ⊤
  IsInRange null = ⊤
  IsInRange (tag t v) = (t < 2 ^ 64) × IsInRange v
  IsInRange (array vs) = (items_count vs < 2 ^ 64) × AreInRange vs
  IsInRange (dict ps) = (pairs_count ps < 2 ^ 64) × ArePairsInRange ps

  pub AreInRange : Items → Type 0
  AreInRange no_items = ⊤
  AreInRange (item v vs) = IsInRange v × AreInRange vs

  pub ArePairsInRange : Pairs → Type 0
  ArePairsInRange no_pairs = ⊤
  ArePairsInRange (pair k v ps) = IsInRange k × IsInRange v × ArePairsInRange ps
