-- `item_eq` returns `true` exactly when two items are equal.
use Rattle.std.specs.Prelude.{◌≡◌, true, ◌&&◌, ◌==◌, refl}
use Rattle.std.proofs.Common.{sym, ap, subst, true≢false}
use Rattle.std.proofs.lemmas.Bool.{and_parts, and_from}
use Rattle.std.specs.Bool.{Decides}
use Rattle.std.specs.Cmp.{IsEquivalence, decided, unsigned_Decides, signed_Decides, booleans_Decides}
use Rattle.std.specs.Cmp.Lexicographic.{bytes_decides}
use Rattle.coset_value.specs.Item.{Bits, half, single, double, Item, integer, bytes, float, text, boolean, null, tag, array, dict, Items, no_items, item, Pairs}
use Rattle.coset_value.specs.Item.{no_pairs, pair}
use Rattle.coset_value.specs.Same.{bits_eq, item_eq, items_eq, pairs_eq}

-- Bits that pass the test are equal.
bits_eq-sound : (x y : Bits) → bits_eq x y ≡ true → x ≡ y
bits_eq-sound (half m) (half n) h = ap half ((unsigned_Decides m n).0 h)
bits_eq-sound (single m) (single n) h = ap single ((unsigned_Decides m n).0 h)
bits_eq-sound (double m) (double n) h = ap double ((unsigned_Decides m n).0 h)
bits_eq-sound x y h = absurd (true≢false (sym h))

-- Bits pass the test against themselves.
bits_eq-itself : (x : Bits) → bits_eq x x ≡ true
bits_eq-itself (half n) = (unsigned_Decides n n).1 refl
bits_eq-itself (single n) = (unsigned_Decides n n).1 refl
bits_eq-itself (double n) = (unsigned_Decides n n).1 refl

-- Items that pass the test are equal.
mutual
  item_eq-sound : (v w : Item) → item_eq v w ≡ true → v ≡ w
  item_eq-sound (integer m) (integer n) h = ap integer ((signed_Decides m n).0 h)
  item_eq-sound (bytes s) (bytes t) h = ap bytes ((bytes_decides s t).0 h)
  item_eq-sound (float x) (float y) h = ap float (bits_eq-sound x y h)
  item_eq-sound (text s) (text t) h = ap text ((bytes_decides s t).0 h)
  item_eq-sound (boolean x) (boolean y) h = ap boolean ((booleans_Decides x y).0 h)
  item_eq-sound null null h = refl
  item_eq-sound (tag t v) (tag u w) h =
      let both = and_parts (t == u) (item_eq v w) h in
      λ i. tag ((unsigned_Decides t u).0 both.0 i) (item_eq-sound v w both.1 i)
  item_eq-sound (array vs) (array ws) h = ap array (items_eq-sound vs ws h)
  item_eq-sound (dict ps) (dict qs) h = ap dict (pairs_eq-sound ps qs h)
  item_eq-sound v w h = absurd (true≢false (sym h))

  items_eq-sound : (vs ws : Items) → items_eq vs ws ≡ true → vs ≡ ws
  items_eq-sound no_items no_items h = refl
  items_eq-sound (item v vs) (item w ws) h =
      let both = and_parts (item_eq v w) (items_eq vs ws) h in
      λ i. item (item_eq-sound v w both.0 i) (items_eq-sound vs ws both.1 i)
  items_eq-sound vs ws h = absurd (true≢false (sym h))

  pairs_eq-sound : (ps qs : Pairs) → pairs_eq ps qs ≡ true → ps ≡ qs
  pairs_eq-sound no_pairs no_pairs h = refl
  pairs_eq-sound (pair j v ps) (pair k w qs) h =
      let both = and_parts (item_eq j k && item_eq v w) (pairs_eq ps qs) h in
      let first = and_parts (item_eq j k) (item_eq v w) both.0 in
      λ i. pair (item_eq-sound j k first.0 i) (item_eq-sound v w first.1 i) (pairs_eq-sound ps qs both.1 i)
  pairs_eq-sound ps qs h = absurd (true≢false (sym h))

-- An item passes the test against itself.
mutual
  item_eq-itself : (v : Item) → item_eq v v ≡ true
  item_eq-itself (integer n) = (signed_Decides n n).1 refl
  item_eq-itself (bytes s) = (bytes_decides s s).1 refl
  item_eq-itself (float x) = bits_eq-itself x
  item_eq-itself (text s) = (bytes_decides s s).1 refl
  item_eq-itself (boolean b) = (booleans_Decides b b).1 refl
  item_eq-itself null = refl
  item_eq-itself (tag t v) = and_from (t == t) (item_eq v v) ((unsigned_Decides t t).1 refl) (item_eq-itself v)
  item_eq-itself (array vs) = items_eq-itself vs
  item_eq-itself (dict ps) = pairs_eq-itself ps

  items_eq-itself : (vs : Items) → items_eq vs vs ≡ true
  items_eq-itself no_items = refl
  items_eq-itself (item v vs) = and_from (item_eq v v) (items_eq vs vs) (item_eq-itself v) (items_eq-itself vs)

  pairs_eq-itself : (ps : Pairs) → pairs_eq ps ps ≡ true
  pairs_eq-itself no_pairs = refl
  pairs_eq-itself (pair k v ps) =
      and_from (item_eq k k && item_eq v v) (pairs_eq ps ps)
      (and_from (item_eq k k) (item_eq v v) (item_eq-itself k) (item_eq-itself v))
      (pairs_eq-itself ps)

-- The test decides equality of items.
pub item_eq-decides : (v w : Item) → Decides (item_eq v w) (v ≡ w)
item_eq-decides v w = (item_eq-sound v w, λ e. subst (λ x. item_eq v x ≡ true) e (item_eq-itself v))

-- The test is reflexive, symmetric and transitive.
pub item_eq_equiv : IsEquivalence item_eq
item_eq_equiv = decided item_eq item_eq-decides
