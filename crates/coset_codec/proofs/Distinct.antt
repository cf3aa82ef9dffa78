-- Whether keys are distinct, by comparing each with those after it, or by sorting.
use Rattle.std.proofs.Common.{◌≡◌, ◌+◌, ◌-◌, ◌≤◌, List, [], ◌∷◌, Bool, true, false, not, ◌&&◌, ◌||◌, Option, Some, Ordering, Less, Equal, Greater, is_eq, is_lt}
use Rattle.std.proofs.Common.{Decides, IsPermutation, IsSorted, map, length, get_or, take, drop, refl, sym, ap, ◌∙◌, subst, arith, true≢false}
use Rattle.std.specs.Cmp.{IsTotalOrder}
use Rattle.std.specs.List.{IsDistinct, AllByRecursion, IsAllAdjacentAnswer, list_any, list_all}
use Rattle.std.specs.List.Sorted.{IsSortedByKey}
use Rattle.std.specs.Map.{keys_of}
use Rattle.std.specs.Ordering.{eq_by_cmp, on, is_some_and, partial_lt, ordering_reverse}
use Rattle.std.proofs.lemmas.Bool.{not-true, not_from_false}
use Rattle.std.proofs.lemmas.Bool.Decides.{Decides-and, Decides-like, same_from_decides}
use Rattle.std.proofs.lemmas.Cmp.{on_total, eq_by_cmp_equiv}
use Rattle.std.proofs.lemmas.List.{take_rest}
use Rattle.std.proofs.lemmas.List.Sorted.{IsPermutation-sym}
use Rattle.std.proofs.lemmas.Map.Keys.{IsDistinct-from_sorted, IsDistinct-IsPermutation, apart_from_distinct, sorted_from_all_adjacent}
use Rattle.coset_codec.specs.Maps.{are_distinct}

-- ---- each key against those after it

neither : (a b : Bool) → (not a && not b) ≡ not (a || b)
neither true b = refl
neither false b = refl

-- The elements after the first, in the form of a slice pattern.
abbrev pub after_first : {X : Type 0} → List X → List X
after_first xs = take (length xs - 1) (drop 1 xs)

module _ {K V : Type 0} (eq : K → K → Bool) where
  -- k differs from the key of each pair if and only if k is equal to none of them.
  differs_from_all : (k : K) (ps : List (K × V)) → list_all (λ m. not (eq k m)) (keys_of ps) ≡ not (list_any (λ p. eq k p.0) ps)
  differs_from_all k [] = refl
  differs_from_all k (p ∷ ps) = ap (λ b. not (eq k p.0) && b) (differs_from_all k ps) ∙ neither (eq k p.0) _

  -- If the first key is equal to a later one, the keys are not distinct. Otherwise they are distinct if the later ones
  -- are.
  pub are_distinct_more : {b : Bool} (ps : List (K × V)) (d : K × V) (found : Bool) → 1 ≤ length ps
      → found ≡ list_any (λ p. eq (get_or ps 0 d).0 p.0) (after_first ps) → found ≡ b
      → are_distinct eq (keys_of ps) ≡ (not b && are_distinct eq (keys_of (after_first ps)))
  are_distinct_more [] d found h e was = absurd (omega arith)
  are_distinct_more (p ∷ ps) d found h e was = rw (← was, e, take_rest (p ∷ ps) 1) (ap (λ b. b && are_distinct eq (keys_of ps)) (differs_from_all p.0 ps))

-- ---- keys in another order, and keys that are read from other values

module _ {K : Type 0} (eq : K → K → Bool) where
  -- The test that k is new decides that k is new.
  Decides-new : (k : K) (ks : List K) → Decides (list_all (λ m. not (eq k m)) ks) (AllByRecursion (λ m. eq k m ≡ false) ks)
  Decides-new k [] = (λ e. tt, λ h. refl)
  Decides-new k (m ∷ ks) = Decides-and _ _ (not-true (eq k m), not_from_false (eq k m)) (Decides-new k ks)

  -- The test that no two keys are equal decides that they are distinct.
  pub Decides-are_distinct : (ks : List K) → Decides (are_distinct eq ks) (IsDistinct eq ks)
  unfolding IsDistinct
  Decides-are_distinct [] = (λ e. tt, λ h. refl)
  Decides-are_distinct (k ∷ ks) = Decides-and _ _ (Decides-new k ks) (Decides-are_distinct ks)

  -- The order of the keys does not change the result.
  pub are_distinct-IsPermutation : ((x y : K) → eq x y ≡ eq y x) → (xs ys : List K) → IsPermutation xs ys → are_distinct eq xs ≡ are_distinct eq ys
  are_distinct-IsPermutation flips xs ys moved =
      same_from_decides _ _ (Decides-are_distinct xs)
      (Decides-like _ (IsDistinct-IsPermutation eq flips ys xs (IsPermutation-sym xs ys moved)) (IsDistinct-IsPermutation eq flips xs ys moved)
      (Decides-are_distinct ys))

  differs_from_read : {R : Type 0} (f : R → K) (k : K) (rs : List R) → list_all (λ m. not (eq k m)) (map f rs) ≡ list_all (λ r. not (eq k (f r))) rs
  differs_from_read f k [] = refl
  differs_from_read f k (r ∷ rs) = ap (λ b. not (eq k (f r)) && b) (differs_from_read f k rs)

  -- For keys that f reads from values, the test on the values gives the same result.
  pub are_distinct-map : {R : Type 0} (f : R → K) (rs : List R) → are_distinct eq (map f rs) ≡ are_distinct (on f eq) rs
  are_distinct-map f [] = refl
  are_distinct-map f (r ∷ rs) = λ i. differs_from_read f (f r) rs i && are_distinct-map f rs i

-- ---- sorted keys

-- If two values are in order and differ, the first is less.
less_from_order : (r s : Ordering) → r ≡ ordering_reverse s → is_lt s ≡ false → is_eq r ≡ false → is_lt r ≡ true
less_from_order r Less e p q = absurd (true≢false p)
less_from_order r Equal e p q = absurd (true≢false (sym (ap is_eq e) ∙ q))
less_from_order r Greater e p q = ap is_lt e

Less-from_is_lt : (r : Ordering) → true ≡ is_lt r → r ≡ Less
Less-from_is_lt Less e = refl
Less-from_is_lt Equal e = absurd (true≢false e)
Less-from_is_lt Greater e = absurd (true≢false e)

-- Sorted values are distinct if and only if each is less than the next, as r says.
Decides-by_neighbours :
    {K : Type 0} {cmp : K → K → Ordering} (o : IsTotalOrder cmp) (ks : List K) (r : Bool) → IsSorted cmp ks
    → IsAllAdjacentAnswer (λ x y b. b ≡ is_lt (cmp x y)) ks r → Decides r (IsDistinct (eq_by_cmp cmp) ks)
unfolding IsDistinct
Decides-by_neighbours o [] true s h = (λ e. tt, λ d. refl)
Decides-by_neighbours o [] false s h = absurd (omega (arith, h.1))
Decides-by_neighbours {K} {cmp} o (k ∷ ks) true s h =
    (λ e. IsDistinct-from_sorted cmp (k ∷ ks) (sorted_from_all_adjacent o (k ∷ ks) k (λ i l. Less-from_is_lt _ (h i k l))), λ d. refl)
Decides-by_neighbours {K} {cmp} o (k ∷ ks) false s h =
    let x = get_or (k ∷ ks) h.0 k in
    let y = get_or (k ∷ ks) (h.0 + 1) k in (
      λ e. absurd (true≢false (sym e)),
      λ d. h.2 k
          ∙ less_from_order (cmp x y) (cmp y x) (o.antisymm x y) (s h.0 k (omega arith) h.1)
          (apart_from_distinct (eq_by_cmp cmp) (k ∷ ks) h.0 (h.0 + 1) k d (omega arith) h.1),
    )

-- f reads the keys ks from the values rs, as references are read. A sort put the values in order. r says whether each
-- is then less than the next, by the partial order that agrees with the order.
module _ {R K : Type 0} (f : R → K) {cmp : K → K → Ordering} (o : IsTotalOrder cmp) (eq : K → K → Bool) (ties : (x y : K) → eq x y ≡ is_eq (cmp x y))
    (partial : K → K → Option Ordering) (agrees : (x y : K) → partial x y ≡ Some (cmp x y)) where
  pub are_distinct-sorted : (rs sorted : List R) (ks : List K) (r : Bool) → map f rs ≡ ks → IsPermutation rs sorted → IsSortedByKey f cmp sorted
      → IsAllAdjacentAnswer (λ x y b. b ≡ partial_lt partial (f x) (f y)) sorted r
      → r ≡ are_distinct eq ks
  are_distinct-sorted rs sorted ks r read moved s h =
      let order = on_total f o in
      let same = eq_by_cmp (on f cmp) in
      let rises = subst (λ (lt : R → R → Bool). IsAllAdjacentAnswer (λ x y b. b ≡ lt x y) sorted r) (λ i x y. is_some_and is_lt (agrees (f x) (f y) i)) h in
      same_from_decides _ _ (Decides-by_neighbours order sorted r s rises) (Decides-are_distinct same sorted)
      ∙ sym (are_distinct-IsPermutation same (eq_by_cmp_equiv order).symm rs sorted moved)
      ∙ sym (are_distinct-map (eq_by_cmp cmp) f rs)
      ∙ (λ i. are_distinct (λ x y. sym (ties x y) i) (read i))
