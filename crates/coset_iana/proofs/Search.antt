-- The result of a binary search among values in ascending order of their numbers.
use Rattle.std.proofs.Common.{◌≡◌, ℕ, zero, suc, ◌+◌, ◌<◌, ℤ, true, false, List, [], ◌∷◌, length, get_or, IsTrue, Some, None, Result, Ok, Err, MatchResult}
use Rattle.std.proofs.Common.{refl, ap, arith}
use Rattle.std.specs.Prelude.{int_lt}
use Rattle.std.specs.List.Sorted.{IsBinarySearchResult, IsSearchInRange, IsSortedByKey}
use Rattle.std.specs.declared.cmp.Ordering.TheVariants.{Equal}
use Rattle.std.specs.Ordering.{int_cmp, int_eq, is_eq, is_lt}
use Rattle.std.specs.Cmp.{int_cmp_total}
use Rattle.std.proofs.lemmas.List.Sorted.{searchable_from_sorted}
use Rattle.std.proofs.lemmas.Int.{ints}
use native.Mathlib.Numerals.{unary_clauses}
use Rattle.coset_iana.specs.Registry.{first_numbered, is_ascending}

module _ {T : Type 0} (number : T → ℤ) where
  -- In ascending order, the first number is below all others.
  first_below : (x : T) (xs : List T) (k : ℕ) (d : T) → is_ascending number (x ∷ xs) ≡ true → k < length xs → int_lt (number x) (number (get_or xs k d)) ≡ true
  first_below x [] k d up lt = absurd (omega arith)
  first_below x (y ∷ ys) zero d up lt = grind arith
  first_below x (y ∷ ys) (suc k) d up lt =
      let later : int_lt (number y) (number (get_or ys k d)) ≡ true = first_below y ys k d (grind arith) (omega arith) in
      grind (arith, ints)

  tail_ascends : (x : T) (xs : List T) → is_ascending number (x ∷ xs) ≡ true → is_ascending number xs ≡ true
  tail_ascends x [] up = refl
  tail_ascends x (y ∷ ys) up = grind arith

  -- Values in ascending order are sorted by their numbers.
  sorted : (xs : List T) → is_ascending number xs ≡ true → IsSortedByKey number int_cmp xs
  sorted [] up k d low lt = absurd (omega arith)
  sorted (x ∷ xs) up zero d low lt =
      let below : int_lt (number x) (number (get_or xs 0 d)) ≡ true = first_below x xs 0 d up (omega arith) in
      grind (arith, ints)
  sorted (x ∷ xs) up (suc k) d low lt =
      let later : is_lt (int_cmp (number (get_or xs (k + 1) d)) (number (get_or xs k d))) ≡ false =
      sorted xs (tail_ascends x xs up) k d (omega arith) (omega arith) in
      simp unary_clauses (simp unary_clauses at later)

  module _ (i : ℤ) where
    -- A value with the number is the first with it.
    first_at : (xs : List T) (at : ℕ) (d : T) → is_ascending number xs ≡ true → at < length xs → int_cmp (number (get_or xs at d)) i ≡ Equal
        → first_numbered number xs i ≡ Some (get_or xs at d)
    first_at [] at d up lt same = absurd (omega arith)
    first_at (x ∷ xs) zero d up lt same = rw (ap is_eq same) refl
    first_at (x ∷ xs) (suc k) d up lt same =
        let below : int_lt (number x) (number (get_or xs k d)) ≡ true = first_below x xs k d up (omega arith) in
        let differs : int_eq (number x) i ≡ false = grind (arith, ints) in
        rw differs (first_at xs k d (tail_ascends x xs up) (omega arith) same)

    -- If no value has the number, the look-up finds none.
    none_first : (xs : List T) → ((k : ℕ) (d : T) → k < length xs → int_eq (number (get_or xs k d)) i ≡ false) → first_numbered number xs i ≡ None
    none_first [] none = refl
    none_first (x ∷ xs) none = rw (none 0 x (omega arith)) (none_first xs (λ k d lt. none (suc k) d (omega arith)))

    -- So a binary search and `first_numbered` find the same value, or both find none.
    pub searched : (xs : List T) (r : Result ℕ ℕ) → IsTrue (is_ascending number xs) → IsSearchInRange r (length xs)
        → IsBinarySearchResult (λ x. int_cmp (number x) i) xs r
        → MatchResult r (λ at. (d : T) → first_numbered number xs i ≡ Some (get_or xs at d)) (λ _. first_numbered number xs i ≡ None)
    searched xs (Ok at) up lt same = λ d. first_at xs at d (grind arith) lt (same d)
    searched xs (Err at) up le parted =
        let parts = parted (searchable_from_sorted int_cmp_total number xs i (sorted xs (grind arith))) in
        none_first xs (λ k d lt. grind (arith, parts.0 k d, parts.1 k d))
