-- Values that have numbers, and the look-up of a number.
use Rattle.std.specs.Prelude.{◌≡◌, ℕ, ℤ, pos, neg_ℤ, int_lt, Bool, true, false, cond, ◌&&◌, List, [], ◌∷◌, Option, Some}
use Rattle.std.specs.List.{find}
use Rattle.std.specs.declared.cmp.Ordering.{Ordering}
use Rattle.std.specs.Ordering.{int_cmp, int_eq}
use Rattle.std.specs.Cmp.{signed_Decides}
use Rattle.std.proofs.Common.{◌∙◌, ap, refl, sym}
use Rattle.std.proofs.lemmas.Option.{none-some, same_Some}

-- The integer -n.
abbrev pub minus : ℕ → ℤ
minus n = neg_ℤ (pos n)

-- The first value of `xs` whose number is `i`.
abbrev pub first_numbered : {T : Type 0} → (T → ℤ) → List T → ℤ → Option T
first_numbered number xs i = find (λ x. int_eq (number x) i) xs

-- Returns true if each value's number is below the next value's number.
abbrev pub is_ascending : {T : Type 0} → (T → ℤ) → List T → Bool
is_ascending number [] = true
is_ascending number (x ∷ []) = true
is_ascending number (x ∷ y ∷ xs) = int_lt (number x) (number y) && is_ascending number (y ∷ xs)

-- Values compare as their numbers do.
abbrev pub IsOrderOf : {T : Type 0} → (T → ℤ) → (T → T → Ordering) → Type 0
IsOrderOf {T} number cmp = (x y : T) → cmp x y ≡ int_cmp (number x) (number y)

-- One step of a search.
chosen : {T : Type 0} (test : T → Bool) (x y : T) (rest : Option T) (b : Bool) → test x ≡ b → (rest ≡ Some y → test y ≡ true)
    → cond b (Some x) rest ≡ Some y → test y ≡ true
chosen test x y rest true passes later e = ap test (sym (same_Some x y e)) ∙ passes
chosen test x y rest false fails later e = later e

-- The value that a search finds passes the test.
find-Some : {T : Type 0} (test : T → Bool) (xs : List T) (y : T) → find test xs ≡ Some y → test y ≡ true
find-Some test [] y e = absurd (none-some y e)
find-Some test (x ∷ xs) y e = chosen test x y (find test xs) (test x) refl (find-Some test xs y) e

-- The value that a search for a number finds has that number.
pub number-first_numbered : {T : Type 0} (number : T → ℤ) (xs : List T) (i : ℤ) (y : T) → first_numbered number xs i ≡ Some y → number y ≡ i
number-first_numbered number xs i y e = (signed_Decides (number y) i).0 (find-Some (λ x. int_eq (number x) i) xs y e)
