-- Tests of the elements of a list, one after another.
use Rattle.std.specs.List.{list_all}
use Rattle.std.proofs.Common.{◌≡◌, ◌<◌, ◌≤◌, ◌∙◌, ◌+◌, ◌&&◌, ℕ, suc, Bool, true, false, List, ap, arith, drop, get_or, length, sym}
use Rattle.std.proofs.Math.Seq.{drop-cons}
use Rattle.std.proofs.lemmas.List.{drop_all}

module _ {A : Type 0} (f : A → Bool) (xs : List A) (i : ℕ) where
  -- The element at `i` passes the test.
  pub goes_on : (x : A) → i < length xs → x ≡ get_or xs i x → f x ≡ true → list_all f (drop i xs) ≡ list_all f (drop (i + 1) xs)
  goes_on x inside is h =
      let next : suc i ≡ i + 1 = omega arith in
      ap (list_all f) (drop-cons xs i x inside)
      ∙ (ap (λ b. b && list_all f (drop (suc i) xs)) (ap f (sym is) ∙ h) ∙ ap (λ k. list_all f (drop k xs)) next)

  -- The element at `i` fails it.
  pub fails_at : (x : A) → i < length xs → x ≡ get_or xs i x → f x ≡ false → list_all f (drop i xs) ≡ false
  fails_at x inside is h = ap (list_all f) (drop-cons xs i x inside) ∙ ap (λ b. b && list_all f (drop (suc i) xs)) (ap f (sym is) ∙ h)

  -- No element is left.
  pub none_left : length xs ≤ i → list_all f (drop i xs) ≡ true
  none_left over = ap (list_all f) (drop_all i xs over)
