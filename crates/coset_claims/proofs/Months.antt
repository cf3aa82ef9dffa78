-- Months counted one by one.
use Rattle.std.proofs.Common.{◌≡◌, ℕ, zero, suc, ◌+◌, ◌-◌, ◌<◌, ◌≤◌, refl, sym, ap, ◌∙◌, subst, arith}
use Rattle.std.proofs.lemmas.Bool.Decides.{nat_tests}
use Rattle.coset_claims.specs.Dates.{days_in_month, month_after}

pub here : (most y m n : ℕ) → n < days_in_month y m → month_after most y m n ≡ (m, n)
unfolding month_after
here zero y m n h = refl
here (suc most) y m n h = grind (arith, nat_tests)

later-suc : (most y m n : ℕ) → days_in_month y m ≤ n → month_after (suc most) y m n ≡ month_after most y (suc m) (n - days_in_month y m)
unfolding month_after
later-suc most y m n h = grind (arith, nat_tests)

pub later : (y m n : ℕ) → m < 12 → days_in_month y m ≤ n → month_after (12 - (m + 1)) y (m + 1) (n - days_in_month y m) ≡ month_after (12 - m) y m n
later y m n a h =
    let most : 12 - m ≡ suc (12 - (m + 1)) = omega (arith, a) in
    let next : m + 1 ≡ suc m = omega arith in
    subst (λ k. month_after (12 - (m + 1)) y k (n - days_in_month y m) ≡ month_after (12 - m) y m n) (sym next)
    (sym (ap (λ k. month_after k y m n) most ∙ later-suc (12 - (m + 1)) y m n h))

pub last : (y m n : ℕ) → m ≡ 12 → month_after (12 - m) y m n ≡ (12, n)
unfolding month_after
last y m n e = subst (λ k. month_after (12 - k) y k n ≡ (12, n)) (sym e) refl
