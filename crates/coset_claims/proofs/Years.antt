-- Years counted one by one, and in closed form.
use Rattle.std.proofs.Common.{◌≡◌, ℕ, zero, suc, ◌+◌, ◌-◌, ◌*◌, ◌/◌, ◌%◌, ◌<◌, ◌≤◌, refl, sym, ap, ◌∙◌, subst, arith}
use Rattle.std.proofs.lemmas.Bool.Decides.{nat_tests}
use Prim.Native.Nat.{min}
use Rattle.coset_claims.specs.Dates.{days_in_year, year_after}

-- The days of the first `n` years, from the year 1 on.
unfoldable pub days_of_years : ℕ → ℕ
days_of_years zero = 0
days_of_years (suc n) = days_of_years n + days_in_year (suc n)

pub no_years : days_of_years 0 ≡ 0
unfolding days_of_years
no_years = refl

closed-suc : (n : ℕ) → 365 * suc n + suc n / 4 - suc n / 100 + suc n / 400 ≡ 365 * n + n / 4 - n / 100 + n / 400 + days_in_year (suc n)
closed-suc n = grind (arith, nat_tests)

pub closed : (n : ℕ) → days_of_years n ≡ 365 * n + n / 4 - n / 100 + n / 400
unfolding days_of_years
closed zero = refl
closed (suc n) = ap (λ d. d + days_in_year (suc n)) (closed n) ∙ sym (closed-suc n)

rises : (k j l : ℕ) → l ≡ k + j → days_of_years j ≤ days_of_years l
unfolding days_of_years
rises zero j l e = let h : l ≡ j = omega (arith, e) in subst (λ m. days_of_years j ≤ days_of_years m) (sym h) (omega arith)
rises (suc k) j zero e = absurd (omega (arith, e))
rises (suc k) j (suc l) e = let h = rises k j l (omega (arith, e)) in omega (arith, h)

here : (most y n : ℕ) → n < days_in_year y → year_after most y n ≡ (y, n)
unfolding year_after
here zero y n h = refl
here (suc most) y n h = grind (arith, nat_tests)

later : (most y n : ℕ) → days_in_year y ≤ n → year_after (suc most) y n ≡ year_after most (suc y) (n - days_in_year y)
unfolding year_after
later most y n h = grind (arith, nat_tests)

-- Counting from the year `j + 1` ends `k` years later, when `r` days of that year have passed.
pub counted :
    (k most j l n r : ℕ) → l ≡ k + j → k ≤ most → n + days_of_years j ≡ days_of_years l + r → r < days_in_year (suc l) →
    year_after most (suc j) n ≡ (suc l, r)
counted zero most j l n r is enough e h =
    let at : l ≡ j = omega (arith, is) in
    let same : n ≡ r = omega (arith, e, ap days_of_years at) in
    subst (λ m. year_after most (suc m) n ≡ (suc l, r)) at
    (subst (λ m. year_after most (suc l) m ≡ (suc l, r)) (sym same) (here most (suc l) r h))
counted (suc k) zero j l n r is enough e h = absurd (omega (arith, enough))
counted (suc k) (suc most) j l n r is enough e h =
    let next : days_of_years (suc j) ≡ days_of_years j + days_in_year (suc j) = unfold days_of_years in refl in
    let over : l ≡ k + suc j = omega (arith, is) in
    let up = rises k (suc j) l over in
    later most (suc j) n (omega (arith, e, next, up))
    ∙ counted k most (suc j) l (n - days_in_year (suc j)) r over (omega (arith, enough)) (omega (arith, e, next, up)) h

-- The days from the year 1 on, of `e` eras of 400 years, `m` centuries, `q` times four years, and `y` years.
before : (e m q y : ℕ) → m ≤ 3 → q ≤ 24 → y ≤ 3 → days_of_years (400 * e + 100 * m + 4 * q + y) ≡ 146097 * e + 36524 * m + 1461 * q + 365 * y
before e m q y a b c =
    let n = 400 * e + 100 * m + 4 * q + y in
    let h : n / 4 ≡ 100 * e + 25 * m + q = omega (arith, a, b, c) in
    let i : n / 100 ≡ 4 * e + m = omega (arith, a, b, c) in
    let j : n / 400 ≡ e = omega (arith, a, b, c) in
    omega (arith, closed n, h, i, j)

-- A leap day is the last day of four years, but it ends a century only if that century is the last of an era.
fits : (e m q y t : ℕ) → m ≤ 3 → t < 1461 → 1461 * q + t ≤ 36524 → (m < 3 → 1461 * q + t < 36524) → y ≡ min (t / 365) 3
    → t - 365 * y < days_in_year (suc (400 * e + 100 * m + 4 * q + y))
fits e m q y t a b c d i = grind (arith, nat_tests)

-- The days consist of whole eras of 400 years, centuries, four years and years, and of the days after them.
pub split : (d m y : ℕ) → m ≡ min (d % 146097 / 36524) 3 → y ≡ min ((d % 146097 - 36524 * m) % 1461 / 365) 3
    → (d ≡ days_of_years (400 * (d / 146097) + 100 * m + 4 * ((d % 146097 - 36524 * m) / 1461) + y) + ((d % 146097 - 36524 * m) % 1461 - 365 * y))
    × (((d % 146097 - 36524 * m) % 1461 - 365 * y) < days_in_year (suc (400 * (d / 146097) + 100 * m + 4 * ((d % 146097 - 36524 * m) / 1461) + y)))
split d m y a b =
    let g = d % 146097 - 36524 * m in
    let few : m ≤ 3 = omega (arith, a) in
    let years : y ≤ 3 = omega (arith, b) in
    let left : g ≤ 36524 = omega (arith, a) in
    let less : m < 3 → g < 36524 = λ h. omega (arith, a, h) in
    let whole : 1461 * (g / 1461) + g % 1461 ≡ g = omega arith in (
      omega (arith, before (d / 146097) m (g / 1461) y few (omega (arith, left)) years, a, b),
      fits (d / 146097) m (g / 1461) y (g % 1461) few (omega arith) (omega (arith, whole, left)) (λ h. omega (arith, whole, less h)) b,
    )

-- There are at most as many years as days.
pub before_enough : (k d r : ℕ) → d ≡ days_of_years k + r → k ≤ d
before_enough k d r e = omega (arith, e, closed k)
