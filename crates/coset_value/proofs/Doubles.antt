-- Floats as doubles: std decodes bits to exactly the number that they represent.
use Rattle.std.proofs.Common.{◌≡◌, ◌<◌, ◌≤◌, ◌+◌, ◌-◌, ◌*◌, ◌/◌, ◌%◌, ◌^◌, ℕ, zero, suc, Bool, true, false, T, not, cond, refl, sym, subst}
use Rattle.std.proofs.Common.{ap, ◌∙◌, arith, pos, Some, None, if◌then◌else◌, ◌==◌}
use lib.Dec.{leb, eqb, eqb→eq, leb→le, le→leb}
use lib.Ieee.{Float, nan, inf, fin, neg, Format, binary32, binary64, prec, low, hid, ones, top, odd, of_fields, of_bits, of_int, div, round, up, down}
use lib.Ieee.Exact.{HasValue, odd_sign, round_exact}
use lib.Ieee.Back.{round_whole}
use lib.Ieee.Fits.{eq→eqb}
use lib.Ieee.Fits.{down_pos}
use lib.Pow.{shl_lt, pow_mono}
use native.Mathlib.Nat.{lt_of_lt_of_le, mul_right_comm, eq_of_mul-eq-mul_right}
use mathlib.Core.Bool.{true≢false}
use Rattle.coset_value.specs.Item.{half, single, double}
use Rattle.coset_value.specs.Number.{IsDouble, IsExactly, IsHalf, units_of}

same : (a b : Bool) → (T a → T b) → (T b → T a) → a ≡ b
same true true p q = refl
same true false p q = absurd (p tt)
same false true p q = absurd (q tt)
same false false p q = refl

-- The double d has this sign, exponent and fraction.
abbrev AreFields : Format → Bool → ℕ → ℕ → Float → Type 0
AreFields f s e t d =
    IsExactly (if t == 0 then inf s else nan)
    (if e + 1 == suc (ones f) then None else Some (record { is_negative = s; units = units_of (hid f) e t; scale = low f })) d

fields : (f : Format) (s : Bool) (e t : ℕ) → AreFields f s e t (of_fields f s e t)
unfolding of_fields
fields binary32 s zero t = subst (λ (u : ℕ). HasValue (odd 24 s t 0 149) s u (2 ^ 149)) (omega arith) (odd_sign 24 s t 0 149)
fields binary64 s zero t = subst (λ (u : ℕ). HasValue (odd 53 s t 0 1074) s u (2 ^ 1074)) (omega arith) (odd_sign 53 s t 0 1074)
fields f s (suc x) t = go (eqb (suc x) (ones f)) (eqb (suc x + 1) (suc (ones f)))
    (same (eqb (suc x + 1) (suc (ones f))) (eqb (suc x) (ones f))
    (λ b. let e = eqb→eq (suc x + 1) (suc (ones f)) b in eq→eqb (omega (arith, e)))
    (λ b. let e = eqb→eq (suc x) (ones f) b in eq→eqb (omega (arith, e))))
  where
    go : (b c : Bool) → c ≡ b
        → IsExactly (cond (eqb t 0) (inf s) nan) (cond c None (Some (record { is_negative = s; units = (hid f + t) * 2 ^ x; scale = low f })))
        (cond b (cond (eqb t 0) (inf s) nan) (odd (prec f) s (hid f + t) x (low f)))
    go true true e = refl
    go false false e = odd_sign (prec f) s (hid f + t) x (low f)
    go true false e = absurd (subst T (sym e) tt)
    go false true e = absurd (subst T e tt)

-- A double decoded from bits has the sign, exponent and fraction of those bits.
side_by_side : (f : Format) (n : ℕ) (s : Bool) (e : ℕ) → leb (top f) n ≡ s → n % top f / hid f ≡ e → AreFields f s e (n % hid f) (of_bits f n)
unfolding of_bits
side_by_side f n s e p q =
    subst (λ (s : Bool). AreFields f s e (n % hid f) (of_bits f n)) p
    (subst (λ (e : ℕ). AreFields f (leb (top f) n) e (n % hid f) (of_bits f n)) q (fields f (leb (top f) n) (n % top f / hid f) (n % hid f)))

pub single_exact : (n : ℕ) → IsDouble (single n) (of_bits binary32 n)
single_exact n = side_by_side binary32 n (leb (2 ^ 8) (n / 2 ^ 23)) (n / 2 ^ 23 % 2 ^ 8)
    (same (leb (2 ^ 31) n) (leb (2 ^ 8) (n / 2 ^ 23))
    (λ t. let h = leb→le (2 ^ 31) n t in le→leb (2 ^ 8) (n / 2 ^ 23) (omega (arith, h)))
    (λ t. let h = leb→le (2 ^ 8) (n / 2 ^ 23) t in le→leb (2 ^ 31) n (omega (arith, h))))
    (omega arith)

pub double_exact : (n : ℕ) → IsDouble (double n) (of_bits binary64 n)
double_exact n = side_by_side binary64 n (leb (2 ^ 11) (n / 2 ^ 52)) (n / 2 ^ 52 % 2 ^ 11)
    (same (leb (2 ^ 63) n) (leb (2 ^ 11) (n / 2 ^ 52))
    (λ t. let h = leb→le (2 ^ 63) n t in le→leb (2 ^ 11) (n / 2 ^ 52) (omega (arith, h)))
    (λ t. let h = leb→le (2 ^ 11) (n / 2 ^ 52) t in le→leb (2 ^ 63) n (omega (arith, h))))
    (omega arith)

-- ---- halves

pub few_units : (f e : ℕ) → f < 2 ^ 10 → e < 31 → (1024 + f) * 2 ^ (e - 1) < 2 ^ 41
few_units f e p q = lt_of_lt_of_le (shl_lt 11 (e - 1) (omega (arith, p))) (pow_mono {i = 11 + (e - 1)} {j = 41} (omega (arith, q)))

scaled : (m n d : ℕ) → m * 1 ≡ n * d → m * 1 * 2 ^ 1074 ≡ n * 2 ^ 1050 * (1 * 2 ^ 24 * d)
scaled m n d h = omega (arith, h)

regrouped : (a b d g : ℕ) → a * (1 * 2 ^ 24 * d) ≡ b * 1 * g → a * 2 ^ 24 * d ≡ b * 1 * g
regrouped a b d g h = omega (arith, h)

-- Dividing n by 2 ^ 24 is exact, for n below 2 ^ 41.
quotient : (x : Float) (n : ℕ) → HasValue x false n 1 → n < 2 ^ 41 → HasValue (div binary64 x (fin false 1 (pos 24))) false n (2 ^ 24)
unfolding div
quotient nan n v h = v
quotient (inf s) n v h = absurd v
quotient (fin true m e) n v h = absurd (true≢false v.0)
quotient (fin false m e) n v h =
    go (round binary64 false (m * up e * 1) (1 * 2 ^ 24 * down e))
    (round_exact binary64 false (m * up e * 1) (1 * 2 ^ 24 * down e) n 1050 (omega (arith, down_pos e)) (omega (arith, h))
    (lt_of_lt_of_le (shl_lt 41 1050 h) (pow_mono {i = 41 + 1050} {j = 1074 + 1024} (omega arith))) (scaled (m * up e) n (down e) v.1))
  where
    go : (y : Float) → HasValue y false (m * up e * 1) (1 * 2 ^ 24 * down e) → HasValue y false n (2 ^ 24)
    go nan w = w
    go (inf s) w = w
    go (fin t p g) w =
        let even : p * up g * 2 ^ 24 * down e ≡ n * down g * down e =
        regrouped (p * up g) (m * up e) (down e) (down g) w.1 ∙ ap (λ (k : ℕ). k * down g) v.1 ∙ mul_right_comm n (down e) (down g) in
        (w.0, eq_of_mul-eq-mul_right (down e) (down_pos e) (p * up g * 2 ^ 24) (n * down g) even)

pub half_number : (e t n : ℕ) → (e + 1 ≡ 32 → ⊥) → n ≡ units_of (2 ^ 10) e t → n < 2 ^ 41
    → IsHalf false e t (div binary64 (of_int binary64 (pos n)) (of_bits binary64 4715268809856909312))
unfolding of_int of_bits
half_number e t n p q h = go (eqb (e + 1) 32) (λ b. p (eqb→eq (e + 1) 32 b))
  where
    value : HasValue (div binary64 (round binary64 false n 1) (fin false 1 (pos 24))) false (units_of (2 ^ 10) e t) (2 ^ 24)
    value = subst (λ (u : ℕ). HasValue (div binary64 (round binary64 false n 1) (fin false 1 (pos 24))) false u (2 ^ 24)) q
        (quotient (round binary64 false n 1) n (round_whole binary64 false n (omega (arith, h))) h)

    go : (b : Bool) → (T b → ⊥)
        → IsExactly (if t == 0 then inf false else nan) (if b then None else Some (record { is_negative = false; units = units_of (2 ^ 10) e t; scale = 24 }))
        (div binary64 (round binary64 false n 1) (fin false 1 (pos 24)))
    go true k = absurd (k tt)
    go false k = value

-- Halves that are infinities or NaNs.
pub half_infinity : (e t : ℕ) → e + 1 ≡ 32 → t ≡ 0 → IsHalf false e t (of_bits binary64 9218868437227405312)
unfolding of_bits
half_infinity e t p q = go (eqb (e + 1) 32) (eqb t 0) (eq→eqb p) (eq→eqb q)
  where
    go : (b c : Bool) → T b → T c
        → IsExactly (if c then inf false else nan)
        (if b then None else Some (record { is_negative = false; units = units_of (2 ^ 10) e t; scale = 24 })) (inf false)
    go true true k l = refl
    go true false k l = elim l [ ]
    go false c k l = elim k [ ]

pub half_nan : (e t : ℕ) → e + 1 ≡ 32 → (t ≡ 0 → ⊥) → IsHalf false e t (of_bits binary64 9221120237041090560)
unfolding of_bits
half_nan e t p q = go (eqb (e + 1) 32) (eqb t 0) (eq→eqb p) (λ b. q (eqb→eq t 0 b))
  where
    go : (b c : Bool) → T b → (T c → ⊥)
        → IsExactly (if c then inf false else nan) (if b then None else Some (record { is_negative = false; units = units_of (2 ^ 10) e t; scale = 24 })) nan
    go true true k l = absurd (l tt)
    go true false k l = refl
    go false c k l = elim k [ ]

negated : (x : Float) (n d : ℕ) → HasValue x false n d → HasValue (neg x) true n d
unfolding neg
negated nan n d v = v
negated (inf s) n d v = v
negated (fin s m e) n d v = (ap not v.0, v.1)

negative : (e t : ℕ) (x : Float) → IsHalf false e t x → IsHalf true e t (neg x)
unfolding neg
negative e t x h = go (eqb (e + 1) 32) (eqb t 0) h
  where
    go : (b c : Bool)
        → IsExactly (if c then inf false else nan) (if b then None else Some (record { is_negative = false; units = units_of (2 ^ 10) e t; scale = 24 })) x
        → IsExactly (if c then inf true else nan) (if b then None else Some (record { is_negative = true; units = units_of (2 ^ 10) e t; scale = 24 })) (neg x)
    go true true h = ap neg h
    go true false h = ap neg h
    go false c h = negated x (units_of (2 ^ 10) e t) (2 ^ 24) h

is_leb : (a b : ℕ) → a ≤ b → leb a b ≡ true
is_leb a b h = same (leb a b) true (λ t. tt) (λ t. le→leb a b h)

is_not_leb : (a b : ℕ) → (a ≤ b → ⊥) → leb a b ≡ false
is_not_leb a b h = same (leb a b) false (λ t. absurd (h (leb→le a b t))) (λ t. absurd t)

pub negative_half : (n : ℕ) (x : Float) → 32 ≤ n / 1024 → IsHalf false (n / 1024 % 32) (n % 1024) x → IsDouble (half n) (neg x)
negative_half n x p h =
    subst (λ (s : Bool). IsHalf s (n / 1024 % 32) (n % 1024) (neg x)) (sym (is_leb 32 (n / 1024) p)) (negative (n / 1024 % 32) (n % 1024) x h)

pub positive_half : (n : ℕ) (x : Float) → (32 ≤ n / 1024 → ⊥) → IsHalf false (n / 1024 % 32) (n % 1024) x → IsDouble (half n) x
positive_half n x p h = subst (λ (s : Bool). IsHalf s (n / 1024 % 32) (n % 1024) x) (sym (is_not_leb 32 (n / 1024) p)) h
