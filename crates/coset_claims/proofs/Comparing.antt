-- Comparing numbers whose units are multiplied by powers of 2.
use Rattle.std.proofs.Common.{◌≡◌, ℕ, zero, suc, ◌-◌, ◌+◌, ◌*◌, ◌/◌, ◌%◌, ◌^◌, ◌<◌, ◌≤◌, ap, sym}
use Rattle.std.proofs.Common.{subst, refl, arith, ◌∙◌, ◌≢◌, ℤ, pos, negsuc, ◌<ℤ◌, ◌*ℤ◌, neg_ℤ}
use Rattle.std.specs.declared.cmp.Ordering.{Ordering}
use Rattle.std.specs.declared.cmp.Ordering.TheVariants.{Less, Equal, Greater}
use Rattle.std.specs.Ordering.{int_cmp, nat_cmp, ordering_then, ordering_reverse, MatchOrdering}
use Rattle.std.specs.Cmp.{int_cmp_is, nat_cmp_is}
use Rattle.std.proofs.lemmas.Cmp.{ranked}
use Rattle.std.proofs.lemmas.Int.{ints}
use Rattle.std.proofs.lemmas.Nat.{pow-add, pow_pos, div-add-mod'}
use Rattle.std.proofs.Math.Nat.{mul-lt-mul_of_pos_right, mul-le-mul_right, mul_assoc, mod-lt, mod-eq_of_lt, div-mul-le_self}
use Rattle.std.proofs.Math.Nat.{pow-le-pow_right, le-mul_of_pos_right, mul_comm, one-le-mul}
use Rattle.std.proofs.Math.IntN.{pos-*ℤ-pos}

as_ordered : (x y a b : ℕ) → (x < y → a < b) → (x ≡ y → a ≡ b) → (y < x → b < a) → (r : Ordering) → MatchOrdering r (x < y) (x ≡ y) (y < x)
    → MatchOrdering r (a < b) (a ≡ b) (b < a)
as_ordered x y a b l e g Less h = l h
as_ordered x y a b l e g Equal h = e h
as_ordered x y a b l e g Greater h = g h

-- Two numbers compare as two others do, if both pairs have the same order.
same_order : (x y a b : ℕ) → (x < y → a < b) → (x ≡ y → a ≡ b) → (y < x → b < a) → nat_cmp x y ≡ nat_cmp a b
same_order x y a b l e g = nat_cmp_is a b (nat_cmp x y) (as_ordered x y a b l e g (nat_cmp x y) (ranked x y (nat_cmp x y) refl))

pub cancelled : (x y p : ℕ) → 0 < p → nat_cmp (x * p) (y * p) ≡ nat_cmp x y
cancelled x y p h = sym (same_order x y (x * p) (y * p) (λ l. mul-lt-mul_of_pos_right l h) (λ e. ap (λ (z : ℕ). z * p) e) (λ g. mul-lt-mul_of_pos_right g h))

reversed : (x y : ℕ) (r : Ordering) → MatchOrdering r (x < y) (x ≡ y) (y < x) → MatchOrdering (ordering_reverse r) (y < x) (y ≡ x) (x < y)
reversed x y Less h = h
reversed x y Equal h = sym h
reversed x y Greater h = h

pub turned : (x y : ℕ) → ordering_reverse (nat_cmp x y) ≡ nat_cmp y x
turned x y = nat_cmp_is y x (ordering_reverse (nat_cmp x y)) (reversed x y (nat_cmp x y) (ranked x y (nat_cmp x y) refl))

-- Comparing `a * p` with `b` is comparing `a` with the quotient of `b` by `p`, if there is no remainder.
pub divided : (a b p : ℕ) → 0 < p → b / p * p ≡ b → nat_cmp a (b / p) ≡ nat_cmp (a * p) b
divided a b p h e = sym (cancelled a (b / p) p h) ∙ ap (λ (z : ℕ). nat_cmp (a * p) z) e

less_then : (a b p q : ℕ) → q * p < b → b < suc q * p → (r : Ordering) → MatchOrdering r (a < q) (a ≡ q) (q < a)
    → MatchOrdering (ordering_then r Less) (a * p < b) (a * p ≡ b) (b < a * p)
less_then a b p q l u Less h = let m : a * p ≤ q * p = mul-le-mul_right p (omega (arith, h)) in omega (arith, m, l)
less_then a b p q l u Equal h = let m : a * p ≡ q * p = ap (λ (z : ℕ). z * p) h in omega (arith, m, l)
less_then a b p q l u Greater h = let m : suc q * p ≤ a * p = mul-le-mul_right p (omega (arith, h)) in omega (arith, m, u)

-- If there is a remainder, an equal quotient means less.
pub divided_less : (a b p : ℕ) → 0 < p → (b / p * p ≢ b) → ordering_then (nat_cmp a (b / p)) Less ≡ nat_cmp (a * p) b
divided_less a b p h n =
    let q = b / p in
    let most : q * p ≤ b = div-mul-le_self b p in
    let whole : q * p + b % p ≡ b = div-add-mod' b p in
    let rest : b % p < p = mod-lt b h in
    let l : q * p < b = below (q * p) b most n in
    let u : b < suc q * p = omega (arith, whole, rest) in
    nat_cmp_is (a * p) b (ordering_then (nat_cmp a q) Less) (less_then a b p q l u (nat_cmp a q) (ranked a q (nat_cmp a q) refl))
  where
    below : (x y : ℕ) → x ≤ y → (x ≢ y) → x < y
    below x y l n = omega (arith, l, n)

-- 2 to the power of `e` is 2 to the power of `e - c`, times 2 to the power of `c`.
pub split : (e c : ℕ) → c ≤ e → 2 ^ e ≡ 2 ^ (e - c) * 2 ^ c
split e c l = ap (λ (z : ℕ). 2 ^ z) (omega arith) ∙ pow-add 2 (e - c) c

-- Comparing `s * 2 ^ e` with `k * 2 ^ c` is comparing `s * 2 ^ (e - c)` with `k`.
pub with_scale : (s e k c : ℕ) → c ≤ e → nat_cmp (s * 2 ^ (e - c)) k ≡ nat_cmp (s * 2 ^ e) (k * 2 ^ c)
with_scale s e k c l =
    let over : s * 2 ^ e ≡ s * 2 ^ (e - c) * 2 ^ c = ap (λ (z : ℕ). s * z) (split e c l) ∙ sym (mul_assoc s (2 ^ (e - c)) (2 ^ c)) in
    sym (cancelled (s * 2 ^ (e - c)) k (2 ^ c) (pow_pos c)) ∙ ap (λ (z : ℕ). nat_cmp z (k * 2 ^ c)) (sym over)

-- A number other than 0, times 2 to the power of at least 128, is greater than any number of 128 bits.
pub beyond : (a b up : ℕ) → 0 < a → b < 2 ^ 128 → 128 ≤ up → Greater ≡ nat_cmp (a * 2 ^ up) b
beyond zero b up h l n = absurd (omega (arith, h))
beyond (suc t) b up h l n =
    let p : 2 ^ 128 ≤ 2 ^ up = pow-le-pow_right {n = 2} (omega arith) n in
    let m : 2 ^ up ≤ suc t * 2 ^ up = subst (λ (z : ℕ). 2 ^ up ≤ z) (mul_comm (2 ^ up) (suc t)) (le-mul_of_pos_right (2 ^ up) (omega arith)) in
    nat_cmp_is (suc t * 2 ^ up) b Greater (omega (arith, p, m, l))

-- A quotient that is shifted back is at most the original number, so it doesn't overflow 128 bits.
pub shifted_back : (b up : ℕ) → b < 2 ^ 128 → (b / 2 ^ up * 2 ^ up) % 2 ^ 128 ≡ b / 2 ^ up * 2 ^ up
shifted_back b up h = let l : b / 2 ^ up * 2 ^ up ≤ b = div-mul-le_self b (2 ^ up) in mod-eq_of_lt (omega (arith, h, l))

-- A number that isn't positive is less than any positive multiple of a positive number.
pub negative_below : (u p : ℕ) (k : ℤ) → pos 0 <ℤ k → 0 < p → Less ≡ int_cmp (neg_ℤ (pos u)) (k *ℤ pos p)
negative_below u p (pos n) h l =
    let m : 1 ≤ n * p = one-le-mul (omega (arith, ints, h)) l in
    let e : pos n *ℤ pos p ≡ pos (n * p) = pos-*ℤ-pos n p in
    int_cmp_is (neg_ℤ (pos u)) (pos n *ℤ pos p) Less (omega (arith, ints, e, m))
negative_below u p (negsuc n) h l = absurd (omega (arith, ints, h))
