-- Points of elliptic curves, and their octet strings.
use Rattle.std.proofs.Common.{◌≡◌, ℕ, List, [], ◌∷◌, ◌++◌, true, false, length, take, drop, sym, ◌∙◌, ap, arith, length-append}
use Rattle.std.proofs.Math.Seq.{take-append_seam, drop-append_seam}
use Rattle.coset_key.specs.Sec1.{Point, compressed, uncompressed, octets, HaveEqualLength}

tail : List ℕ → List ℕ
tail [] = []
tail (b ∷ rest) = rest

first : List ℕ → ℕ
first [] = 0
first (b ∷ rest) = b

-- If two equal lists are each made of two halves of equal length, the halves are equal.
halves : (x y a b : List ℕ) → x ++ y ≡ a ++ b → length x ≡ length y → length a ≡ length b → (x ≡ a) × (y ≡ b)
halves x y a b e p q =
    let same : length x ≡ length a = omega (arith, length-append x y, length-append a b, ap length e, p, q) in (
      sym (take-append_seam x y) ∙ ((λ i. take (same i) (e i)) ∙ take-append_seam a b),
      sym (drop-append_seam x y) ∙ ((λ i. drop (same i) (e i)) ∙ drop-append_seam a b),
    )

-- An octet string encodes at most one point.
pub points_apart : (p q : Point) → octets p ≡ octets q → HaveEqualLength p → HaveEqualLength q → p ≡ q
unfolding tail first
points_apart (compressed false x) (compressed false y) e m n = ap (λ s. compressed false (tail s)) e
points_apart (compressed true x) (compressed true y) e m n = ap (λ s. compressed true (tail s)) e
points_apart (uncompressed x y) (uncompressed a b) e m n = let h = halves x y a b (ap tail e) m n in λ i. uncompressed (h.0 i) (h.1 i)
points_apart (compressed false x) (compressed true y) e m n = absurd (omega (arith, ap first e))
points_apart (compressed true x) (compressed false y) e m n = absurd (omega (arith, ap first e))
points_apart (compressed false x) (uncompressed a b) e m n = absurd (omega (arith, ap first e))
points_apart (compressed true x) (uncompressed a b) e m n = absurd (omega (arith, ap first e))
points_apart (uncompressed a b) (compressed false x) e m n = absurd (omega (arith, ap first e))
points_apart (uncompressed a b) (compressed true x) e m n = absurd (omega (arith, ap first e))
