use Rattle.std.proofs.Common.{◌*◌, ◌^◌, ◌∙◌, ◌*ℤ◌, pos, neg_ℤ, if◌then◌else◌, ap, arith, sym}
use Rattle.std.specs.Ordering.{int_cmp}
use Rattle.std.proofs.lemmas.Int.{ints}
use Rattle.std.proofs.lemmas.Nat.{pow_pos}
use Rattle.coset_claims.proofs.Comparing.{negative_below}
use Rattle.coset_claims.proofs.number.compare.Goals as goal

pub returns-then-k-gt0 : goal.returns-then-k-gt0
returns-then-k-gt0 c =
    let n = c.args.number.now in
    let u = n.significand * 2 ^ n.exponent in
    negative_below u (2 ^ n.scale) c.args.k (omega (arith, ints, c.if-k-gt0.true, c.ranges.k.sfits)) (pow_pos n.scale)
    ∙ ap (λ b. int_cmp (if b then neg_ℤ (pos u) else pos u) (c.args.k *ℤ pos (2 ^ n.scale))) (sym c.if-number.true)
