use Rattle.std.proofs.Common.{◌*◌, ◌^◌, ◌∙◌, ℕ, ap, arith}
use Rattle.std.specs.Ordering.{nat_cmp, ordering_reverse}
use Rattle.coset_claims.proofs.Comparing.{turned, with_scale}
use Rattle.coset_claims.proofs.number.compare_units.Goals as goal

pub returns-then-number : goal.returns-then-number
returns-then-number c =
    let n = c.args.number.now in
    c.compare_scaled.ensures ∙ (with_scale c.from-significand.result n.exponent c.args.k n.scale (omega (arith, c.if-number.true))
    ∙ ap (λ (z : ℕ). nat_cmp (z * 2 ^ n.exponent) (c.args.k * 2 ^ n.scale)) c.from-significand.ensures)

pub returns-else-number : goal.returns-else-number
returns-else-number c =
    let n = c.args.number.now in
    c.reverse.ensures ∙ (ap ordering_reverse (c.compare_scaled-else-number.ensures
    ∙ with_scale c.args.k n.scale c.from-significand.result n.exponent (omega (arith, c.if-number.false)))
    ∙ (turned (c.args.k * 2 ^ n.scale) (c.from-significand.result * 2 ^ n.exponent)
    ∙ ap (λ (z : ℕ). nat_cmp (z * 2 ^ n.exponent) (c.args.k * 2 ^ n.scale)) c.from-significand.ensures))
