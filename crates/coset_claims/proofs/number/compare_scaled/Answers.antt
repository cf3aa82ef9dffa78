use Rattle.std.proofs.Common.{◌∙◌, ◌^◌, sym, ap, arith}
use Rattle.std.specs.declared.cmp.Ordering.TheVariants.{Less}
use Rattle.std.specs.Ordering.{ordering_then}
use Rattle.std.proofs.lemmas.Nat.{pow_pos}
use Rattle.coset_claims.proofs.Comparing.{beyond, divided, divided_less, shifted_back}
use Rattle.coset_claims.proofs.number.compare_scaled.Goals as goal

pub returns-else-a-eq0 : goal.returns-else-a-eq0
returns-else-a-eq0 c = beyond c.args.a c.args.b c.args.up (omega (arith, c.if-a-eq0.false)) c.ranges.b.fits (omega (arith, c.if-up-ge128.true))

pub returns-then-quotient-up : goal.returns-then-quotient-up
returns-then-quotient-up c =
    c.cmp-order.ensures ∙ divided c.args.a c.args.b (2 ^ c.args.up) (pow_pos c.args.up)
    (sym (shifted_back c.args.b c.args.up c.ranges.b.fits) ∙ c.if-quotient-up.true)

pub returns-else-quotient-up : goal.returns-else-quotient-up
returns-else-quotient-up c =
    c.then.ensures ∙ (ap (λ o. ordering_then o Less) c.cmp-order.ensures
    ∙ divided_less c.args.a c.args.b (2 ^ c.args.up) (pow_pos c.args.up)
    (λ e. c.if-quotient-up.false (shifted_back c.args.b c.args.up c.ranges.b.fits ∙ e)))
