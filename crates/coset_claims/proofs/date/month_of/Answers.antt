use Rattle.std.proofs.Common.{rules, ◌-◌, ◌+◌, sym, ap, ◌∙◌}
use Rattle.coset_claims.specs.Dates.{month_after}
use Rattle.coset_claims.proofs.Months.{here, last, later}
use Rattle.coset_claims.proofs.date.month_of.Goals as goal

pub returns-then-left-length-clause-month : goal.returns-then-left-length-clause-month
returns-then-left-length-clause-month c =
    sym (here (12 - c.loop-month.month) c.args.year c.loop-month.month c.loop-month.left (search rules)) ∙ c.loop-month.invariant.0

pub loop-month-preserved : goal.loop-month-preserved
loop-month-preserved c = (
  ap (λ d. month_after (12 - (c.loop-month.month + 1)) c.args.year (c.loop-month.month + 1) (c.loop-month.left - d)) c.days_in_month-length.ensures
      ∙ later c.args.year c.loop-month.month c.loop-month.left (search rules) (search rules) ∙ c.loop-month.invariant.0,
  search rules,
)

pub returns-clause-month : goal.returns-clause-month
returns-clause-month c = sym (last c.args.year c.loop-month.month c.loop-month.left (search rules)) ∙ c.loop-month.invariant.0
