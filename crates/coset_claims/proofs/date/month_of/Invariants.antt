use Rattle.std.proofs.Common.{◌≡◌, ◌-◌, ◌≤◌}
use Rattle.coset_claims.specs.Dates.{month_after}
use Rattle.coset_claims.proofs.date.month_of.Given as goal

abbrev pub invariant-loop-month : goal.invariant-loop-month
invariant-loop-month l = (month_after (12 - l.month) l.fn.year l.month l.left ≡ month_after 11 l.fn.year 1 l.fn.days) × (l.left ≤ l.fn.days)
