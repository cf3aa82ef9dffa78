use Rattle.std.proofs.Common.{ℕ, refl, subst}
use Rattle.tool_explain.specs.Column.{EndsAt, place}
use Rattle.tool_explain.proofs.Columns.{place_is}
use Rattle.tool_explain.proofs.apart.explain.Goals as goal
use Rattle.tool_explain.proofs.apart.explain.Goals.{in-Some, in-None}

pub returns-clause-place : goal.returns-clause-place
returns-clause-place c =
    elim c.match-walk.branch [
      | in-Some w ↦
          rw w.fault-is (subst (λ (n : ℕ). EndsAt n c.in_ok-lines.lines.items)
          (place_is (place c.in_ok-walk.walk.column) c.left-left.result w.saturating_sub.result _ _ c.left-left.ensures c.in_ok-walk.ensures.whole
          w.saturating_sub.ensures)
          (c.in_ok-lines.ensures.ends (rw w.fault-is refl)))
      | in-None w ↦ rw w.fault-is tt
    ]
