use Rattle.std.proofs.Common.{◌≡◌, ◌≤◌, ◌+◌}
use Rattle.tool_explain.specs.Column.{whole, shown}
use Rattle.tool_explain.specs.declared.column.Column.{Column}
use Rattle.std.proofs.Common.{ℕ}
use Rattle.tool_explain.proofs.walk.Walk.run.Given as goal

-- The steps so far added at most one line each, and no byte is left out.
pub record Goes (old new : Column) (steps : ℕ) : Type 0 where
  pub same : whole new ≡ whole old
  pub lines : shown new ≤ shown old + steps

abbrev pub invariant-loop : goal.invariant-loop
invariant-loop l = Goes l.initial.self.column l.self.column l.counter
