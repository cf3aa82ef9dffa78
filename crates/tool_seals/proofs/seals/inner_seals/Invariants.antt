use Rattle.std.proofs.Common.{◌≤◌}
use Rattle.std.specs.List.{All}
use Rattle.tool_seals.proofs.seals.inner_seals.Given as goal

-- Each seal so far is of a layer inside the outermost one.
abbrev pub invariant-loop-outer : goal.invariant-loop-outer
invariant-loop-outer l = All (λ s. 1 ≤ s.layer) l.list.items
