use Rattle.std.specs.Prelude.{None}
use Rattle.std.specs.List.{All}
use Rattle.tool_explain.specs.Refusal.{JudgesAs}
use Rattle.tool_explain.proofs.guess.fitting.Given as goal

-- The bytes can be read as each kind so far.
abbrev pub invariant-loop-kind : goal.invariant-loop-kind
invariant-loop-kind l = All (λ k. JudgesAs k l.bytes None) l.kinds.items
