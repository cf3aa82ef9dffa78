use Rattle.tool_notation.specs.Encoding.{IsSequence}
use Rattle.tool_notation.proofs.read.sequence.Given as goal

-- The bytes so far are items.
abbrev pub invariant-loop : goal.invariant-loop
invariant-loop l = IsSequence l.out.items
