use Rattle.tool_fault.specs.Steps.{BeginsWithItems}
use Rattle.tool_fault.proofs.step.skip.Given as goal

abbrev pub invariant-loop : goal.invariant-loop
invariant-loop l = BeginsWithItems l.bytes l.counter l.rest
