use Rattle.std.proofs.Common.{take}
use Rattle.tool_fault.specs.Steps.{PathTo}
use Rattle.tool_fault.proofs.step.follow.Given as goal

abbrev pub invariant-loop-step : goal.invariant-loop-step
invariant-loop-step l = PathTo (take l.step-index l.steps) l.bytes l.offset l.rest
