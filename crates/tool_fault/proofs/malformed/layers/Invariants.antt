use Rattle.std.proofs.Common.{◌≡◌, ◌+◌, ◌≤◌, drop}
use Rattle.tool_fault.specs.Steps.{layers}
use Rattle.tool_fault.proofs.malformed.layers.Given as goal

abbrev pub invariant-loop-step : goal.invariant-loop-step
invariant-loop-step l = record { counted : layers l.steps ≡ l.layers + layers (drop l.step-index l.steps); few : l.layers ≤ l.step-index }
