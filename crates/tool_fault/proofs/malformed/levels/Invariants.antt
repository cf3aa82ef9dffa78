use Rattle.std.proofs.Common.{◌≡◌, ◌≤◌, drop}
use Rattle.tool_fault.specs.Steps.{levels, levels_from}
use Rattle.tool_fault.proofs.malformed.levels.Given as goal

abbrev pub invariant-loop-step : goal.invariant-loop-step
invariant-loop-step l = record { counted : levels l.steps ≡ levels_from l.levels (drop l.step-index l.steps); few : l.levels ≤ l.step-index }
