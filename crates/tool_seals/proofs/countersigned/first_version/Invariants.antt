use Rattle.std.specs.List.{All}
use Rattle.tool_seals.specs.Seals.{IsCountersignature}
use Rattle.tool_seals.proofs.countersigned.first_version.Given as goal

-- Each seal so far is a countersignature.
abbrev pub invariant-loop-index : goal.invariant-loop-index
invariant-loop-index l = All (IsCountersignature l.asked.layer) l.list.items
