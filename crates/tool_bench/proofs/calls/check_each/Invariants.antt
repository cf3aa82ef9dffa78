use Rattle.std.proofs.Common.{◌≤◌, length}
use Rattle.tool_bench.proofs.calls.check_each.Given as goal

-- The bytes of the next check are never more than the bytes of the call.
abbrev pub invariant-loop : goal.invariant-loop
invariant-loop g l = length l.item ≤ length l.fn.bytes
