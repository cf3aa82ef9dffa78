use Rattle.std.proofs.Common.{◌≡◌, length}
use Rattle.tool_spelled.specs.Number.{number}
use Rattle.tool_spelled.proofs.number.number.Given as goal

abbrev pub decreases-loop-digit : goal.decreases-loop-digit
decreases-loop-digit l = length l.left

-- The number of the remaining digits after the number so far is that of all digits.
abbrev pub invariant-loop-digit : goal.invariant-loop-digit
invariant-loop-digit l = number l.radix 0 l.digits ≡ number l.radix l.number l.left
