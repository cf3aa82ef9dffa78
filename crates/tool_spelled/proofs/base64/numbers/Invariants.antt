use Rattle.std.proofs.Common.{◌≤◌, ◌++◌, ℕ, List, length}
use Rattle.tool_spelled.specs.Base64.{AreDigits}
use Rattle.tool_spelled.proofs.base64.numbers.Given as goal

abbrev pub decreases-loop-digit : goal.decreases-loop-digit
decreases-loop-digit l = length l.left

-- If the remaining digits have numbers, the whole text has the numbers so far followed by those.
abbrev pub invariant-loop-digit : goal.invariant-loop-digit
invariant-loop-digit l = ((n : List ℕ) → AreDigits l.left n → AreDigits l.digits (l.numbers.items ++ n)) × (length l.left ≤ length l.digits)
