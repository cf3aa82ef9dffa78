use Rattle.std.proofs.Common.{◌≡◌, ◌++◌, length}
use Rattle.std.specs.Prelude.{option_map}
use Rattle.tool_spelled.specs.Base64.{bytes_of}
use Rattle.tool_spelled.proofs.base64.bytes_of.Given as goal

abbrev pub decreases-loop-left : goal.decreases-loop-left
decreases-loop-left l = length l.left

-- The bytes are those so far, followed by those of the remaining digits.
abbrev pub invariant-loop-left : goal.invariant-loop-left
invariant-loop-left l = bytes_of l.numbers ≡ option_map (λ b. l.bytes.items ++ b) (bytes_of l.left)
