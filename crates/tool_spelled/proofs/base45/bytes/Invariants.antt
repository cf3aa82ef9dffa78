use Rattle.std.proofs.Common.{◌≡◌, ◌≤◌, ◌++◌, length}
use Rattle.std.specs.Prelude.{option_map}
use Rattle.tool_spelled.specs.Base45.{base45}
use Rattle.tool_spelled.proofs.base45.bytes.Given as goal

abbrev pub decreases-loop-number : goal.decreases-loop-number
decreases-loop-number l = length l.left

-- The bytes are those so far, followed by those of the remaining text.
abbrev pub invariant-loop-number : goal.invariant-loop-number
invariant-loop-number l = (base45 l.text ≡ option_map (λ b. l.bytes.items ++ b) (base45 l.left)) × (length l.left ≤ length l.text)
