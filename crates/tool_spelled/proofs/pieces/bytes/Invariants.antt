use Rattle.std.proofs.Common.{◌≤◌, ◌++◌, ℕ, List, length}
use Rattle.tool_spelled.specs.Pieces.{ArePieces}
use Rattle.tool_spelled.proofs.pieces.bytes.Given as goal

abbrev pub decreases-loop-bytes : goal.decreases-loop-bytes
decreases-loop-bytes l = length l.left

-- If the remaining text is pieces of bytes, the whole text is pieces of the bytes so far followed by those.
abbrev pub invariant-loop-bytes : goal.invariant-loop-bytes
invariant-loop-bytes l = ((b : List ℕ) → ArePieces l.format l.left b → ArePieces l.format l.text (l.bytes.items ++ b)) × (length l.left ≤ length l.text)
