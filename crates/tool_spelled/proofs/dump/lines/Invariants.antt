use Rattle.std.proofs.Common.{◌≤◌, ◌+◌, ◌++◌, ℕ, List, length}
use Rattle.tool_spelled.specs.Dump.{IsDump}
use Rattle.tool_spelled.proofs.dump.lines.Given as goal

abbrev pub decreases-loop-character : goal.decreases-loop-character
decreases-loop-character l = length l.left

-- If the remaining text is a dump from the next offset on, the whole text is one of the bytes so far followed by the others.
abbrev pub invariant-loop-character : goal.invariant-loop-character
invariant-loop-character l =
    ((b : List ℕ) → IsDump l.radix (l.first + length l.bytes.items) l.left b → IsDump l.radix l.first l.text (l.bytes.items ++ b))
    × (length l.left ≤ length l.text)
