use Rattle.std.proofs.Common.{◌++◌, ℕ, List, length}
use Rattle.tool_spelled.specs.Utf16.{AreCharacters}
use Rattle.tool_spelled.proofs.utf16.characters.Given as goal

abbrev pub decreases-loop-first : goal.decreases-loop-first
decreases-loop-first l = length l.left

-- If the remaining bytes have characters, all bytes have the characters so far followed by those.
abbrev pub invariant-loop-first : goal.invariant-loop-first
invariant-loop-first l = (t : List ℕ) → AreCharacters l.is_big l.left t → AreCharacters l.is_big l.bytes (l.text.items ++ t)
