use Rattle.std.proofs.Common.{◌≡◌, ◌++◌, ℕ, List, length}
use Rattle.tool_spelled.proofs.part.without_end.Given as goal

abbrev pub decreases-loop-last : goal.decreases-loop-last
decreases-loop-last l = length l.left

abbrev pub invariant-loop-last : goal.invariant-loop-last
invariant-loop-last l = (back : List ℕ) × (l.text ≡ l.left ++ back)
