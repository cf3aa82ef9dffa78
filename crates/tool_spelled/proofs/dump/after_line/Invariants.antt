use Rattle.std.proofs.Common.{◌≡◌, ◌≤◌, ◌++◌, ℕ, List, length}
use Rattle.tool_spelled.specs.Dump.{after_line}
use Rattle.tool_spelled.proofs.dump.after_line.Given as goal

abbrev pub decreases-loop-first : goal.decreases-loop-first
decreases-loop-first l = length l.left

abbrev pub invariant-loop-first : goal.invariant-loop-first
invariant-loop-first l = record {
  value : after_line l.text ≡ after_line l.left;
  rest : (line : List ℕ) × (l.text ≡ line ++ l.left);
  shorter : length l.left ≤ length l.text;
}
