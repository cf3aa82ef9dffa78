use Rattle.std.proofs.Common.{◌≡◌, ◌++◌, length}
use Rattle.tool_spelled.specs.Comments.{without_comments}
use Rattle.tool_spelled.specs.declared.comments.Place.TheVariants.{Outside}
use Rattle.tool_spelled.proofs.comments.without_comments.Given as goal

abbrev pub decreases-loop-first : goal.decreases-loop-first
decreases-loop-first l = length l.left

-- The characters so far, followed by the remaining text without its comments.
abbrev pub invariant-loop-first : goal.invariant-loop-first
invariant-loop-first l = without_comments Outside l.text ≡ l.seen_text.items ++ without_comments l.place l.left
