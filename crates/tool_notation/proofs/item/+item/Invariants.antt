use Rattle.std.proofs.Common.{◌+◌, ◌*◌}
use Rattle.tool_notation.specs.Encoding.{Adds, AreItems, items_in}
use Rattle.tool_notation.proofs.item.+item.Given as goal

abbrev pub decreases-item : goal.decreases-item
decreases-item l = 8 * l.levels.of_all

abbrev pub decreases-element : goal.decreases-element
decreases-element l = 8 * l.levels.of_all + 1

abbrev pub decreases-elements : goal.decreases-elements
decreases-elements l = 8 * l.levels.of_all + 2

abbrev pub decreases-bracketed : goal.decreases-bracketed
decreases-bracketed l = 8 * l.levels.of_all + 3

abbrev pub decreases-embedded : goal.decreases-embedded
decreases-embedded l = 8 * l.levels.of_all + 3

-- The elements so far are added.
abbrev pub invariant-elements-loop-count : goal.invariant-elements-loop-count
invariant-elements-loop-count l = Adds (AreItems (l.count * items_in l.list)) l.fn.out.items l.out.items
