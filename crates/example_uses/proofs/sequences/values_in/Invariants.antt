use Rattle.std.proofs.Common.{length, map}
use Rattle.coset_value.specs.View.{value_item}
use Rattle.example_uses.proofs.OneByOne.{GoesOn}
use Rattle.example_uses.proofs.sequences.values_in.Given as goal

abbrev pub invariant-loop-left : goal.invariant-loop-left
invariant-loop-left l = GoesOn l.fn.bytes (map value_item l.values.items) l.left

abbrev pub decreases-loop-left : goal.decreases-loop-left
decreases-loop-left l = length l.left
