use Rattle.std.specs.Bool.{⊤}
use Rattle.test_cbor.proofs.pull.+walk.Given as goal

abbrev pub decreases-walked : goal.decreases-walked
decreases-walked l = l.depth

abbrev pub decreases-walked_items : goal.decreases-walked_items
decreases-walked_items l = l.depth

abbrev pub decreases-walked_pairs : goal.decreases-walked_pairs
decreases-walked_pairs l = l.depth

abbrev pub invariant-walked_items-loop-pull : goal.invariant-walked_items-loop-pull
invariant-walked_items-loop-pull l = ⊤

abbrev pub invariant-walked_pairs-loop-key : goal.invariant-walked_pairs-loop-key
invariant-walked_pairs-loop-key l = ⊤
