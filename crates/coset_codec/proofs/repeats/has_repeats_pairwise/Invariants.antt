use Rattle.std.proofs.Common.{◌≡◌, length}
use Rattle.std.specs.Map.{keys_of}
use Rattle.coset_codec.specs.Maps.{are_distinct}
use Rattle.coset_codec.proofs.repeats.has_repeats_pairwise.Given as goal

abbrev pub invariant-loop-left : goal.invariant-loop-left
invariant-loop-left g l = are_distinct g.K.PartialEq.eq (keys_of l.pairs) ≡ are_distinct g.K.PartialEq.eq (keys_of l.left)

abbrev pub decreases-loop-left : goal.decreases-loop-left
decreases-loop-left g l = length l.left
