use Rattle.std.proofs.Common.{◌≡◌, ◌++◌}
use Rattle.std.specs.Vec.Iter.{into_iter_items}
use Rattle.cwt_ring.specs.KeySet.{successes}
use Rattle.cwt_ring.proofs.key_set.keys_from_slice.Given as goal

-- The keys so far are the successes among the results so far.
abbrev pub invariant-loop-read : goal.invariant-loop-read
invariant-loop-read l = (l.yielded ++ into_iter_items l.read-iterator ≡ into_iter_items l.initial.read-iterator) × (successes l.yielded ≡ l.keys.items)
