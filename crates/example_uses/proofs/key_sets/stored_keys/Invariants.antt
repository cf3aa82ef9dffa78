use Rattle.std.proofs.Common.{◌≡◌, ◌++◌}
use Rattle.std.specs.Vec.Iter.{into_iter_items}
use Rattle.coset_codec.specs.Lists.{EachWith}
use Rattle.coset_key.specs.Keys.{key_view}
use Rattle.example_uses.specs.KeySets.{IsHeldOf}
use Rattle.example_uses.proofs.key_sets.stored_keys.Given as goal

-- The stored bytes of each key so far are its encoding.
abbrev pub invariant-loop-key : goal.invariant-loop-key
invariant-loop-key l =
    (l.yielded ++ into_iter_items l.key-iterator ≡ into_iter_items l.initial.key-iterator)
    × EachWith (λ k b. IsHeldOf l.ordering (key_view k) b.items) l.yielded l.held.items
