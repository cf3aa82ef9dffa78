use Rattle.std.proofs.Common.{◌≤◌, map}
use Rattle.coset_value.specs.Item.{Items}
use Rattle.coset_codec.specs.Inputs.{State, state, length_left, items_turns, AreWithin}
use Rattle.coset_codec.proofs.InPlace.{Filled}
use Rattle.coset_codec.proofs.read.list.read_each.Given as goal

abbrev pub invariant-loop-alloc : goal.invariant-loop-alloc
invariant-loop-alloc g l = record {
  shrinks : length_left (state l.input) ≤ length_left (state l.fn.input);
  fills : (vs : Items) (z : State) → AreWithin l.fn.elements vs (state l.fn.input) z
      → Filled g.T.AsCborValue.View g.T.AsCborValue.shape vs z l.elements (state l.input) (map g.T.AsCborValue.view l.all.items);
}

abbrev pub decreases-loop-alloc : goal.decreases-loop-alloc
decreases-loop-alloc g l = items_turns l.elements (state l.input)
