use Rattle.std.proofs.Common.{◌≤◌}
use Rattle.coset_value.specs.Item.{Pairs}
use Rattle.coset_codec.specs.Inputs.{State, state, length_left, pairs_turns, PairsWithin}
use Rattle.coset_codec.specs.Maps.{Walks}
use Rattle.coset_codec.proofs.Visiting.{Midway}
use Rattle.coset_codec.proofs.read.map.read_pairs.Given as goal

abbrev pub invariant-loop-label : goal.invariant-loop-label
invariant-loop-label g l = record {
  shrinks : length_left (state l.input) ≤ length_left (state l.fn.input);
  reads : (all ps : Pairs) (z : State) → Walks _ _ g.V.MapVisitor.names g.V.MapVisitor.fields all (g.V.MapVisitor.view l.fn.visitor) ps
      → PairsWithin l.fn.pairs ps (state l.fn.input) z
      → Midway _ _ g.V.MapVisitor.names g.V.MapVisitor.fields all (g.V.MapVisitor.view l.visitor) (state l.input) z l.pairs;
}

abbrev pub decreases-loop-label : goal.decreases-loop-label
decreases-loop-label g l = pairs_turns l.pairs (state l.input)
