use Rattle.std.proofs.Common.{◌≤◌, map}
use Rattle.coset_value.specs.Item.{Items}
use Rattle.coset_codec.specs.Inputs.{State, state, length_left, items_turns, AreWithin}
use Rattle.coset_claims.proofs.ByteStrings.{Midway}
use Rattle.coset_claims.proofs.context.read_byte_strings.Given as goal

abbrev pub invariant-loop-alloc : goal.invariant-loop-alloc
invariant-loop-alloc l = record {
  shrinks : length_left (state l.input) ≤ length_left (state l.fn.input);
  reads : (vs : Items) (z : State) → AreWithin l.fn.elements vs (state l.fn.input) z
      → Midway vs z l.elements (state l.input) (map (λ b. b.items) l.all.items) l.fault;
}

abbrev pub decreases-loop-alloc : goal.decreases-loop-alloc
decreases-loop-alloc l = items_turns l.elements (state l.input)
