use Rattle.std.proofs.Common.{◌≤◌, map}
use Rattle.coset_value.specs.Item.{Items}
use Rattle.coset_codec.specs.Inputs.{State, state, length_left, items_turns, AreWithin}
use Rattle.coset_label.specs.NameOrder.{label_cmp_total}
use Rattle.coset_label.specs.LabelData.{label_cmp}
use Rattle.coset_key.specs.KeyLaws.{names_exact}
use Rattle.coset_key.specs.Keys.{operation, operation_view}
use Rattle.coset_key.proofs.KeySets.{Midway}
use Rattle.coset_key.proofs.key_ops.read_operations.Given as goal

abbrev pub invariant-loop-alloc : goal.invariant-loop-alloc
invariant-loop-alloc l = record {
  shrinks : length_left (state l.input) ≤ length_left (state l.fn.input);
  gathers : (vs : Items) (z : State) → AreWithin l.fn.elements vs (state l.fn.input) z
      → Midway label_cmp label_cmp_total names_exact operation vs z l.elements (state l.input) (map operation_view l.operations.keys);
}

abbrev pub decreases-loop-alloc : goal.decreases-loop-alloc
decreases-loop-alloc l = items_turns l.elements (state l.input)
