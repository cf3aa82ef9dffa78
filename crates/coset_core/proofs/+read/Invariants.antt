use Rattle.std.proofs.Common.{ℕ, map, length, ◌+◌, ◌*◌, ◌≤◌}
use Rattle.coset_value.specs.Item.{Items, Pairs}
use Rattle.coset_codec.specs.Inputs.{State, state, length_left, input_size, items_size, pairs_size, items_turns, pairs_turns, AreWithin, PairsWithin}
use Rattle.coset_core.specs.Fields.{HasOneIv}
use Rattle.coset_core.specs.FieldViews.{fields_view}
use Rattle.coset_core.proofs.Forward.{HeaderSoFar}
use Rattle.coset_core.specs.Views.{signature_view}
use Rattle.coset_codec.proofs.InPlace.{Filled}
use Rattle.coset_core.specs.Headers.{SignatureView, layered_signature}
use Rattle.coset_core.proofs.+read.Given as goal

-- The weight of one layer in the decreasing measures. It is more than the weight of the bytes of any content.
abbrev layer : ℕ
layer = 1180591620717411303424

abbrev pub decreases-header::reading::fill_header : goal.decreases-header::reading::fill_header
decreases-header::reading::fill_header l = layer * l.layers + 8 * input_size (state l.input.now) + 2

abbrev pub decreases-header::reading::fill_pairs : goal.decreases-header::reading::fill_pairs
decreases-header::reading::fill_pairs l = layer * l.layers + 8 * pairs_size l.pairs.now (state l.input.now) + 4

abbrev pub decreases-header::reading::fill_counter_signatures : goal.decreases-header::reading::fill_counter_signatures
decreases-header::reading::fill_counter_signatures l = layer * l.layers + 8 * input_size (state l.input.now) + 3

abbrev pub decreases-signature::fill_single_signature : goal.decreases-signature::fill_single_signature
decreases-signature::fill_single_signature l = layer * l.layers + 8 * items_size l.elements.now (state l.input.now) + 8

abbrev pub decreases-signature::fill_signature_list : goal.decreases-signature::fill_signature_list
decreases-signature::fill_signature_list l = layer * l.layers + 8 * items_size l.elements.now (state l.input.now) + 8

abbrev pub decreases-signature::fill_signature : goal.decreases-signature::fill_signature
decreases-signature::fill_signature l = layer * l.layers + 8 * input_size (state l.input.now) + 6

abbrev pub decreases-signature::fill_elements : goal.decreases-signature::fill_elements
decreases-signature::fill_elements l = layer * l.layers + 8 * items_size l.elements.now (state l.input.now) + 7

abbrev pub decreases-protected::fill_protected : goal.decreases-protected::fill_protected
decreases-protected::fill_protected l = layer * l.layers + 1

abbrev pub decreases-protected::fill_content : goal.decreases-protected::fill_content
decreases-protected::fill_content l = layer * l.layers + 8 * length l.content.now + 10

-- The pairs so far were read into the header, and the input is at the others.
abbrev pub invariant-header::reading::fill_pairs-loop-version : goal.invariant-header::reading::fill_pairs-loop-version
invariant-header::reading::fill_pairs-loop-version l = record {
  one_iv : HasOneIv (fields_view l.header);
  shrinks : length_left (state l.input) ≤ length_left (state l.fn.input);
  size : pairs_size l.pairs (state l.input) ≤ pairs_size l.fn.pairs (state l.fn.input);
  fills : (all : Pairs) (z : State) → PairsWithin l.fn.pairs all (state l.fn.input) z → HeaderSoFar l.layers all l.header (state l.input) z l.pairs;
}

abbrev pub decreases-header::reading::fill_pairs-loop-version : goal.decreases-header::reading::fill_pairs-loop-version
decreases-header::reading::fill_pairs-loop-version l = pairs_turns l.pairs (state l.input)

-- The signatures so far are those of the items so far, and the input is at the others.
abbrev pub invariant-signature::fill_signature_list-loop-all : goal.invariant-signature::fill_signature_list-loop-all
invariant-signature::fill_signature_list-loop-all l = record {
  shrinks : length_left (state l.input) ≤ length_left (state l.fn.input);
  size : items_size l.elements (state l.input) ≤ items_size l.fn.elements (state l.fn.input);
  fills : (vs : Items) (z : State) → AreWithin l.fn.elements vs (state l.fn.input) z
      → Filled SignatureView (layered_signature l.layers) vs z l.elements (state l.input) (map signature_view l.all.items);
}

abbrev pub decreases-signature::fill_signature_list-loop-all : goal.decreases-signature::fill_signature_list-loop-all
decreases-signature::fill_signature_list-loop-all l = items_turns l.elements (state l.input)
