use Rattle.std.proofs.Common.{map, ◌+◌, ◌*◌, ◌≤◌}
use Rattle.coset_value.specs.Item.{Items}
use Rattle.coset_codec.specs.Inputs.{State, state, length_left, input_size, items_size, items_turns, AreWithin}
use Rattle.coset_codec.proofs.InPlace.{Filled}
use Rattle.coset_recipient.specs.Recipient.{RecipientView, recipient}
use Rattle.coset_recipient.specs.RecipientViews.{recipient_view}
use Rattle.coset_recipient.proofs.recipient.+read.Given as goal

abbrev pub decreases-fill_recipient : goal.decreases-fill_recipient
decreases-fill_recipient l = 8 * input_size (state l.input.now) + 2

abbrev pub decreases-fill_elements : goal.decreases-fill_elements
decreases-fill_elements l = 8 * items_size l.elements.now (state l.input.now) + 7

abbrev pub decreases-fill_fourth_element : goal.decreases-fill_fourth_element
decreases-fill_fourth_element l = 8 * items_size l.elements.now (state l.input.now) + 6

abbrev pub decreases-fill_recipients : goal.decreases-fill_recipients
decreases-fill_recipients l = 8 * input_size (state l.input.now) + 5

abbrev pub decreases-fill_recipient_list : goal.decreases-fill_recipient_list
decreases-fill_recipient_list l = 8 * items_size l.elements.now (state l.input.now) + 7

-- The recipients so far are those of the elements so far, and the other elements are still to come.
abbrev pub invariant-fill_recipient_list-loop-all : goal.invariant-fill_recipient_list-loop-all
invariant-fill_recipient_list-loop-all l = record {
  shrinks : length_left (state l.input) ≤ length_left (state l.fn.input);
  size : items_size l.elements (state l.input) ≤ items_size l.fn.elements (state l.fn.input);
  fills : (vs : Items) (z : State) → AreWithin l.fn.elements vs (state l.fn.input) z
      → Filled RecipientView recipient vs z l.elements (state l.input) (map recipient_view l.all.items);
}

abbrev pub decreases-fill_recipient_list-loop-all : goal.decreases-fill_recipient_list-loop-all
decreases-fill_recipient_list-loop-all l = items_turns l.elements (state l.input)
