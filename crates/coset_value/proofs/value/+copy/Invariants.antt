use Rattle.std.proofs.Common.{◌≡◌, take, map}
use Rattle.coset_value.specs.View.{value_item, value_pair}
use Rattle.coset_value.proofs.value.+copy.Given as goal

abbrev pub invariant-copy_items-loop-item : goal.invariant-copy_items-loop-item
invariant-copy_items-loop-item l = map value_item l.copies.items ≡ map value_item (take l.item-index l.item-items)

abbrev pub invariant-copy_pairs-loop-key : goal.invariant-copy_pairs-loop-key
invariant-copy_pairs-loop-key l = map value_pair l.copies.items ≡ map value_pair (take l.key-index l.key-items)
