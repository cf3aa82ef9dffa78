use Rattle.std.proofs.Common.{map, rules}
use Rattle.coset_value.specs.View.{value_item}
use Rattle.coset_cbor.specs.Pulls.{pull_bytes, pull_item}
use Rattle.example_uses.proofs.OneByOne.{all_read, item_on, pushed}
use Rattle.example_uses.proofs.sequences.values_in.Goals as goal

pub loop-left-preserved : goal.loop-left-preserved
loop-left-preserved c =
    let item = c.in_ok-item.item in
    item_on _ _ _ (pull_bytes item) (pull_item item) (map value_item c.loop-left.values.items)
    (map value_item c.push.new.self.items) c.loop-left.invariant c.in_ok-item.ensures.found.0 c.in_ok-item.ensures.found.1
    (pushed c.loop-left.values.items c.push.new.self.items c.in_ok-to_value.field-0 (pull_item item) c.in_ok-push.ensures.items c.in_ok-to_value.ensures)

pub returns : goal.returns
returns c = all_read _ c.loop-left.left.now (map value_item c.loop-left.values.items) c.loop-left.invariant (search rules)
