use Rattle.std.proofs.Common.{ap, arith}
use Rattle.coset_value.specs.Item.{items_count}
use Rattle.coset_cbor.proofs.Between.{first_item, no_first_item, item_begins}
use Rattle.coset_cbor.proofs.elements.ItemsIterator.next.Goals as goal

pub first-requires : goal.first-requires
first-requires c = item_begins c.args.self.now.rest.now c.args.self.now.checked

pub returns-in_err-element : goal.returns-in_err-element
returns-in_err-element c =
    let none = no_first_item c.args.self.now.rest.now c.args.self.now.checked c.in_err-element.ensures in
    rw c.from_residual.ensures (record {
      steps = (none, none);
      goes = record { on = λ _. tt; keeps = tt; rests = λ _. tt };
    })

pub invariant_of-self : goal.invariant_of-self
invariant_of-self c =
    let found = first_item c.args.self.now.rest.now c.in_ok-element.element.bytes.now c.in_ok-element.rest.now _ c.args.self.now.checked
    c.in_ok-element.ensures.0 c.in_ok-element.ensures.1 in
    record { checked = found.others }

pub returns : goal.returns
returns c =
    let found = first_item c.args.self.now.rest.now c.in_ok-element.element.bytes.now c.in_ok-element.rest.now _ c.args.self.now.checked
    c.in_ok-element.ensures.0 c.in_ok-element.ensures.1 in
    let fewer = ap items_count found.view in
    record {
      steps = (found.view, c.in_ok-element.ensures.0);
      goes = record { on = λ _. (tt, tt, omega arith); keeps = tt; rests = λ _. tt };
    }
