use Rattle.std.proofs.Common.{◌++◌, ap, ◌∙◌, arith}
use Rattle.coset_value.specs.Item.{pairs_count}
use Rattle.coset_cbor.proofs.Between.{first_pair, no_first_key, has_value, key_begins, value_begins}
use Rattle.coset_cbor.proofs.elements.PairsIterator.next.Goals as goal

pub first-requires : goal.first-requires
first-requires c = key_begins c.args.self.now.rest.now c.args.self.now.checked

pub first-requires-2 : goal.first-requires-2
first-requires-2 c = λ _. value_begins c.args.self.now.rest.now c.in_ok-key.key.bytes.now c.in_ok-key.rest.now _ c.args.self.now.checked c.in_ok-key.ensures.0
    c.in_ok-key.ensures.1

pub returns-in_err-key : goal.returns-in_err-key
returns-in_err-key c =
    let none = no_first_key c.args.self.now.rest.now c.args.self.now.checked c.in_err-key.ensures in
    rw c.from_residual.ensures (record {
      steps = (none, none);
      goes = record { on = λ _. tt; keeps = tt; rests = λ _. tt };
    })

pub returns-in_err-value : goal.returns-in_err-value
returns-in_err-value c = absurd (has_value c.args.self.now.rest.now c.in_ok-key.key.bytes.now c.in_ok-key.rest.now _ c.args.self.now.checked
    c.in_ok-key.ensures.0 c.in_ok-key.ensures.1 c.in_err-value.ensures)

pub invariant_of-self : goal.invariant_of-self
invariant_of-self c =
    let found = first_pair c.args.self.now.rest.now c.in_ok-key.key.bytes.now c.in_ok-key.rest.now c.in_ok-value.value.bytes.now c.in_ok-value.rest.now _ _
    c.args.self.now.checked c.in_ok-key.ensures.0 c.in_ok-value.ensures.0 c.in_ok-key.ensures.1 c.in_ok-value.ensures.1 in
    record { checked = found.others }

pub returns : goal.returns
returns c =
    let found = first_pair c.args.self.now.rest.now c.in_ok-key.key.bytes.now c.in_ok-key.rest.now c.in_ok-value.value.bytes.now c.in_ok-value.rest.now _ _
    c.args.self.now.checked c.in_ok-key.ensures.0 c.in_ok-value.ensures.0 c.in_ok-key.ensures.1 c.in_ok-value.ensures.1 in
    let fewer = ap pairs_count found.view in
    record {
      steps = (found.view, c.in_ok-key.ensures.0 ∙ ap (λ s. c.in_ok-key.key.bytes.now ++ s) c.in_ok-value.ensures.0);
      goes = record { on = λ _. (tt, tt, omega arith); keeps = tt; rests = λ _. tt };
    }
