use Rattle.std.proofs.Common.{◌++◌, sym, ap₂, ◌∙◌, arith}
use Rattle.std.proofs.lemmas.List.{take-append-drop}
use Rattle.coset_cbor.proofs.Whole.{front_one_item, one_item_is}
use Rattle.coset_cbor.proofs.pull.Pull.new.Goals as goal

pub invariant_of-result : goal.invariant_of-result
invariant_of-result c = record {
  checked = front_one_item c.args.bytes.now c.in_ok-length.length c.in_ok-length.ensures.found.0 c.split_at.result.0.now
      (λ i. omega (arith, c.type_inv.bytes i)) c.in_ok-length.ensures.found.1 c.split_at.ensures.front;
}

pub returns-clause-found : goal.returns-clause-found
returns-clause-found c =
    let s = c.args.bytes.now in
    let n = c.in_ok-length.length in
    let one = front_one_item s n c.in_ok-length.ensures.found.0 c.split_at.result.0.now
    (λ i. omega (arith, c.type_inv.bytes i)) c.in_ok-length.ensures.found.1 c.split_at.ensures.front in
    (sym (take-append-drop n s) ∙ ap₂ (λ x y. x ++ y) (sym c.split_at.ensures.front) (sym c.split_at.ensures.back), one_item_is c.split_at.result.0.now one)
