use Rattle.std.proofs.Common.{arith, sym}
use Rattle.std.proofs.lemmas.Bool.{eqb-true}
use Rattle.coset_cbor.proofs.Between.{no_item_in_none}
use Rattle.coset_cbor.proofs.Skips.{skipped}
use Rattle.coset_cbor.proofs.elements.first.Goals as goal

pub returns-then-is_empty : goal.returns-then-is_empty
returns-then-is_empty c =
    no_item_in_none c.args.bytes.now (eqb-true _ 0 (sym c.if-is_empty.ensures))

pub invariant_of-result : goal.invariant_of-result
invariant_of-result c = record {
  checked = (skipped c.args.bytes.now c.in-Some.rest.now c.split_at.result.0.now c.split_at.result.1.now (λ i. omega (arith, c.type_inv.bytes i))
      (c.requires (omega arith)) c.in-Some.ensures c.split_at.ensures.front c.split_at.ensures.back).one;
}

pub returns-in-Some : goal.returns-in-Some
returns-in-Some c =
    let is = skipped c.args.bytes.now c.in-Some.rest.now c.split_at.result.0.now c.split_at.result.1.now (λ i. omega (arith, c.type_inv.bytes i))
    (c.requires (omega arith)) c.in-Some.ensures c.split_at.ensures.front c.split_at.ensures.back in
    (is.parts, is.is_item)
