use Rattle.std.proofs.Common.{refl, arith}
use Rattle.coset_value.specs.View.{value_item}
use Rattle.coset_cbor.proofs.ReadThere.{item_shorter, item_there, no_fault_there}
use Rattle.coset_cbor.proofs.Whole.{no_front, fault_is_there}
use Rattle.coset_cbor.proofs.forward.value_at.Goals as goal

pub returns-in-Ok-clause-reads : goal.returns-in-Ok-clause-reads
returns-in-Ok-clause-reads c = λ v a is. let r = item_there v c.args.bytes.now a (value_item c.in-Ok.value) c.in-Ok.rest.now is c.in-Ok.ensures in (r.1, r.0)

pub returns-in-Ok-clause-strictly : goal.returns-in-Ok-clause-strictly
returns-in-Ok-clause-strictly c = item_shorter c.args.bytes.now (value_item c.in-Ok.value) c.in-Ok.rest.now (λ i. omega
    (arith, c.type_inv.bytes i)) c.in-Ok.ensures

pub returns-in-Err-Fault : goal.returns-in-Err-Fault
returns-in-Err-Fault c =
    let failed = rw c.in-Err-Fault.field-0-is at c.in-Err-Fault.ensures in
    record {
      strictly = tt;
      refused = λ _ v b rest parts is. no_front c.args.bytes.now c.in-Err-Fault.fault failed v b rest parts is;
      fault = c.error_of.ensures.fault c.args.bytes.now refl
          (fault_is_there c.args.bytes.now c.in-Err-Fault.fault (λ i. omega (arith, c.type_inv.bytes i)) failed);
      reads = λ v a is. absurd (no_fault_there v c.args.bytes.now a c.in-Err-Fault.fault is failed);
    }
