use Rattle.std.proofs.Common.{arith, refl}
use Rattle.coset_cbor.specs.Counting.{item_steps}
use Rattle.coset_cbor.specs.Reading.{item_at}
use Rattle.coset_cbor.proofs.Frugal.{steps_bound}
use Rattle.coset_cbor.proofs.Whole.{passed_is_read, rest_shorter, refused_is_fault, checked, no_front, fault_is_there}
use Rattle.coset_cbor.proofs.de.check.Goals as goal

pub overflow_sub-result : goal.overflow_sub-result
overflow_sub-result g c =
    let s = c.args.bytes.now in
    let read = passed_is_read (item_at 256 s) c.in-Ok.rest.now c.in-Ok.ensures.left in
    rest_shorter s (read.0, c.in-Ok.rest.now) (λ i. omega (arith, c.type_inv.bytes i)) read.1

pub returns-in-Ok : goal.returns-in-Ok
returns-in-Ok g c =
    let s = c.args.bytes.now in
    let is = checked s c.in-Ok.rest.now (λ i. omega (arith, c.type_inv.bytes i)) c.in-Ok.ensures.left in
    let bound = steps_bound 256 s in
    let steps = c.in-Ok.ensures.steps in
    record {
      length = is.within;
      found = (is.item, item_steps 256 s, is.is_item, is.cost, steps);
      refused = tt;
      memory = tt;
      fault = tt;
      bound = omega arith;
    }

pub returns-in-Err : goal.returns-in-Err
returns-in-Err g c =
    let s = c.args.bytes.now in
    let failed = refused_is_fault (item_at 256 s) c.in-Err.fault c.in-Err.ensures.left in
    let bound = steps_bound 256 s in
    let steps = c.in-Err.ensures.steps in
    record {
      length = tt;
      found = tt;
      refused = λ v b rest parts is. no_front s c.in-Err.fault failed v b rest parts is;
      memory = c.error_of.ensures.other;
      fault = c.error_of.ensures.fault s refl (fault_is_there s c.in-Err.fault (λ i. omega (arith, c.type_inv.bytes i)) failed);
      bound = omega arith;
    }
