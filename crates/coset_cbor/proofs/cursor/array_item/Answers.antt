use Rattle.std.proofs.Common.{arith}
use Rattle.coset_cbor.specs.Reading.{head_from}
use Rattle.coset_cbor.proofs.Cursors.{stands_head, head_shorter, array_read, no_array}
use Rattle.coset_cbor.proofs.cursor.array_item.Goals as goal

pub returns-in-Array-clause-strictly : goal.returns-in-Array-clause-strictly
returns-in-Array-clause-strictly c = head_shorter c.args.bytes.now (head_from c.in-Ok.head, c.in-Ok.rest.now)
    (λ i. omega (arith, c.type_inv.bytes i)) c.in-Ok.ensures.head

pub returns-in-Array-clause-enters : goal.returns-in-Array-clause-enters
returns-in-Array-clause-enters c = λ v a is.
    let r = array_read v c.args.bytes.now a (head_from c.in-Ok.head, c.in-Ok.rest.now) c.number-left.result
    (λ i. omega (arith, c.type_inv.bytes i)) is c.in-Ok.ensures.head c.in-Array.is c.number-left.ensures in
    (r.elements, r.is_array, r.within)

pub returns-in_default-clause-enters : goal.returns-in_default-clause-enters
returns-in_default-clause-enters c = λ v a is. no_array v c.args.bytes.now a
    (head_from c.in-Ok.head, c.in-Ok.rest.now) is c.in-Ok.ensures.head c.in_default.not-Array

pub returns-in-Err-clause-enters : goal.returns-in-Err-clause-enters
returns-in-Err-clause-enters c = λ v a is. absurd (stands_head v c.args.bytes.now a c.in-Err.field-0 is c.in-Err.ensures.head)
