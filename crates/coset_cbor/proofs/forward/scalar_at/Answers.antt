use Rattle.std.proofs.Common.{arith}
use Rattle.coset_value.specs.View.{value_item}
use Rattle.coset_cbor.specs.Reading.{head_from}
use Rattle.coset_cbor.proofs.Cursors.{stands_head, head_shorter}
use Rattle.coset_cbor.proofs.ReadThere.{scalar_read, no_scalar}
use Rattle.coset_cbor.proofs.forward.scalar_at.Goals as goal

pub returns-in_default-clause-reads : goal.returns-in_default-clause-reads
returns-in_default-clause-reads c = λ v a is. absurd (stands_head v c.args.bytes.now a c.in_default.field-0 is c.in_default.ensures.head)

pub returns-in-Some-clause-strictly : goal.returns-in-Some-clause-strictly
returns-in-Some-clause-strictly c = head_shorter c.args.bytes.now (head_from c.in-Ok.head, c.in-Ok.rest.now)
    (λ i. omega (arith, c.type_inv.bytes i)) c.in-Ok.ensures.head

pub returns-in-Some-clause-reads : goal.returns-in-Some-clause-reads
returns-in-Some-clause-reads c = λ v a is. scalar_read v c.args.bytes.now a (head_from c.in-Ok.head, c.in-Ok.rest.now)
    (value_item c.in-Some.value) is c.in-Ok.ensures.head c.in-Some.ensures

pub returns-in-None-clause-reads : goal.returns-in-None-clause-reads
returns-in-None-clause-reads c = λ v a is. no_scalar v c.args.bytes.now a (head_from c.in-Ok.head, c.in-Ok.rest.now) is c.in-Ok.ensures.head c.in-None.ensures
