use Rattle.std.proofs.Common.{subst, arith}
use Rattle.coset_cbor.specs.Reading.{head_from}
use Rattle.coset_cbor.specs.Cursors.{Doubles}
use Rattle.coset_cbor.proofs.Cursors.{stands_head, head_shorter, map_read, no_map}
use Rattle.coset_cbor.proofs.cursor.map_item.Goals as goal

pub returns-in-Map-clause-strictly : goal.returns-in-Map-clause-strictly
returns-in-Map-clause-strictly c = head_shorter c.args.bytes.now (head_from c.in-Ok.head, c.in-Ok.rest.now)
    (λ i. omega (arith, c.type_inv.bytes i)) c.in-Ok.ensures.head

pub returns-in-Map-clause-enters : goal.returns-in-Map-clause-enters
returns-in-Map-clause-enters c = λ v a is.
    let r = map_read v c.args.bytes.now a (head_from c.in-Ok.head, c.in-Ok.rest.now) c.doubled-left.result
    (λ i. omega (arith, c.type_inv.bytes i)) c.well_formed.0.0 is c.in-Ok.ensures.head c.in-Map.is
    (subst (λ o. Doubles o c.doubled-left.result) c.number.ensures c.doubled-left.ensures) in
    (r.elements, r.is_map, r.within)

pub returns-in_default-clause-enters : goal.returns-in_default-clause-enters
returns-in_default-clause-enters c = λ v a is. no_map v c.args.bytes.now a
    (head_from c.in-Ok.head, c.in-Ok.rest.now) is c.in-Ok.ensures.head c.in_default.not-Map

pub returns-in-Err-clause-enters : goal.returns-in-Err-clause-enters
returns-in-Err-clause-enters c = λ v a is. absurd (stands_head v c.args.bytes.now a c.in-Err.field-0 is c.in-Err.ensures.head)
