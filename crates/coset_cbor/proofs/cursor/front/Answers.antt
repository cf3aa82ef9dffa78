use Rattle.coset_cbor.proofs.Cursors.{stands_item, stands_same, stands_is, stands_shorter, stands_begins}
use Rattle.coset_cbor.proofs.cursor.front.Goals as goal

pub returns-in-Ok-clause-strictly : goal.returns-in-Ok-clause-strictly
returns-in-Ok-clause-strictly c =
    let found = c.in-Ok.ensures.found in
    stands_shorter _ c.args.bytes.now c.in-Ok.rest.now (stands_item _ _ c.args.bytes.now c.in-Ok.rest.now found.1 found.0)

pub returns-in-Ok-clause-stands : goal.returns-in-Ok-clause-stands
returns-in-Ok-clause-stands c =
    let found = c.in-Ok.ensures.found in
    let here = stands_item _ _ c.args.bytes.now c.in-Ok.rest.now found.1 found.0 in
    λ v a is. (stands_is _ v c.args.bytes.now c.in-Ok.rest.now a here is, stands_same _ v c.args.bytes.now c.in-Ok.rest.now a here is)

pub returns-in-Err-clause-stands : goal.returns-in-Err-clause-stands
returns-in-Err-clause-stands c = λ v a is.
    let t = stands_begins v c.args.bytes.now a is in
    absurd (c.in-Err.ensures.refused v t.0 a t.1 t.2)
