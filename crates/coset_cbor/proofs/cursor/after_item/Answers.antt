use Rattle.coset_cbor.proofs.Cursors.{stands_read, stands_item, stands_same, stands_shorter, stands_begins}
use Rattle.coset_cbor.proofs.cursor.after_item.Goals as goal

pub returns-in-Some : goal.returns-in-Some
returns-in-Some c = λ v a is. (c.in-Some.ensures (v, a) (stands_read v c.args.bytes.now a is), stands_shorter v c.args.bytes.now a is)

pub returns-in-Ok : goal.returns-in-Ok
returns-in-Ok c = λ v a is.
    let found = c.in-Ok.ensures.found in (
      stands_same _ v c.args.bytes.now c.in-Ok.rest.now a (stands_item _ _ c.args.bytes.now c.in-Ok.rest.now found.1 found.0) is,
      stands_shorter v c.args.bytes.now a is,
    )

pub returns-in-Err : goal.returns-in-Err
returns-in-Err c = λ v a is.
    let t = stands_begins v c.args.bytes.now a is in
    absurd (c.in-Err.ensures.refused v t.0 a t.1 t.2)
