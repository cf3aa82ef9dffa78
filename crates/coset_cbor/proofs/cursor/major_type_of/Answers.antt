use Rattle.std.proofs.Common.{Some, sym, ap}
use Rattle.coset_cbor.specs.Reading.{head_from}
use Rattle.coset_cbor.proofs.Cursors.{stands_head, stands_major_type}
use Rattle.coset_cbor.proofs.cursor.major_type_of.Goals as goal

pub returns-in-Ok : goal.returns-in-Ok
returns-in-Ok c = λ v a is. ap Some (sym (stands_major_type v c.args.bytes.now a (head_from c.in-Ok.head, c.in-Ok.field-0-1.now) is c.in-Ok.ensures.head))

pub returns-in-Err : goal.returns-in-Err
returns-in-Err c = λ v a is. absurd (stands_head v c.args.bytes.now a c.in-Err.field-0 is c.in-Err.ensures.head)
