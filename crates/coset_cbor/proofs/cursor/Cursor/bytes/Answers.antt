use Rattle.std.proofs.Common.{false, refl, sym, ap, List, ℕ, length, arith}
use Rattle.coset_cbor.specs.Cursors.{bytes_left}
use Rattle.coset_cbor.specs.Reading.{head_from}
use Rattle.coset_cbor.proofs.Cursors.{stands_head, stands_shorter}
use Rattle.coset_cbor.proofs.ReadThere.{string_there, string_no_fault_there, no_string_there}
use Rattle.coset_cbor.proofs.cursor.Cursor.bytes.Goals as goal

pub returns-in_default-clause-reads : goal.returns-in_default-clause-reads
returns-in_default-clause-reads c = λ v a is. absurd (stands_head v (bytes_left c.args.self.now) a c.in_default.field-0 is c.in_default.ensures.head)

pub returns-then-not-begins_chunk-clause-reads : goal.returns-then-not-begins_chunk-clause-reads
returns-then-not-begins_chunk-clause-reads c = λ v a is. (
  no_string_there false v (bytes_left c.args.self.now) a (head_from c.in-Ok.head, c.in-Ok.rest.now) is c.in-Ok.ensures.head
      (sym c.if-not-begins_chunk.ensures),
  refl,
)

pub returns-in-Err-Fault-clause-reads : goal.returns-in-Err-Fault-clause-reads
returns-in-Err-Fault-clause-reads c = λ v a is.
    let failed = rw c.in-Err-Fault.field-0-is at c.in-Err-Fault.ensures in
    absurd (string_no_fault_there false v (bytes_left c.args.self.now) a
    (head_from c.in-Ok.head, c.in-Ok.rest.now) c.number.result c.in-Err-Fault.field-0-0 is c.in-Ok.ensures.head
    (sym c.if-not-begins_chunk.ensures) c.number.ensures failed)

pub returns-then-self-rest-clause-reads : goal.returns-then-self-rest-clause-reads
returns-then-self-rest-clause-reads c = λ v a is.
    let r = string_there false v (bytes_left c.args.self.now) a (head_from c.in-Ok.head, c.in-Ok.rest.now) c.number.result _ is c.in-Ok.ensures.head
    (sym c.if-not-begins_chunk.ensures) c.number.ensures c.in-Ok-byte_string.ensures in
    let less = stands_shorter v (bytes_left c.args.self.now) a is in
    let same = ap (λ (b : List ℕ). length b) r.1 in
    absurd (omega (arith, c.if-self-rest.true, less, same))

pub returns-else-self-rest-clause-reads : goal.returns-else-self-rest-clause-reads
returns-else-self-rest-clause-reads c = λ v a is.
    let r = string_there false v (bytes_left c.args.self.now) a (head_from c.in-Ok.head, c.in-Ok.rest.now) c.number.result _ is c.in-Ok.ensures.head
    (sym c.if-not-begins_chunk.ensures) c.number.ensures c.in-Ok-byte_string.ensures in
    (sym r.0, r.1)
