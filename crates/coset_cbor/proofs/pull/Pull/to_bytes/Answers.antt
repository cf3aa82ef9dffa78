use Rattle.std.proofs.Common.{false, sym}
use Rattle.coset_cbor.specs.Reading.{head_from}
use Rattle.coset_cbor.proofs.Heads.{one_item_head, string_read, string_no_fault}
use Rattle.coset_cbor.proofs.Chunking.{no_string}
use Rattle.coset_cbor.proofs.pull.Pull.to_bytes.Goals as goal

pub returns-in_default : goal.returns-in_default
returns-in_default c = absurd (one_item_head c.args.self.now.bytes.now c.in_default.field-0 c.args.self.now.checked c.in_default.ensures.head)

pub returns-then-not-begins_chunk : goal.returns-then-not-begins_chunk
returns-then-not-begins_chunk c = sym (no_string false c.args.self.now.bytes.now
    (head_from c.in-Ok.head, c.in-Ok.rest.now) c.args.self.now.checked c.in-Ok.ensures.head (sym c.if-not-begins_chunk.ensures))

pub unreachable-requires : goal.unreachable-requires
unreachable-requires c =
    let failed = rw c.in-Err-Fault.field-0-is at c.in-Err-Fault.ensures in
    string_no_fault false c.args.self.now.bytes.now (
      head_from c.in-Ok.head,
      c.in-Ok.rest.now,
    ) c.number.result c.in-Err-Fault.field-0-0 c.args.self.now.checked c.in-Ok.ensures.head
    (sym c.if-not-begins_chunk.ensures) c.number.ensures failed

pub returns-in-Ok-byte_string : goal.returns-in-Ok-byte_string
returns-in-Ok-byte_string c = string_read false c.args.self.now.bytes.now
    (head_from c.in-Ok.head, c.in-Ok.rest.now) c.number.result _ c.args.self.now.checked c.in-Ok.ensures.head
    (sym c.if-not-begins_chunk.ensures) c.number.ensures c.in-Ok-byte_string.ensures
