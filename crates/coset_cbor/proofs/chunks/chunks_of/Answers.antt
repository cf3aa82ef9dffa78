use Rattle.std.proofs.Common.{sym}
use Rattle.coset_cbor.specs.Reading.{head_from}
use Rattle.coset_cbor.proofs.Chunking.{no_string, whole_chunk, broken_chunks, has_break}
use Rattle.coset_cbor.proofs.Heads.{one_item_head}
use Rattle.coset_cbor.proofs.chunks.chunks_of.Goals as goal

pub returns-in_default : goal.returns-in_default
returns-in_default c = absurd (one_item_head c.args.bytes.now c.in_default.field-0 c.requires c.in_default.ensures.head)

pub returns-then-not-begins_chunk : goal.returns-then-not-begins_chunk
returns-then-not-begins_chunk c = no_string c.args.is_text c.args.bytes.now (head_from c.in-Ok.head, c.in-Ok.rest.now) c.requires c.in-Ok.ensures.head
    (sym c.if-not-begins_chunk.ensures)

pub returns-in_err-chunks-in-None : goal.returns-in_err-chunks-in-None
returns-in_err-chunks-in-None c = absurd (has_break c.args.is_text c.args.bytes.now (head_from c.in-Ok.head, c.in-Ok.rest.now) c.requires c.in-Ok.ensures.head
    (sym c.if-not-begins_chunk.ensures) (sym c.in-None.ensures) c.in_err-chunks-in-None.ensures.cases)

pub returns-in-Some : goal.returns-in-Some
returns-in-Some c = whole_chunk c.args.is_text c.args.bytes.now (head_from c.in-Ok.head, c.in-Ok.rest.now) c.in-Some.field-0 c.requires c.in-Ok.ensures.head
    (sym c.if-not-begins_chunk.ensures) (sym c.in-Some.ensures)

pub returns-in_ok-chunks-in-None : goal.returns-in_ok-chunks-in-None
returns-in_ok-chunks-in-None c = broken_chunks c.args.is_text c.args.bytes.now
    (head_from c.in-Ok.head, c.in-Ok.rest.now) c.in_ok-chunks-in-None.chunks.now c.in_ok-chunks-in-None.field-0-0.now c.requires c.in-Ok.ensures.head
    (sym c.if-not-begins_chunk.ensures) (sym c.in-None.ensures) c.in_ok-chunks-in-None.ensures.cases.0
