use Rattle.std.proofs.Common.{sym, ap, length, []}
use Rattle.coset_value.specs.Parts.{as_tag}
use Rattle.coset_cbor.specs.Reading.{things, item_at, head_from, argument_from}
use Rattle.coset_cbor.specs.Whole.{item_of}
use Rattle.coset_cbor.proofs.Heads.{one_item_by, one_item_head, no_tag, enclosed_item}
use Rattle.coset_cbor.proofs.pull.Pull.tag.Goals as goal

pub returns-in_default : goal.returns-in_default
returns-in_default c = absurd (one_item_head c.args.self.now.bytes.now c.in_default.field-0 c.args.self.now.checked c.in_default.ensures.head)

pub invariant_of-result : goal.invariant_of-result
invariant_of-result c =
    let is = enclosed_item c.args.self.now.bytes.now (head_from c.in-Ok.head, c.in-Ok.rest.now) c.in-Some.number c.args.self.now.checked c.in-Ok.ensures.head
    (sym c.in-Some.ensures) in
    record { checked = is.one }

pub returns-in-Some : goal.returns-in-Some
returns-in-Some c =
    let is = enclosed_item c.args.self.now.bytes.now (head_from c.in-Ok.head, c.in-Ok.rest.now) c.in-Some.number c.args.self.now.checked c.in-Ok.ensures.head
    (sym c.in-Some.ensures) in
    record { item = sym (ap as_tag is.item); bytes = is.headed }

pub returns-in-None-clause-item : goal.returns-in-None-clause-item
returns-in-None-clause-item c =
    let b = c.args.self.now.bytes.now in
    no_tag (things (item_at 255)) (length b) (argument_from c.in-Ok.head.info c.in-Ok.head.number) c.in-Ok.head.major_type c.in-Ok.rest.now (item_of b, [])
    (sym c.in-None.ensures)
    (one_item_by b (head_from c.in-Ok.head, c.in-Ok.rest.now) c.args.self.now.checked c.in-Ok.ensures.head)
