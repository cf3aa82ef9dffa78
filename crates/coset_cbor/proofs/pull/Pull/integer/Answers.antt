use Rattle.std.proofs.Common.{◌∙◌, length, []}
use Rattle.coset_cbor.specs.Reading.{head_from, argument_from, things, item_at}
use Rattle.coset_cbor.specs.Whole.{item_of}
use Rattle.coset_cbor.proofs.Heads.{one_item_by, one_item_head, integer_is}
use Rattle.coset_cbor.proofs.pull.Pull.integer.Goals as goal

pub returns-in_default : goal.returns-in_default
returns-in_default c = absurd (one_item_head c.args.self.now.bytes.now c.in_default.field-0 c.args.self.now.checked c.in_default.ensures.head)

pub returns : goal.returns
returns c =
    let b = c.args.self.now.bytes.now in
    let head = c.in-Ok.head in
    c.integer_of.ensures ∙ integer_is (things (item_at 255)) (length b) (argument_from head.info head.number) head.major_type c.in-Ok.field-0-1.now
    (item_of b, [])
    (one_item_by b (head_from head, c.in-Ok.field-0-1.now) c.args.self.now.checked c.in-Ok.ensures.head)
