use Rattle.std.proofs.Common.{◌∙◌, length, []}
use Rattle.coset_cbor.specs.Reading.{things, item_at, head_from, argument_from}
use Rattle.coset_cbor.specs.Whole.{item_of}
use Rattle.coset_cbor.proofs.Heads.{one_item_by, one_item_head, scalar_is}
use Rattle.coset_cbor.proofs.pull.Pull.scalar.Goals as goal

pub returns-in_default : goal.returns-in_default
returns-in_default c = absurd (one_item_head c.args.self.now.bytes.now c.in_default.field-0 c.args.self.now.checked c.in_default.ensures.head)

pub returns : goal.returns
returns c =
    let b = c.args.self.now.bytes.now in
    c.scalar_of.ensures ∙ scalar_is (things (item_at 255)) (length b)
    (argument_from c.in-Ok.head.info c.in-Ok.head.number) c.in-Ok.head.major_type c.in-Ok.rest.now (item_of b, [])
    (one_item_by b (head_from c.in-Ok.head, c.in-Ok.rest.now) c.args.self.now.checked c.in-Ok.ensures.head)
