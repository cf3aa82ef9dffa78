use Rattle.std.proofs.Common.{rules}
use Rattle.coset_cbor.specs.Pulls.{pull_item}
use Rattle.coset_codec.proofs.Whole.{tagged_read}
use Rattle.coset_codec.proofs.codec.AnyTaggedCborSerializable.from_tagged_slice.Goals as goal

pub returns-clause-read : goal.returns-clause-read
returns-clause-read g c =
    let at = c.new.ensures.item in
    tagged_read g.T.Codec.shape g.T.Codec.view g.T.TaggedCodec.TAG_NUMBER c.args.s.now (pull_item c.in_ok-whole_item.field-0) (pull_item c.in_ok-item.item)
    c.read.result c.in_ok-whole_item.ensures.whole.0 (search rules) (c.read.ensures.forward.reads _ at.0 at.1).1
