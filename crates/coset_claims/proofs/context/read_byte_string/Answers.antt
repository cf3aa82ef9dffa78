use Rattle.coset_claims.proofs.context.read_byte_string.Goals as goal

pub returns : goal.returns
returns c = (c.bytes.ensures.forward.reads _ c.new-input.ensures.item.0 c.new-input.ensures.item.1).1
