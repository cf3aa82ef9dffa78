use Rattle.coset_seen.proofs.Messages.{message_begins}
use Rattle.coset_seen.proofs.elements.message_at.Goals as goal

pub returns : goal.returns
returns c =
    message_begins c.args.kind c.in_ok-count.count c.args.input.now c.in_ok-count.rest.now c.in_ok-elements.rest.now c.in_ok-rest.rest.now
    c.in_ok-elements.elements (c.is_counted.ensures c.if-not-is_counted.false) c.in_ok-count.ensures c.in_ok-elements.ensures c.in_ok-rest.ensures
