use Rattle.coset_show.proofs.show.read_message.Goals as goal

pub returns-then-tagged-clause-refused : goal.returns-then-tagged-clause-refused
returns-then-tagged-clause-refused g c = rw c.if-tagged.true c.from_tagged_slice.ensures.refused

pub returns-else-tagged-clause-refused : goal.returns-else-tagged-clause-refused
returns-else-tagged-clause-refused g c = rw c.if-tagged.false c.from_slice.ensures.refused
