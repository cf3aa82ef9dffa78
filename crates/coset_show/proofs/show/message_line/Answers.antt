use Rattle.coset_show.proofs.show.message_line.Goals as goal

pub returns-else-tagged : goal.returns-else-tagged
returns-else-tagged g c = rw c.if-tagged.false c.line_of.ensures
