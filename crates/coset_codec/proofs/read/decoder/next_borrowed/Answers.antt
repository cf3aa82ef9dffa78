use Rattle.coset_codec.proofs.Inputs.{lent_next}
use Rattle.coset_codec.proofs.read.decoder.next_borrowed.Goals as goal

pub returns-in-Borrowed-clause-nexts : goal.returns-in-Borrowed-clause-nexts
returns-in-Borrowed-clause-nexts c = rw c.in-Borrowed.is (lent_next c.args.elements.now c.next.new.self c.in-Borrowed.cursor c.next.result c.next.ensures)
