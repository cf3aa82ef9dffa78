use Rattle.coset_codec.proofs.read.decoder.MapEntries.next_key.Goals as goal

pub returns-in-Borrowed-clause-nexts : goal.returns-in-Borrowed-clause-nexts
returns-in-Borrowed-clause-nexts g c = λ ps z w. c.borrowed_key.ensures.nexts ps z (rw c.in-Borrowed.is at w)
