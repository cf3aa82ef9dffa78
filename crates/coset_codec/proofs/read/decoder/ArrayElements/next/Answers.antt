use Rattle.coset_codec.specs.Inputs.{state}
use Rattle.coset_codec.proofs.Inputs.{lent_size, lent_turns}
use Rattle.coset_codec.proofs.read.decoder.ArrayElements.next.Goals as goal

pub returns-in-Borrowed-clause-element : goal.returns-in-Borrowed-clause-element
returns-in-Borrowed-clause-element c = λ more. lent_size c.args.self.now c.in-Borrowed.elements (state c.args.input.now) c.in-Borrowed.is
    (c.next_borrowed.ensures.there more)

pub returns-in-Borrowed-clause-turns : goal.returns-in-Borrowed-clause-turns
returns-in-Borrowed-clause-turns c = λ more t goes. lent_turns c.args.self.now c.in-Borrowed.elements (state c.args.input.now) t c.in-Borrowed.is
    (c.next_borrowed.ensures.there more) goes

pub returns-in-Borrowed-clause-nexts : goal.returns-in-Borrowed-clause-nexts
returns-in-Borrowed-clause-nexts c = λ vs z w. c.next_borrowed.ensures.nexts vs z (rw c.in-Borrowed.is at w)
