use Rattle.coset_codec.specs.Inputs.{state}
use Rattle.coset_core.proofs.Forward.{first_refused}
use Rattle.coset_core.proofs.signature.begin_elements.Goals as goal

pub returns-in-Err-clause-begins : goal.returns-in-Err-clause-begins
returns-in-Err-clause-begins c = λ vs z within.
    first_refused vs (state c.next.new.input) (state c.string_bytes-first.new.input)
    (state c.next-2.new.input) z c.next.new.self c.next-2.new.self c.string_bytes-first.new.error
    (c.if-not-next.ensures.nexts vs z within) c.in-Err.ensures.forward.reads
    (λ us inside. c.if-not-next-2.ensures.nexts us z inside)
