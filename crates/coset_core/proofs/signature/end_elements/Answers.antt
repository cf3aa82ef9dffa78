use Rattle.coset_codec.specs.Inputs.{state}
use Rattle.coset_core.proofs.Forward.{third_refused}
use Rattle.coset_core.proofs.signature.end_elements.Goals as goal

pub returns-in_err-signature-clause-ends : goal.returns-in_err-signature-clause-ends
returns-in_err-signature-clause-ends c = λ vs z within.
    third_refused vs (state c.next.new.input) (state c.string_bytes-last.new.input)
    (state c.next-2.new.input) z c.next.new.self c.next-2.new.self _ c.from_residual.result c.string_bytes-last.new.error c.in_err-signature.field-0.0
    c.from_residual.ensures.1
    (c.if-not-next.ensures.nexts vs z within) c.in_err-signature.ensures.forward.reads (λ us inside. c.if-next.ensures.nexts us z inside)
