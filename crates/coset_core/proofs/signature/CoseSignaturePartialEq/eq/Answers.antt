use Rattle.std.proofs.Common.{◌∙◌, sym}
use Rattle.coset_core.specs.SameLaws.{signature_eq-decides}
use Rattle.coset_core.proofs.signature.CoseSignaturePartialEq.eq.Goals as goal

pub returns-clause-equal : goal.returns-clause-equal
returns-clause-equal c =
    let decides = signature_eq-decides _ _ in
    (λ e. decides.0 (sym c.same_signature.ensures ∙ e), λ e. c.same_signature.ensures ∙ decides.1 e)
