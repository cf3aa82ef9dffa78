use Rattle.std.proofs.Common.{◌∙◌, sym}
use Rattle.coset_core.specs.SameLaws.{signature_eq-decides}
use Rattle.coset_core.proofs.countersignature.CoseCountersignaturePartialEq.eq.Goals as goal

pub returns-clause-equal : goal.returns-clause-equal
returns-clause-equal c =
    let decides = signature_eq-decides _ _ in
    (λ e. decides.0 (sym c.same_countersignature.ensures ∙ e), λ e. c.same_countersignature.ensures ∙ decides.1 e)
