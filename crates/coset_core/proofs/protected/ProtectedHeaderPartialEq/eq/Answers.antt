use Rattle.std.proofs.Common.{◌∙◌, sym}
use Rattle.coset_core.specs.SameLaws.{protected_eq-decides}
use Rattle.coset_core.proofs.protected.ProtectedHeaderPartialEq.eq.Goals as goal

pub returns-clause-equal : goal.returns-clause-equal
returns-clause-equal c =
    let decides = protected_eq-decides _ _ in
    (λ e. decides.0 (sym c.same_protected.ensures ∙ e), λ e. c.same_protected.ensures ∙ decides.1 e)
