use Rattle.std.proofs.Common.{◌∙◌, sym}
use Rattle.coset_core.specs.SameLaws.{header_eq-decides}
use Rattle.coset_core.proofs.header.HeaderPartialEq.eq.Goals as goal

pub returns-clause-equal : goal.returns-clause-equal
returns-clause-equal c =
    let decides = header_eq-decides _ _ in
    (λ e. decides.0 (sym c.same_header.ensures ∙ e), λ e. c.same_header.ensures ∙ decides.1 e)
