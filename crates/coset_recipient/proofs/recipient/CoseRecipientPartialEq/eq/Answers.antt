use Rattle.std.proofs.Common.{◌∙◌, sym}
use Rattle.coset_recipient.specs.RecipientSame.{recipient_eq-decides}
use Rattle.coset_recipient.proofs.recipient.CoseRecipientPartialEq.eq.Goals as goal

pub returns-clause-equal : goal.returns-clause-equal
returns-clause-equal c =
    let decides = recipient_eq-decides _ _ in
    (λ e. decides.0 (sym c.same_recipient.ensures ∙ e), λ e. c.same_recipient.ensures ∙ decides.1 e)
