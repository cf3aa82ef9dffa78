use Rattle.coset_recipient.specs.RecipientLaws.{recipient-made, recipient-opened, recipient-of_step}
use Rattle.coset_recipient.proofs.laws.recipients_hold_recipients.Goals as goal

pub returns-clause-describes : goal.returns-clause-describes
returns-clause-describes c = λ v r. (λ d. (recipient-opened.describes v r d).1, λ d. (recipient-made.describes v r d).1)

pub returns-clause-image : goal.returns-clause-image
returns-clause-image c = recipient-of_step

pub returns-clause-faults : goal.returns-clause-faults
returns-clause-faults c = λ v e. (λ f. (recipient-opened.faults v e f).1, λ f. (recipient-made.faults v e f).1)
