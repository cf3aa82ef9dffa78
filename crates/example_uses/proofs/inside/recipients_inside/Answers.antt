use Rattle.std.proofs.Common.{[]}
use Rattle.std.specs.Prelude.{⊤}
use Rattle.coset_codec.specs.AsWritten.{WhenRead}
use Rattle.coset_codec.specs.Lists.{EachHas}
use Rattle.coset_codec.specs.Shape.{bstr, list_of, or_nil, optional_last}
use Rattle.coset_codec.proofs.AsWritten.{list_when_read, optional_last_when_read, then_when_read}
use Rattle.coset_core.proofs.Messages.{message_when_read}
use Rattle.coset_recipient.specs.Recipient.{are_some, each_of, recipient, recipient_fields, recipient_elements, recipient_step}
use Rattle.example_uses.specs.Inside.{IsDescribed}
use Rattle.example_uses.proofs.inside.recipients_inside.Goals as goal

inside : WhenRead (recipient_step recipient) (λ r. EachHas (IsDescribed recipient) (each_of r.recipients))
inside v r d =
    let list = optional_last_when_read [] are_some (list_of recipient) (EachHas (IsDescribed recipient))
    (list_when_read recipient (IsDescribed recipient) (λ w s h. (w, h))) tt in
    let elements = then_when_read (or_nil bstr) (optional_last [] are_some (list_of recipient)) (λ p. ⊤) (EachHas (IsDescribed recipient)) (λ w p f. tt) list in
    (message_when_read (recipient_elements (list_of recipient)) (λ p. ⊤) _ (λ w p f. tt) elements v (recipient_fields r) d).1.1.1

pub returns : goal.returns
returns c = λ v r d. inside v r ((c.recipients_hold_recipients.ensures.describes v r).0 d)
