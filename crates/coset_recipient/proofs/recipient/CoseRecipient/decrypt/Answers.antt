use Rattle.coset_core.specs.Calls.{CallsWith}
use Rattle.coset_recipient.specs.Recipient.{recipient_structure}
use Rattle.coset_recipient.specs.RecipientViews.{recipient_view}
use Rattle.coset_msg.proofs.Present.{if_there}
use Rattle.coset_recipient.proofs.recipient.CoseRecipient.decrypt.Goals as goal

pub returns : goal.returns
returns g c =
    let structure = recipient_structure c.args.context (recipient_view c.args.self.now) c.args.external_aad.now in
    if_there (λ d. CallsWith g.F.FnOnce c.args.cipher d structure c.call_with.result) c.attached.ensures
    (c.call_with.ensures structure c.aad-structure.ensures)
