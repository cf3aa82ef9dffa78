use Rattle.std.proofs.Common.{◌∙◌, ap, sym, subst, option_map}
use Rattle.coset_recipient.specs.Recipient.{recipient_structure}
use Rattle.coset_recipient.specs.RecipientViews.{recipient_view, recipient-unrolled}
use Rattle.coset_msg.specs.Presence.{CallsIfPresent}
use Rattle.coset_recipient.proofs.recipient.CoseRecipient.decrypt_ciphertext.Goals as goal

pub returns : goal.returns
returns g c =
    let structure = recipient_structure c.args.context (recipient_view c.args.self.now) c.args.external_aad.now in
    subst (λ o. CallsIfPresent g.F.FnOnce c.args.cipher g.M.FnOnce c.args.missing o (λ d. d) (λ _. structure) c.call_with.result)
    (sym (ap (λ r. r.ciphertext) (recipient-unrolled c.args.self.now) ∙ ap (option_map (λ b. b.items)) c.in-Some.is))
    (rw c.deref.ensures.value at (c.call_with.ensures structure c.aad-structure.ensures))
