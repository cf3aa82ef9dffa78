use Rattle.std.proofs.Common.{◌∙◌, ap, arith, option_map, rules}
use Rattle.coset_codec.proofs.EncodingMaps.{taken}
use Rattle.coset_codec.proofs.InPlace.{one_more_copied}
use Rattle.coset_recipient.specs.RecipientViews.{recipient_view}
use Rattle.coset_core.specs.Views.{header_view, protected_view}
use Rattle.coset_recipient.specs.declared.recipient.CoseRecipient.{out-roll-CoseRecipient}
use Rattle.coset_recipient.proofs.Lists.{recipient-copied}
use Rattle.coset_recipient.proofs.recipient.+copy.Goals as goal

pub copy_recipients-loop-recipient-preserved : goal.copy_recipients-loop-recipient-preserved
copy_recipients-loop-recipient-preserved t c =
    let gets = c.in_ok-push_empty.ensures in
    one_more_copied recipient_view c.loop-recipient.copies.items c.push_empty.new.all.items c.args.all.now c.loop-recipient.recipient-index c.len-last.result
    gets.0 _ c.copy_recipient.new.copy c.loop-recipient.invariant (search rules) gets.1
    (taken recipient_view c.args.all.now c.loop-recipient.recipient-index c.recipient-item.result
    (omega arith) c.recipient-item.is) c.in_ok-copy_recipient.ensures

pub copy_recipient-returns : goal.copy_recipient-returns
copy_recipient-returns t c =
    let protected = ap (λ g. protected_view g.protected) (out-roll-CoseRecipient _)
    ∙ (ap (λ g. protected_view g.protected) (out-roll-CoseRecipient _)
    ∙ (ap (λ g. protected_view g.protected) (out-roll-CoseRecipient _) ∙ c.in_ok-copy_protected.ensures)) in
    let unprotected = ap (λ g. header_view g.unprotected) (out-roll-CoseRecipient _)
    ∙ (ap (λ g. header_view g.unprotected) (out-roll-CoseRecipient _) ∙ c.in_ok-copy_header.ensures) in
    let ciphertext = ap (λ g. option_map (λ b. b.items) g.ciphertext) (out-roll-CoseRecipient _) ∙ c.in_ok-copy_bstr_to.ensures in
    recipient-copied c.args.recipient.now _ c.copy_recipients.result (λ i. (protected i, (unprotected i, ciphertext i)))
    (rw c.deref.ensures.value at c.copy_recipients.ensures)
