-- Views of recipients, one level of nesting at a time.
use Rattle.std.specs.Prelude.{◌≡◌, map, option_map}
use Rattle.coset_core.specs.Views.{header_view, protected_view}
use Rattle.coset_recipient.specs.Recipient.{RecipientView, recipients_of}
use Rattle.coset_recipient.specs.declared.recipient.CoseRecipient.{CoseRecipient, CoseRecipient-F, fold-CoseRecipient, out-CoseRecipient, roll-CoseRecipient}
use Rattle.coset_recipient.specs.declared.recipient.CoseRecipient.{fold-roll-CoseRecipient, fold_out-CoseRecipient}

-- The view of one level whose nested recipients are views already.
abbrev pub recipient_level : CoseRecipient-F RecipientView → RecipientView
recipient_level r = record {
  protected = protected_view r.protected;
  unprotected = header_view r.unprotected;
  ciphertext = option_map (λ b. b.items) r.ciphertext;
  recipients = recipients_of r.recipients.items;
}

abbrev pub recipient_view : CoseRecipient → RecipientView
recipient_view = fold-CoseRecipient RecipientView recipient_level

-- The view of one level whose nested recipients are recipients.
abbrev pub opened : CoseRecipient-F CoseRecipient → RecipientView
opened r = record {
  protected = protected_view r.protected;
  unprotected = header_view r.unprotected;
  ciphertext = option_map (λ b. b.items) r.ciphertext;
  recipients = recipients_of (map recipient_view r.recipients.items);
}

pub recipient-rolled : (r : CoseRecipient-F CoseRecipient) → recipient_view (roll-CoseRecipient r) ≡ opened r
recipient-rolled = fold-roll-CoseRecipient RecipientView recipient_level

pub recipient-unrolled : (r : CoseRecipient) → recipient_view r ≡ opened (out-CoseRecipient r)
recipient-unrolled = fold_out-CoseRecipient RecipientView recipient_level
