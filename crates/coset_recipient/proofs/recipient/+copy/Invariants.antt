use Rattle.std.proofs.Common.{◌≡◌, map, take}
use Rattle.coset_recipient.specs.RecipientViews.{recipient_view}
use Rattle.coset_recipient.proofs.recipient.+copy.Given as goal

abbrev pub invariant-copy_recipients-loop-recipient : goal.invariant-copy_recipients-loop-recipient
invariant-copy_recipients-loop-recipient l = map recipient_view l.copies.items ≡ map recipient_view (take l.recipient-index l.all)
