use Rattle.coset_recipient.specs.RecipientViews.{recipient_view}
use Rattle.coset_recipient.proofs.Lists.{unequal}
use Rattle.coset_recipient.proofs.recipient.+same.Goals as goal

pub same_recipients-returns-then-all-others : goal.same_recipients-returns-then-all-others
same_recipients-returns-then-all-others t c = unequal recipient_view _ _ c.if-all-others.true
