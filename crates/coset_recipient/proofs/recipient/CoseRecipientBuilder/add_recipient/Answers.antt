use Rattle.std.proofs.Common.{refl, ap, ◌∙◌}
use Rattle.coset_recipient.specs.Recipient.{push_recipient}
use Rattle.coset_recipient.specs.RecipientViews.{recipient_view}
use Rattle.coset_recipient.proofs.Lists.{recipient-added}
use Rattle.coset_recipient.proofs.recipient.CoseRecipientBuilder.add_recipient.Goals as goal

pub returns-clause-ok : goal.returns-clause-ok
returns-clause-ok c =
    recipient-added c.self.inside.0 _ c.args.recipient refl c.in_ok-push.ensures.items
    ∙ ap (λ r. push_recipient (recipient_view c.args.recipient) (recipient_view r)) c.self.view_is
