use Rattle.coset_recipient.specs.RecipientViews.{recipient_view}
use Rattle.coset_sign.proofs.Copied.{each_copied}
use Rattle.coset_recipient.proofs.recipient.copy_recipient_list.Goals as goal

pub returns : goal.returns
returns c = each_copied recipient_view c.args.all.now.items _ c.in_ok-clone.ensures.cases.0
