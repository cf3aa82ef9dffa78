use Rattle.std.proofs.Common.{◌∙◌}
use Rattle.coset_recipient.specs.RecipientViews.{recipient_view}
use Rattle.coset_recipient.proofs.Lists.{none_where_empty}
use Rattle.coset_recipient.proofs.recipient.are_none.Goals as goal

pub returns : goal.returns
returns c = c.is_empty.ensures ∙ none_where_empty recipient_view c.args.all.now
