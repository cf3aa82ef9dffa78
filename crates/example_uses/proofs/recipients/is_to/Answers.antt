use Rattle.std.proofs.Common.{◌∙◌, ap, sym}
use Rattle.coset_recipient.specs.RecipientViews.{recipient-unrolled}
use Rattle.example_uses.specs.Recipients.{is_to}
use Rattle.example_uses.proofs.recipients.is_to.Goals as goal

pub returns : goal.returns
returns c = c.one_names_key.ensures ∙ sym (ap (is_to c.args.key_id.now) (recipient-unrolled c.args.recipient.now))
