use Rattle.std.proofs.Common.{map, take}
use Rattle.coset_codec.specs.Encoding.{AppendsElements}
use Rattle.coset_codec.specs.Shape.{images}
use Rattle.coset_recipient.specs.Recipient.{recipient_image}
use Rattle.coset_recipient.specs.RecipientViews.{recipient_view}
use Rattle.coset_recipient.proofs.recipient.+write.Given as goal

abbrev pub invariant-write_each-loop-recipient : goal.invariant-write_each-loop-recipient
invariant-write_each-loop-recipient l = AppendsElements (images recipient_image
    (map recipient_view (take l.recipient-index l.all))) l.recipient-index l.initial.out.items l.out.items
