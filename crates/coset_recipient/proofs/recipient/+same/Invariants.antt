use Rattle.std.proofs.Common.{◌≡◌, List, length, map, Bool}
use Rattle.std.specs.Iterator.Adapters.{zip_first, zip_second}
use Rattle.std.specs.Slice.Iter.{iter_rest}
use Rattle.coset_recipient.specs.Recipient.{recipients_of}
use Rattle.coset_recipient.specs.RecipientSame.{recipients_eq}
use Rattle.coset_recipient.specs.RecipientViews.{recipient_view}
use Rattle.coset_recipient.specs.declared.recipient.CoseRecipient.{CoseRecipient}
use Rattle.coset_recipient.proofs.recipient.+same.Given as goal

abbrev same : List CoseRecipient → List CoseRecipient → Bool
same rs ss = recipients_eq (recipients_of (map recipient_view rs)) (recipients_of (map recipient_view ss))

-- The rests of the two lists have the same length, and are equal exactly if the lists are.
abbrev pub invariant-same_recipients-loop-a : goal.invariant-same_recipients-loop-a
invariant-same_recipients-loop-a l =
    let rs = iter_rest (zip_first l.a-iterator) in
    let ss = iter_rest (zip_second l.a-iterator) in
    (length rs ≡ length ss) × (same rs ss ≡ same l.all l.others)
