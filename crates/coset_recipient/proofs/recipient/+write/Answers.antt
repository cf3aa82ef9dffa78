use Rattle.std.proofs.Common.{take, drop, map, length, sym, subst, ap, ◌∙◌, ◌+◌, ◌≡◌, arith}
use Rattle.std.proofs.Math.Seq.{take-length}
use Rattle.coset_codec.proofs.EncodingMaps.{taken, around}
use Rattle.coset_codec.specs.Encoding.{AppendsElements, HasNoImage}
use Rattle.coset_codec.specs.Shape.{images}
use Rattle.coset_codec.proofs.Encoding.{nothing-put, element-put, images-missing, array-encoded}
use Rattle.coset_codec.proofs.Lists.{on_err}
use Rattle.coset_recipient.specs.Recipient.{are_none, recipient_image, recipients_of}
use Rattle.coset_recipient.specs.RecipientViews.{recipient_view, recipient-unrolled}
use Rattle.coset_recipient.proofs.Writing.{last_written, none_of, some_of, without_last}
use Rattle.coset_recipient.proofs.recipient.+write.Goals as goal

pub write_each-loop-recipient-init : goal.write_each-loop-recipient-init
write_each-loop-recipient-init t c = nothing-put c.args.out.now.items

pub write_each-loop-recipient-preserved : goal.write_each-loop-recipient-preserved
write_each-loop-recipient-preserved t c =
    let all = c.args.all.now in
    let i = c.loop-recipient.recipient-index in
    subst (λ xs. AppendsElements (images recipient_image xs) (i + 1) c.args.out.now.items c.write_recipient.new.out.items)
    (sym (taken recipient_view all i c.recipient-item.result (omega arith) c.recipient-item.is))
    (element-put recipient_image (map recipient_view (take i all))
    (recipient_view c.recipient-item.result) c.loop-recipient.invariant c.in_ok-write_recipient.ensures.written)

pub write_each-returns-in_err-write_recipient-clause-refused : goal.write_each-returns-in_err-write_recipient-clause-refused
write_each-returns-in_err-write_recipient-clause-refused t c =
    let all = c.args.all.now in
    let i = c.loop-recipient.recipient-index in
    let x = c.recipient-item.result in
    on_err c.from_residual.result c.in_err-write_recipient.field-0.0 (HasNoImage (images recipient_image (map recipient_view all))) c.from_residual.ensures.1
    (λ m.
    let none = c.in_err-write_recipient.ensures.written m in (
      none.0,
      ap (images recipient_image) (around recipient_view all i x (omega arith) c.recipient-item.is)
          ∙ images-missing recipient_image (map recipient_view (take i all)) (map recipient_view (drop (i + 1) all)) (recipient_view x) none.1,
    ))

pub write_each-returns-clause-ok : goal.write_each-returns-clause-ok
write_each-returns-clause-ok t c =
    let all = c.args.all.now in
    let ends : c.loop-recipient.recipient-index ≡ length all = omega (arith, c.loop-recipient-test.false, c.loop-recipient.auto.recipient-index-end) in
    subst (λ xs. AppendsElements (images recipient_image (map recipient_view xs)) (length all) c.args.out.now.items c.loop-recipient.out.items)
    (take-length all)
    (subst (λ k. AppendsElements (images recipient_image
    (map recipient_view (take k all))) k c.args.out.now.items c.loop-recipient.out.items) ends c.loop-recipient.invariant)

pub write_recipients-returns-clause-written : goal.write_recipients-returns-clause-written
write_recipients-returns-clause-written t c =
    let all = c.args.all.now in
    array-encoded (images recipient_image (map recipient_view all)) (length all) _ _ _ c.write_each.result
    (omega arith) c.in_ok-write_array_head.ensures.ok c.write_each.ensures.ok c.write_each.ensures.refused

pub write_recipient-returns-then-are_none-clause-written : goal.write_recipient-returns-then-are_none-clause-written
write_recipient-returns-then-are_none-clause-written t c =
    let r = c.args.recipient.now in
    let none = rw c.deref-inside.ensures.value at (sym c.are_none.ensures ∙ c.if-are_none.true) in
    without_last (recipient_view r) _ _ (none_of _ (ap (λ x. are_none x.recipients) (recipient-unrolled r) ∙ none)) c.in_ok-write_first.ensures.written

pub write_recipient-returns-clause-written : goal.write_recipient-returns-clause-written
write_recipient-returns-clause-written t c =
    let r = c.args.recipient.now in
    let inside = map recipient_view c.deref-inside.result.now in
    last_written (recipient_view r) _ _ _ inside _ (ap (λ x. x.recipients) (recipient-unrolled r)
    ∙ ap (λ rs. recipients_of (map recipient_view rs)) (sym c.deref-inside.ensures.value))
    (some_of inside (sym c.are_none.ensures ∙ c.if-are_none.false)) c.in_ok-write_first.ensures.written c.write_recipients.ensures.written
