use Rattle.std.proofs.Common.{◌≡◌, ◌+◌, ◌∙◌, subst, sym}
use Rattle.coset_recipient.specs.RecipientViews.{recipient-unrolled}
use Rattle.coset_recipient.specs.RecipientWriting.{last_elements}
use Rattle.coset_recipient.proofs.Writing.{four_elements, three_elements}
use Rattle.coset_recipient.proofs.recipient.count_elements.Goals as goal

pub returns-then-are_none : goal.returns-then-are_none
returns-then-are_none c =
    let none = rw c.deref.ensures.value at (sym c.are_none.ensures ∙ c.if-are_none.true) in
    subst (λ x. 3 ≡ 3 + last_elements x.recipients) (sym (recipient-unrolled c.args.recipient.now)) (three_elements _ none)

pub returns-else-are_none : goal.returns-else-are_none
returns-else-are_none c =
    let some = rw c.deref.ensures.value at (sym c.are_none.ensures ∙ c.if-are_none.false) in
    subst (λ x. 4 ≡ 3 + last_elements x.recipients) (sym (recipient-unrolled c.args.recipient.now)) (four_elements _ some)
