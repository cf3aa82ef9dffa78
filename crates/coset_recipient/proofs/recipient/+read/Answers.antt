use Rattle.std.proofs.Common.{codes, option_map, map, ap, sym, subst, refl, ◌∙◌, arith, rules}
use Rattle.coset_value.specs.Item.{array}
use Rattle.coset_codec.specs.Errors.{stored}
use Rattle.coset_codec.specs.Inputs.{state}
use Rattle.coset_codec.specs.InPlace.{Fills}
use Rattle.coset_codec.specs.Shape.{Each}
use Rattle.coset_codec.proofs.InPlace.{last_filled, one_filled_more, one_refused_more}
use Rattle.coset_codec.proofs.Inputs.{items_smaller}
use Rattle.coset_codec.proofs.Lists.{all_read}
use Rattle.coset_core.specs.Views.{header_view, protected_view}
use Rattle.coset_recipient.specs.Recipient.{RecipientView, recipient, recipients_of}
use Rattle.coset_recipient.specs.RecipientReading.{BeginsThree}
use Rattle.coset_recipient.specs.RecipientViews.{recipient_view, recipient-rolled}
use Rattle.coset_recipient.specs.declared.recipient.CoseRecipient.{out-roll-CoseRecipient}
use Rattle.coset_recipient.proofs.Reading.{few_refused, last_refused, none_inside, not_entered, elements_filled}
use Rattle.coset_recipient.proofs.recipient.+read.Goals as goal

pub fill_recipient_list-loop-all-preserved : goal.fill_recipient_list-loop-all-preserved
fill_recipient_list-loop-all-preserved t c =
    let next = rw c.if-branch.true at c.in_ok-next_place.ensures in
    let read = c.in_ok-fill_recipient.ensures.shrinks in
    record {
      shrinks =
          let one = next.shrinks in
          let before = c.loop-all.invariant.shrinks in
          omega (arith, read, one, before);
      size =
          let behind = items_smaller c.next_place.new.elements (state c.next_place.new.input) (state c.fill_recipient.new.input) read in
          let one = next.size in
          let before = c.loop-all.invariant.size in
          omega (arith, behind, one, before);
      fills = λ vs z within.
          let p = c.loop-all.invariant.fills vs z within in
          one_filled_more recipient vs (state c.loop-all.input) (state c.next_place.new.input)
          (state c.fill_recipient.new.input) z c.loop-all.elements c.next_place.new.elements (map recipient_view c.loop-all.all.items) _
          (recipient_view c.fill_recipient.new.recipient) p (next.next p.others z p.within) c.in_ok-fill_recipient.ensures.fills
          (last_filled recipient_view c.loop-all.all.items c.next_place.new.all.items c.len-last.result next.place.0 c.fill_recipient.new.recipient
          (search rules) next.place.1);
    }

pub fill_recipient_list-returns-in_err-fill_recipient-clause-fills : goal.fill_recipient_list-returns-in_err-fill_recipient-clause-fills
fill_recipient_list-returns-in_err-fill_recipient-clause-fills t c = λ vs z within.
    let next = rw c.if-branch.true at c.in_ok-next_place.ensures in
    let p = c.loop-all.invariant.fills vs z within in
    one_refused_more recipient vs (state c.loop-all.input) (state c.next_place.new.input)
    (state c.fill_recipient.new.input) z c.loop-all.elements c.next_place.new.elements (map recipient_view c.loop-all.all.items) _
    (recipient_view c.fill_recipient.new.recipient) c.from_residual-in_err-fill_recipient.result c.fill_recipient.new.error c.in_err-fill_recipient.field-0.0
    c.from_residual-in_err-fill_recipient.ensures.1 p (next.next p.others z p.within)
    c.in_err-fill_recipient.ensures.fills

pub fill_recipient_list-returns-clause-fills : goal.fill_recipient_list-returns-clause-fills
fill_recipient_list-returns-clause-fills t c = λ vs z within.
    let next = rw c.if-branch.false at c.in_ok-next_place.ensures in
    let p = c.loop-all.invariant.fills vs z within in
    let none = next.next p.others z p.within in (
      (_, none.1),
      subst (λ xs. Each recipient.describes vs (map recipient_view xs)) (sym next.place)
          (all_read recipient vs p.others (map recipient_view c.loop-all.all.items) p.continues none.0),
    )

pub fill_elements-returns-in_err-first-clause-fills : goal.fill_elements-returns-in_err-first-clause-fills
fill_elements-returns-in_err-first-clause-fills t c = λ vs z within.
    let p = protected_view c.begin_elements.new.protected in
    let u = header_view c.begin_elements.new.unprotected in
    let o = option_map (λ b. b.items) c.begin_elements.new.ciphertext in
    let begins = subst (BeginsThree vs p u o (state c.begin_elements.new.input) z c.begin_elements.new.elements)
    (sym c.store_error.ensures.answers ∙ ap (stored c.store_error.new.error) c.in_err-first.was) (c.begin_elements.ensures.begins vs z within) in
    few_refused vs p u o (state c.begin_elements.new.input) z c.begin_elements.new.elements _ c.from_residual.result c.store_error.new.error
    c.in_err-first.field-0.0
    c.from_residual.ensures.1 begins

pub fill_elements-fill_fourth_element-requires : goal.fill_elements-fill_fourth_element-requires
fill_elements-fill_fourth_element-requires t c =
    let size = c.begin_elements.ensures.size in (
      omega (arith, size, c.decreases),
      ap (λ g. map recipient_view g.recipients.items) (out-roll-CoseRecipient _)
          ∙ none_inside c.args.recipient.now c.requires.empty,
    )

pub fill_elements-returns-in_err-fill_fourth_element-clause-fills : goal.fill_elements-returns-in_err-fill_fourth_element-clause-fills
fill_elements-returns-in_err-fill_fourth_element-clause-fills t c = λ vs z within.
    let p = protected_view c.begin_elements.new.protected in
    let u = header_view c.begin_elements.new.unprotected in
    let o = option_map (λ b. b.items) c.begin_elements.new.ciphertext in
    let begins = subst (BeginsThree vs p u o (state c.begin_elements.new.input) z c.begin_elements.new.elements)
    (sym c.store_error.ensures.answers ∙ ap (stored c.store_error.new.error) c.in_ok-first.was) (c.begin_elements.ensures.begins vs z within) in
    last_refused vs p u o (state c.begin_elements.new.input)
    (state c.fill_fourth_element.new.input) z c.begin_elements.new.elements c.fill_fourth_element.new.elements c.in_ok-first.first _
    (map recipient_view c.fill_fourth_element.new.all.items) c.from_residual-in_err-fill_fourth_element.result
    c.fill_fourth_element.new.error c.in_err-fill_fourth_element.field-0.0 c.from_residual-in_err-fill_fourth_element.ensures.1 begins
    (λ others inside. c.in_err-fill_fourth_element.ensures.fills others z inside)

pub fill_elements-returns-clause-fills : goal.fill_elements-returns-clause-fills
fill_elements-returns-clause-fills t c = λ vs z within.
    let p = protected_view c.begin_elements.new.protected in
    let u = header_view c.begin_elements.new.unprotected in
    let o = option_map (λ b. b.items) c.begin_elements.new.ciphertext in
    let rs = map recipient_view c.fill_fourth_element.new.all.items in
    let first = c.in_ok-first.first in
    let x : RecipientView = record { protected = p; unprotected = u; ciphertext = o; recipients = recipients_of rs } in
    let begins = subst (BeginsThree vs p u o (state c.begin_elements.new.input) z c.begin_elements.new.elements)
    (sym c.store_error.ensures.answers ∙ ap (stored c.store_error.new.error) c.in_ok-first.was) (c.begin_elements.ensures.begins vs z within) in
    let view = recipient-rolled _ ∙ ap (λ g. record {
      protected = protected_view g.protected;
      unprotected = header_view g.unprotected;
      ciphertext =
          option_map (λ b. b.items) g.ciphertext;
      recipients = recipients_of rs;
    }) (out-roll-CoseRecipient _) in
    let read = elements_filled vs (state c.begin_elements.new.input)
    (state c.fill_fourth_element.new.input) z c.begin_elements.new.elements c.fill_fourth_element.new.elements x rs first begins
    (λ others inside. c.in_ok-fill_fourth_element.ensures.fills others z inside) refl in (
      read.0,
      subst (λ y. Fills recipient (array vs) y (stored c.store_error-2.new.error c.store_error-2.result)) (sym view)
          (subst (Fills recipient (array vs) x) (sym c.store_error-2.ensures.answers) read.1),
    )

pub fill_recipient-returns-in_err-elements-clause-fills : goal.fill_recipient-returns-in_err-elements-clause-fills
fill_recipient-returns-in_err-elements-clause-fills t c = λ v z stands.
    not_entered (codes "array") v (state c.enter_array.new.self) z
    (recipient_view c.args.recipient.now) c.enter_array.result c.store_error.result c.store_error.new.error c.in_err-elements.field-0.0 c.from_residual.result
    c.from_residual.ensures.1
    c.store_error.ensures.answers c.in_err-elements.was (c.enter_array.ensures.enters v z stands)
