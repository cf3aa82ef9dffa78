use Rattle.std.specs.Borrow.{Bor}
use Rattle.std.proofs.Common.{◌≡◌, ◌∙◌, None, Ok, Some, ap, is_some, option_map, pos, subst, sym, true≢false}
use Rattle.coset.specs.View.{value_item, value_pairs}
use Rattle.coset_value.specs.declared.value.Value.{Value}
use Rattle.cwt_confirm.specs.Confirm.{ReadsChoice, ReadsIdentifier, choose, identifier_of}
use Rattle.cwt_confirm.specs.Members.{member}
use Rattle.cwt_confirm.specs.declared.confirmed.Confirmation.TheVariants.{Key}
use Rattle.cwt_confirm.proofs.Refused.{key_chosen, nothing}
use Rattle.cwt_confirm.proofs.claim.confirmation_in.Goals as goal
use Rattle.cwt_confirm.proofs.claim.confirmation_in.Goals.{else-is_some-via-then-is_some+else-is_some-2, else-is_some-via-else-is_some}

pub returns-in-Some : goal.returns-in-Some
returns-in-Some c =
    let ps = value_pairs c.args.pairs.now in
    let v = value_item c.in-Some.value.now in
    let k = c.in_ok-clear_key.field-0 in
    let item = λ (w : Bor Value). value_item w.now in
    let one : member (pos 1) ps ≡ Some v = sym c.member-clear.ensures ∙ ap (option_map item) c.in-Some.is in
    let two : member (pos 2) ps ≡ None =
    elim c.else-is_some.branch [
      | else-is_some-via-then-is_some+else-is_some-2 w ↦ sym c.member-encrypted.ensures
          ∙ nothing item c.member-encrypted.result (sym w.is_some-then-is_some.ensures ∙ w.if-is_some-2.false)
      | else-is_some-via-else-is_some w ↦ absurd (true≢false (sym (ap is_some c.in-Some.is) ∙ (sym c.is_some.ensures ∙ w.if-is_some.false)))
    ] in
    let kid = subst (λ o. ReadsIdentifier (identifier_of o) (Ok c.in_ok-key_id.key_id)) c.member.ensures c.in_ok-key_id.ensures in
    let i = identifier_of (member (pos 3) ps) in
    subst (λ o. ReadsChoice c.args.concealed (choose o (member (pos 2) ps) i) (Ok (Key k))) (sym one)
    (subst (λ o. ReadsChoice c.args.concealed (choose (Some v) o i) (Ok (Key k))) (sym two)
    (key_chosen c.args.concealed v i c.in_ok-key_id.key_id k kid c.in_ok-clear_key.ensures))
