use Rattle.std.proofs.Common.{◌≡◌, ◌∙◌, ℕ, List, Bool, false, not, Option, None, ap, inl, inr, is_some, map, option_map, refl, subst, sym}
use Rattle.std.specs.Borrow.{Bor}
use Rattle.coset_recipient.specs.Encrypt.{encrypt_view}
use Rattle.coset_core.specs.Calls.{CallsWith}
use Rattle.coset_recipient.specs.RecipientViews.{recipient-unrolled, recipient_view}
use Rattle.coset_recipient.specs.declared.recipient.CoseRecipient.{CoseRecipient, out-CoseRecipient}
use Rattle.example_uses.specs.Recipients.{recipient_by, wrap_structure}
use Rattle.example_uses.proofs.Asked.{missing, there}
use Rattle.example_uses.proofs.Calls.{when_some}
use Rattle.example_uses.proofs.Unwrapping.{key_given}
use Rattle.example_uses.proofs.recipients.content_key.Goals as goal

-- The search result, as a statement about the message's recipients.
sought :
    (key_id : List ℕ) (o : Option (Bor CoseRecipient)) (all given : List CoseRecipient) → given ≡ all
    → option_map (λ r. recipient_view r.now) o ≡ recipient_by key_id (map recipient_view given)
    → recipient_by key_id (map recipient_view all) ≡ option_map (λ r. recipient_view r.now) o
sought key_id o all given same e = sym (subst (λ rs. option_map (λ r. recipient_view r.now) o ≡ recipient_by key_id (map recipient_view rs)) same e)

pub returns-in_default : goal.returns-in_default
returns-in_default g c =
    inl (
      inl (sought c.args.key_id.now _ _ _ c.deref.ensures.value c.find_recipient.ensures ∙ ap (option_map (λ r. recipient_view r.now)) c.in_default.is),
      refl,
    )

pub returns-then-is_none : goal.returns-then-is_none
returns-then-is_none g c =
    let r = c.in-Some.recipient.now in
    let found = sought c.args.key_id.now _ _ _ c.deref.ensures.value c.find_recipient.ensures ∙ ap (option_map (λ r. recipient_view r.now)) c.in-Some.is in
    let none : (recipient_view r).ciphertext ≡ None = ap (λ x. x.ciphertext) (recipient-unrolled r)
    ∙ missing (out-CoseRecipient r).ciphertext c.is_none.result c.is_none.ensures c.if-is_none.true in
    inl (inr (recipient_view r, found, inl none), refl)

pub returns-then-misuses_key_wrap : goal.returns-then-misuses_key_wrap
returns-then-misuses_key_wrap g c =
    let r = recipient_view c.in-Some.recipient.now in
    let found = sought c.args.key_id.now _ _ _ c.deref.ensures.value c.find_recipient.ensures ∙ ap (option_map (λ r. recipient_view r.now)) c.in-Some.is in
    inl (inr (r, found, inr (sym c.misuses_key_wrap.ensures ∙ c.if-misuses_key_wrap.true)), refl)

carried : (r : CoseRecipient) (b : Bool) → is_some (out-CoseRecipient r).ciphertext ≡ not b → b ≡ false → (recipient_view r).ciphertext ≡ None → ⊥
carried r b e some none = there (out-CoseRecipient r).ciphertext b e some (sym (ap (λ x. x.ciphertext) (recipient-unrolled r)) ∙ none)

pub decrypt-requires-clause-attached : goal.decrypt-requires-clause-attached
decrypt-requires-clause-attached g c = carried c.in-Some.recipient.now c.is_none.result c.is_none.ensures c.if-is_none.false

pub returns : goal.returns
returns g c =
    let r = recipient_view c.in-Some.recipient.now in
    let found = sought c.args.key_id.now _ _ _ c.deref.ensures.value c.find_recipient.ensures ∙ ap (option_map (λ r. recipient_view r.now)) c.in-Some.is in
    let asked = when_some (λ w. CallsWith g.F.FnOnce c.args.unwrap w (wrap_structure r) c.decrypt.result) r.ciphertext
    (carried c.in-Some.recipient.now c.is_none.result c.is_none.ensures c.if-is_none.false) c.decrypt.ensures in
    key_given g.F.FnOnce c.args.unwrap c.args.absent c.args.key_id.now (encrypt_view c.args.message.now) r asked.0 c.decrypt.result found asked.1
    (sym c.misuses_key_wrap.ensures ∙ c.if-misuses_key_wrap.false) asked.2
