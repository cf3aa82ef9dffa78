use Rattle.std.proofs.Common.{◌≡◌, ◌∙◌, ℕ, List, Bool, Ok, inl, inr, map, refl, subst, sym, true, false}
use Rattle.coset_recipient.specs.RecipientViews.{recipient_view}
use Rattle.coset_recipient.specs.declared.recipient.CoseRecipient.{CoseRecipient}
use Rattle.std.specs.List.{list_any}
use Rattle.coset_recipient.specs.Mac.{mac_view, mac_structure_of}
use Rattle.example_uses.specs.Asked.{Says}
use Rattle.example_uses.specs.SharedKey.{VerifiesFor, is_direct_to}
use Rattle.example_uses.proofs.Asked.{missing, there}
use Rattle.example_uses.proofs.Calls.{NotSaid, when_some}
use Rattle.example_uses.proofs.Refusing.{passed_as}
use Rattle.example_uses.proofs.SharedKeys.{not_verified_for}
use Rattle.example_uses.proofs.shared_key.verify_for.Goals as goal

-- The test's result, as a statement about the message's recipients.
told :
    (key_id : List ℕ) (b : Bool) (all given : List CoseRecipient) → given ≡ all → b ≡ list_any (is_direct_to key_id) (map recipient_view given)
    → list_any (is_direct_to key_id) (map recipient_view all) ≡ b
told key_id b all given same e = sym (subst (λ rs. b ≡ list_any (is_direct_to key_id) (map recipient_view rs)) same e)

pub returns-in_err-message : goal.returns-in_err-message
returns-in_err-message g c =
    passed_as (VerifiesFor g.F.FnOnce c.args.verify c.args.key_id.now c.args.external_aad.now c.args.absent c.args.message.now) _ _ c.from_residual.ensures.1
    (λ k. (c.in_err-message.ensures.read k, c.in_err-message.ensures.refused k))

pub returns-then-is_none : goal.returns-then-is_none
returns-then-is_none g c =
    let m = mac_view c.in_ok-message.message in
    (m, c.in_ok-message.ensures.read, inl (inl (missing c.in_ok-message.message.payload c.is_none.result c.is_none.ensures c.if-is_none.true), refl))

pub returns-then-not-are_direct : goal.returns-then-not-are_direct
returns-then-not-are_direct g c =
    let m = mac_view c.in_ok-message.message in
    let none : list_any (is_direct_to c.args.key_id.now) m.recipients ≡ false = told c.args.key_id.now _ _ _ c.deref.ensures.value c.are_direct.ensures ∙
    c.if-not-are_direct.true in
    (m, c.in_ok-message.ensures.read, inl (inr none, refl))

pub returns-in_err-verify_tag : goal.returns-in_err-verify_tag
returns-in_err-verify_tag g c =
    let m = mac_view c.in_ok-message.message in
    let some : list_any (is_direct_to c.args.key_id.now) m.recipients ≡ true = told c.args.key_id.now _ _ _ c.deref.ensures.value c.are_direct.ensures ∙
    c.if-not-are_direct.false in
    let asked = when_some (λ p. NotSaid g.F.FnOnce c.args.verify m.tag (mac_structure_of m c.args.external_aad.now p) c.in_err-verify_tag.field-0.0) m.payload
    (there c.in_ok-message.message.payload c.is_none.result c.is_none.ensures c.if-is_none.false) c.in_err-verify_tag.ensures in
    passed_as (VerifiesFor g.F.FnOnce c.args.verify c.args.key_id.now c.args.external_aad.now c.args.absent c.args.message.now) _ _
    c.from_residual-in_err-verify_tag.ensures.1
    (not_verified_for g.F.FnOnce c.args.verify c.structures_when_read.ensures.mac c.args.key_id.now c.args.external_aad.now c.args.message.now c.args.absent
    m asked.0 c.in_ok-message.ensures.read asked.1 some _ asked.2)

pub returns : goal.returns
returns g c =
    let m = mac_view c.in_ok-message.message in
    let some : list_any (is_direct_to c.args.key_id.now) m.recipients ≡ true = told c.args.key_id.now _ _ _ c.deref.ensures.value c.are_direct.ensures ∙
    c.if-not-are_direct.false in
    let asked = when_some (λ p. Says g.F.FnOnce c.args.verify m.tag (mac_structure_of m c.args.external_aad.now p) (Ok tt)) m.payload
    (there c.in_ok-message.message.payload c.is_none.result c.is_none.ensures c.if-is_none.false) c.in_ok-verify_tag.ensures in
    (c.in_ok-message.ensures.read, (asked.0, asked.1, some, asked.2))
