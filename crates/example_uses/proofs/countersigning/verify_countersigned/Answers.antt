use Rattle.std.proofs.Common.{◌∙◌, [], ◌∷◌, Ok, ap, inl, inr, option_map, refl, subst}
use Rattle.coset_core.specs.Views.{countersignature_view}
use Rattle.coset_sign.specs.Sign1.{sign1_view}
use Rattle.example_uses.specs.Asked.{Says}
use Rattle.example_uses.specs.Countersigning.{VerifiesCountersigned}
use Rattle.example_uses.proofs.Calls.{NotSaid}
use Rattle.example_uses.proofs.Countersigned.{not_verified, same_structure, sought}
use Rattle.example_uses.proofs.Refusing.{passed_as}
use Rattle.example_uses.proofs.countersigning.verify_countersigned.Goals as goal

pub returns-in_err-message : goal.returns-in_err-message
returns-in_err-message g c =
    passed_as (VerifiesCountersigned g.F.FnOnce c.args.verify c.args.key_id.now c.args.external_aad.now c.args.absent c.args.message.now) _ _
    c.from_residual.ensures.1 (inl (λ k. (c.in_err-message.ensures.read k, c.in_err-message.ensures.refused k)))

pub returns-in_default : goal.returns-in_default
returns-in_default g c =
    inr (sign1_view c.in_ok-message.message, c.in_ok-message.ensures.read, ap (option_map (λ b. b.items)) c.in_default.is, tt)

pub returns-in_default-find_countersignature : goal.returns-in_default-find_countersignature
returns-in_default-find_countersignature g c =
    let m = c.in_ok-message.message in
    let none = sought c.args.key_id.now m.unprotected _ _ c.deref.ensures.value c.find_countersignature.ensures
    ∙ ap (option_map (λ x. countersignature_view x.now)) c.in_default-find_countersignature.is in
    (sign1_view m, c.in_ok-message.ensures.read, inl (none, refl))

pub returns-in_err-verify_countersignature : goal.returns-in_err-verify_countersignature
returns-in_err-verify_countersignature g c =
    let m = c.in_ok-message.message in
    let s = countersignature_view c.in-Some-find_countersignature.countersignature.now in
    let found = sought c.args.key_id.now m.unprotected _ _ c.deref.ensures.value c.find_countersignature.ensures
    ∙ ap (option_map (λ x. countersignature_view x.now)) c.in-Some-find_countersignature.is in
    let same = same_structure (sign1_view m) s c.args.external_aad.now _ _ _ c.in-Some.payload.items _ c.in_ok-body.ensures.copy refl c.deref-3.ensures.value
    (ap (λ x. x ∷ []) (c.in_ok-from_slice.ensures.items ∙ c.deref-2.ensures.value)) in
    passed_as (VerifiesCountersigned g.F.FnOnce c.args.verify c.args.key_id.now c.args.external_aad.now c.args.absent c.args.message.now) _ _
    c.from_residual-in_err-verify_countersignature.ensures.1
    (not_verified g.F.FnOnce c.args.verify c.countersigned_when_read.ensures.sign1 c.args.key_id.now c.args.external_aad.now c.args.message.now c.args.absent
    (sign1_view m) s c.in-Some.payload.items c.in_ok-message.ensures.read found (ap (option_map (λ b. b.items)) c.in-Some.is) _
    (subst (λ o. NotSaid g.F.FnOnce c.args.verify s.signature o c.in_err-verify_countersignature.field-0.0) same c.in_err-verify_countersignature.ensures))

pub returns : goal.returns
returns g c =
    let m = c.in_ok-message.message in
    let s = countersignature_view c.in-Some-find_countersignature.countersignature.now in
    let found = sought c.args.key_id.now m.unprotected _ _ c.deref.ensures.value c.find_countersignature.ensures
    ∙ ap (option_map (λ x. countersignature_view x.now)) c.in-Some-find_countersignature.is in
    let same = same_structure (sign1_view m) s c.args.external_aad.now _ _ _ c.in-Some.payload.items _ c.in_ok-body.ensures.copy refl c.deref-3.ensures.value
    (ap (λ x. x ∷ []) (c.in_ok-from_slice.ensures.items ∙ c.deref-2.ensures.value)) in (
      c.in_ok-message.ensures.read,
      (
        s,
        c.in-Some.payload.items,
        found,
        ap (option_map (λ b. b.items)) c.in-Some.is,
        subst (λ o. Says g.F.FnOnce c.args.verify s.signature o (Ok tt)) same c.in_ok-verify_countersignature.ensures,
      ),
    )
