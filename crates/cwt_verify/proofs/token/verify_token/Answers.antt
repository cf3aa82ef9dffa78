use Rattle.std.proofs.Common.{◌≡◌, ◌∙◌, ℤ, Some, None, true, false, ap, map, refl, subst, sym}
use Rattle.std.proofs.lemmas.Int.{to_z-of_z}
use mir.Syntax.{w64}
use Rattle.coset.specs.Known.{known, known_view}
use Rattle.coset.specs.Results.{Describes, IsRefused}
use Rattle.coset.specs.Shape.{any}
use Rattle.cwt_keys.specs.Keys.{name_view}
use Rattle.cwt_verify.specs.Claims.{first_true, reasons}
use Rattle.cwt_verify.specs.Opening.{verified_view}
use Rattle.cwt_verify.specs.Policy.{policy_view}
use Rattle.cwt_verify.specs.Verify.{VerifiesToken, is_typed}
use Rattle.cwt_verify.specs.Walk.{RefusesBytes}
use Rattle.cwt_verify.specs.declared.token.VerifiedToken.{VerifiedToken}
use Rattle.cwt_verify.proofs.Judging.{accepted, agrees_on, no_claims, only_memory, refused, untyped, with_claims}
use Rattle.cwt_verify.proofs.Reading.{passed_on}
use Rattle.cwt_verify.proofs.token.verify_token.Goals as goal

pub returns-then-not-is_typed : goal.returns-then-not-is_typed
returns-then-not-is_typed g c =
    let k = g.K.Keys.view c.args.keys.now in
    let p = policy_view c.args.policy.now in
    let typed = ap (λ ls. is_typed p.types (map verified_view ls)) (sym c.deref.ensures.value) ∙ (sym c.is_typed.ensures ∙ c.if-not-is_typed.true) in
    untyped k p c.args.now c.args.token.now c.in_ok-opened.opened c.in_ok-opened.ensures c.in-Some.issuer c.in-Some.is typed

pub returns-in-Err : goal.returns-in-Err
returns-in-Err g c =
    let k = g.K.Keys.view c.args.keys.now in
    let p = policy_view c.args.policy.now in
    let e = c.in-Err.error in
    let typed = ap (λ ls. is_typed p.types (map verified_view ls)) (sym c.deref.ensures.value) ∙ (sym c.is_typed.ensures ∙ c.if-not-is_typed.false) in
    no_claims k p c.args.now c.args.token.now c.in_ok-opened.opened c.in_ok-opened.ensures c.in-Some.issuer c.in-Some.is e typed
    (subst (λ q. RefusesBytes known q e) c.deref-2.ensures.value (c.in-Err.ensures.refused, c.in-Err.ensures.memory))

pub returns-in-Err-header_claims_agree : goal.returns-in-Err-header_claims_agree
returns-in-Err-header_claims_agree g c =
    let k = g.K.Keys.view c.args.keys.now in
    let p = policy_view c.args.policy.now in
    let o = c.in_ok-opened.opened in
    let e = c.in-Err-header_claims_agree.error in
    let x = known_view c.in-Ok.known in
    let typed = ap (λ ls. is_typed p.types (map verified_view ls)) (sym c.deref.ensures.value) ∙ (sym c.is_typed.ensures ∙ c.if-not-is_typed.false) in
    let read : Describes known o.content.items x = subst (λ q. Describes known q x) c.deref-2.ensures.value c.in-Ok.ensures.read in
    no_claims k p c.args.now c.args.token.now o c.in_ok-opened.ensures c.in-Some.issuer c.in-Some.is e typed
    (only_memory o.content.items x e read (subst (λ q. IsRefused any q e) c.deref-4.ensures.value c.in-Err-header_claims_agree.ensures.refused))

pub returns-then-not-agree : goal.returns-then-not-agree
returns-then-not-agree g c =
    let k = g.K.Keys.view c.args.keys.now in
    let p = policy_view c.args.policy.now in
    let o = c.in_ok-opened.opened in
    let x = known_view c.in-Ok.known in
    let typed = ap (λ ls. is_typed p.types (map verified_view ls)) (sym c.deref.ensures.value) ∙ (sym c.is_typed.ensures ∙ c.if-not-is_typed.false) in
    let read : Describes known o.content.items x = subst (λ q. Describes known q x) c.deref-2.ensures.value c.in-Ok.ensures.read in
    with_claims k p c.args.now c.args.token.now o c.in_ok-opened.ensures c.in-Some.issuer c.in-Some.is false x (λ vs y name. Unit {0}) typed read
    (agrees_on o c.deref-3.result.now c.deref-4.result.now c.in-Ok-header_claims_agree.agree false c.deref-3.ensures.value c.deref-4.ensures.value
    c.if-not-agree.true c.in-Ok-header_claims_agree.ensures.answer) tt

pub returns-in_err-check_claims : goal.returns-in_err-check_claims
returns-in_err-check_claims g c =
    let k = g.K.Keys.view c.args.keys.now in
    let p = policy_view c.args.policy.now in
    let o = c.in_ok-opened.opened in
    let x = known_view c.in-Ok.known in
    let issuer = c.in-Some.issuer in
    let e = c.in_err-check_claims.field-0.0 in
    let typed = ap (λ ls. is_typed p.types (map verified_view ls)) (sym c.deref.ensures.value) ∙ (sym c.is_typed.ensures ∙ c.if-not-is_typed.false) in
    let read : Describes known o.content.items x = subst (λ q. Describes known q x) c.deref-2.ensures.value c.in-Ok.ensures.read in
    let first : first_true (reasons p c.args.now (name_view issuer) x) ≡ Some e =
    subst (λ (n : ℤ). first_true (reasons p n (name_view issuer) x) ≡ Some e) (to_z-of_z w64 c.args.now c.ranges.now) c.in_err-check_claims.ensures in
    passed_on (VerifiesToken k p c.args.now c.args.token.now) c.from_residual-in_err-check_claims.result e c.from_residual-in_err-check_claims.ensures.1
    (refused k p c.args.now c.args.token.now o c.in_ok-opened.ensures issuer c.in-Some.is e x typed read
    (agrees_on o c.deref-3.result.now c.deref-4.result.now c.in-Ok-header_claims_agree.agree true c.deref-3.ensures.value c.deref-4.ensures.value
    c.if-not-agree.false c.in-Ok-header_claims_agree.ensures.answer) first)

pub returns : goal.returns
returns g c =
    let k = g.K.Keys.view c.args.keys.now in
    let p = policy_view c.args.policy.now in
    let o = c.in_ok-opened.opened in
    let x = known_view c.in-Ok.known in
    let issuer = c.in-Some.issuer in
    let typed = ap (λ ls. is_typed p.types (map verified_view ls)) (sym c.deref.ensures.value) ∙ (sym c.is_typed.ensures ∙ c.if-not-is_typed.false) in
    let read : Describes known o.content.items x = subst (λ q. Describes known q x) c.deref-2.ensures.value c.in-Ok.ensures.read in
    let t : VerifiedToken = record {
      claims = c.in-Ok.known.claims;
      audience = c.in-Ok.known.audience;
      others = c.in-Ok.known.others;
      issuer = issuer;
      layers = o.layers;
    } in
    let none : first_true (reasons {E = g.row.K-Error.Denot} p c.args.now (name_view issuer) x) ≡ None =
    subst (λ (n : ℤ). first_true (reasons {E = g.row.K-Error.Denot} p n (name_view issuer) x) ≡ None) (to_z-of_z w64 c.args.now c.ranges.now)
    c.in_ok-check_claims.ensures in
    accepted k p c.args.now c.args.token.now o c.in_ok-opened.ensures issuer c.in-Some.is t x typed read
    (agrees_on o c.deref-3.result.now c.deref-4.result.now c.in-Ok-header_claims_agree.agree true c.deref-3.ensures.value c.deref-4.ensures.value
    c.if-not-agree.false c.in-Ok-header_claims_agree.ensures.answer) none refl
