use Rattle.std.proofs.Common.{◌≡◌, ◌≤◌, ◌∙◌, ℕ, Some, Err, Vec, ap, arith, length, map, option_map, refl, subst, sym}
use Rattle.std.proofs.lemmas.List.{length-map}
use Rattle.std.specs.Global.{Global}
use Rattle.coset.specs.CoseSignature.{CoseSignature}
use Rattle.coset.specs.Sign.{sign_view}
use Rattle.coset.specs.Views.{signature_view}
use Rattle.cwt_keys.specs.Keys.{name_view}
use Rattle.cwt_verify.specs.Layers.{signed_by}
use Rattle.cwt_verify.specs.Opening.{Opens}
use Rattle.cwt_verify.specs.Policy.{policy_view}
use Rattle.cwt_verify.specs.Signatures.{FindsSignature, IsFirst}
use Rattle.cwt_verify.proofs.Reading.{passed_on}
use Rattle.cwt_verify.proofs.Trying.{none_opened, one_opened}
use Rattle.cwt_verify.proofs.signatures.open_signed_by.Goals as goal

pub returns-in_err-signature : goal.returns-in_err-signature
returns-in_err-signature g c =
    let k = g.K.Keys.view c.args.keys.now in
    let p = policy_view c.args.policy.now in
    let m = sign_view c.args.message in
    let e = c.in_err-signature.field-0.0 in
    let carried : m.payload ≡ Some c.in-Some.content.items = ap (option_map (λ (b : Vec ℕ Global). b.items)) (sym c.take.ensures.value ∙ c.in-Some.is) in
    let some = c.replace-signatures.result in
    let few : length m.signatures ≤ 16 =
    subst (λ (v : Vec CoseSignature Global). length (map signature_view v.items) ≤ 16) c.replace-signatures.ensures.value
    (subst (λ n. n ≤ 16) (sym (length-map some.items signature_view))
    (omega (arith, c.len.ensures, c.if-len-gt-MAX_SIGNATURES.false, some.ok.0))) in
    passed_on (Opens k p (signed_by m)) c.from_residual.result e c.from_residual.ensures.1
    (none_opened k p m c.in-Some.content.items e (carried, few)
    (subst (λ q. FindsSignature k p m.protected q m.signatures (Err e)) c.deref.ensures.value
    (subst (λ (v : Vec CoseSignature Global). FindsSignature k p m.protected c.deref.result.now (map signature_view v.items) (Err e))
    c.replace-signatures.ensures.value c.in_err-signature.ensures)))

pub returns : goal.returns
returns g c =
    let k = g.K.Keys.view c.args.keys.now in
    let p = policy_view c.args.policy.now in
    let m = sign_view c.args.message in
    let s = signature_view c.in_ok-signature.signature in
    let n = name_view c.in_ok-signature.issuer in
    let carried : m.payload ≡ Some c.in-Some.content.items = ap (option_map (λ (b : Vec ℕ Global). b.items)) (sym c.take.ensures.value ∙ c.in-Some.is) in
    let some = c.replace-signatures.result in
    let few : length m.signatures ≤ 16 =
    subst (λ (v : Vec CoseSignature Global). length (map signature_view v.items) ≤ 16) c.replace-signatures.ensures.value
    (subst (λ n. n ≤ 16) (sym (length-map some.items signature_view))
    (omega (arith, c.len.ensures, c.if-len-gt-MAX_SIGNATURES.false, some.ok.0))) in (
      one_opened k p m c.in-Some.content.items c.deref.result.now s n (carried, few) c.deref.ensures.value
          (subst (λ (v : Vec CoseSignature Global). IsFirst k p m.protected c.deref.result.now (map signature_view v.items) s n)
          c.replace-signatures.ensures.value c.in_ok-signature.ensures),
      refl,
    )
