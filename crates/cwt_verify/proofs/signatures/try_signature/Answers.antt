use Rattle.std.proofs.Common.{Err, refl, subst}
use Rattle.coset.specs.Views.{protected_view, signature_view}
use Rattle.cwt_keys.specs.Keys.{name_view}
use Rattle.cwt_keys.specs.Sealed.{seal_view}
use Rattle.cwt_verify.specs.Admission.{ChecksHeaders, headers_view}
use Rattle.cwt_verify.specs.Policy.{policy_view}
use Rattle.cwt_verify.specs.Signatures.{TriesSignature}
use Rattle.cwt_verify.proofs.Reading.{passed_on}
use Rattle.cwt_verify.proofs.Receiving.{signature_parts}
use Rattle.cwt_verify.proofs.Trying.{is_accepted, turned_away}
use Rattle.cwt_verify.proofs.signatures.try_signature.Goals as goal

pub returns-in_err-check_headers : goal.returns-in_err-check_headers
returns-in_err-check_headers g c =
    let k = g.K.Keys.view c.args.keys.now in
    let p = policy_view c.args.policy.now in
    let body = protected_view c.args.message.now.protected in
    let s = signature_view c.args.signature in
    let e = c.in_err-check_headers.field-0.0 in
    passed_on (TriesSignature k p body c.args.content.now s) c.from_residual.result e c.from_residual.ensures.1
    (turned_away k p body c.args.content.now s e (subst (λ h. ChecksHeaders p h (Err e)) c.headers_of.ensures c.in_err-check_headers.ensures))

pub returns-in-Ok-verify : goal.returns-in-Ok-verify
returns-in-Ok-verify g c =
    let k = g.K.Keys.view c.args.keys.now in
    let p = policy_view c.args.policy.now in
    let body = protected_view c.args.message.now.protected in
    let s = c.args.signature in
    let x = seal_view c.new-sealed.result in
    let t = c.in-Ok.structure.items in (
      refl,
      is_accepted k p body c.args.content.now (signature_view s) t (name_view c.in-Ok-verify.issuer) (headers_view c.headers_of.result) x
          c.headers_of.ensures c.in_ok-check_headers.ensures c.in-Ok.ensures
          (signature_parts s x _ _ t c.new-sealed.ensures c.deref.ensures.value c.deref-2.ensures.value) c.in-Ok-verify.ensures.accepted,
    )
