use Rattle.std.proofs.Common.{ap, inr, option_map, subst, sym}
use Rattle.coset_sign.specs.Sign1.{sign1_view}
use Rattle.coset_claims.specs.Claims.{claims}
use Rattle.coset_codec.specs.Results.{IsRefused}
use Rattle.example_uses.specs.Refusals.{AreNotVerified, HoldsNoClaims}
use Rattle.example_uses.proofs.Refusing.{no_payload, none_verified, passed}
use Rattle.example_uses.proofs.verify.verified_claims.Goals as goal

pub returns-in_err-message-clause-refused : goal.returns-in_err-message-clause-refused
returns-in_err-message-clause-refused g c =
    let accepts = g.K.VerifyingKey.accepts c.args.key.now in
    passed (AreNotVerified accepts c.args.external_aad.now c.args.token.now) _ _ c.from_residual.ensures.1
    (none_verified accepts c.args.external_aad.now c.args.token.now _ c.in_err-message.ensures.refused)

pub returns-in_default-clause-refused : goal.returns-in_default-clause-refused
returns-in_default-clause-refused g c =
    no_payload (g.K.VerifyingKey.accepts c.args.key.now) c.args.external_aad.now c.args.token.now
    (sign1_view c.in_ok-message.message) _ _ c.in_ok-message.ensures.verified (ap (option_map (λ b. b.items)) c.in_default.is)

pub returns-in_err-from_slice-clause-refused : goal.returns-in_err-from_slice-clause-refused
returns-in_err-from_slice-clause-refused g c =
    let accepts = g.K.VerifyingKey.accepts c.args.key.now in
    let refused : IsRefused claims c.deref.result.now c.in_err-from_slice.field-0.0 =
    λ k. (c.in_err-from_slice.ensures.read k, c.in_err-from_slice.ensures.refused k) in
    passed (AreNotVerified accepts c.args.external_aad.now c.args.token.now) _ _ c.from_residual-in_err-from_slice.ensures.1
    (inr (
      sign1_view c.in_ok-message.message,
      c.in_ok-message.ensures.verified,
      subst (λ o. HoldsNoClaims o c.in_err-from_slice.field-0.0) (sym (ap (option_map (λ b. b.items)) c.in-Some.is))
          (subst (λ p. IsRefused claims p c.in_err-from_slice.field-0.0) c.deref.ensures.value refused),
    ))
