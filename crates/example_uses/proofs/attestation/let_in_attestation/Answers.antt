use mir.Syntax.{w64}
use Rattle.std.proofs.lemmas.Int.{to_z-of_z}
use Rattle.std.proofs.Common.{◌∙◌, Ok, Err, subst, sym, true≢false}
use Rattle.cwt_verify.specs.Verify.{VerifiesToken}
use Rattle.example_uses.specs.Attestation.{attestation_policy}
use Rattle.example_uses.proofs.Attested.{refused}
use Rattle.example_uses.proofs.attestation.let_in_attestation.Goals as goal

pub returns-in_err-verified : goal.returns-in_err-verified
returns-in_err-verified g c =
    let k = g.K.Keys.view c.args.keys.now in
    let e = c.in_err-verified.field-0.0 in
    refused k c.args.nonce.now c.args.now c.args.token.now c.from_residual.result e c.from_residual.ensures.1
    (subst (λ n. VerifiesToken k attestation_policy n c.args.token.now (Err e)) (to_z-of_z w64 c.args.now c.ranges.now) c.in_err-verified.ensures)

pub returns-then-not-is_fresh : goal.returns-then-not-is_fresh
returns-then-not-is_fresh g c =
    let k = g.K.Keys.view c.args.keys.now in
    let t = c.in_ok-verified.verified in (
      t,
      subst (λ n. VerifiesToken k attestation_policy n c.args.token.now (Ok t)) (to_z-of_z w64 c.args.now c.ranges.now) c.in_ok-verified.ensures,
      λ fresh. true≢false (sym (c.is_fresh.ensures.1 fresh) ∙ c.if-not-is_fresh.true),
    )

pub returns : goal.returns
returns g c =
    let k = g.K.Keys.view c.args.keys.now in
    let t = c.in_ok-verified.verified in (
      subst (λ n. VerifiesToken k attestation_policy n c.args.token.now (Ok t)) (to_z-of_z w64 c.args.now c.ranges.now) c.in_ok-verified.ensures,
      c.is_fresh.ensures.0 c.if-not-is_fresh.false,
    )
