use Rattle.std.proofs.Common.{inl, inr}
use Rattle.coset_sign.specs.Sign1.{sign1_view}
use Rattle.example_uses.specs.Detached.{VerifiesApart}
use Rattle.example_uses.proofs.Apart.{carries, carries_none, not_verified_apart}
use Rattle.example_uses.proofs.Refusing.{passed_as}
use Rattle.example_uses.proofs.detached.verify_detached.Goals as goal

pub returns-in_err-message : goal.returns-in_err-message
returns-in_err-message g c =
    passed_as (VerifiesApart g.F.FnOnce c.args.verify c.args.external_aad.now c.args.payload.now c.args.message.now) _ _ c.from_residual.ensures.1
    (inl (λ k. (c.in_err-message.ensures.read k, c.in_err-message.ensures.refused k)))

pub returns-then-is_some : goal.returns-then-is_some
returns-then-is_some g c =
    inr (sign1_view c.in_ok-message.message, c.in_ok-message.ensures.read, carries c.in_ok-message.message.payload c.is_some.ensures c.if-is_some.true, tt)

pub returns-in_err-verify_detached_signature : goal.returns-in_err-verify_detached_signature
returns-in_err-verify_detached_signature g c =
    let m = sign1_view c.in_ok-message.message in
    passed_as (VerifiesApart g.F.FnOnce c.args.verify c.args.external_aad.now c.args.payload.now c.args.message.now) _ _
    c.from_residual-in_err-verify_detached_signature.ensures.1
    (not_verified_apart g.F.FnOnce c.args.verify c.signed_when_read.ensures.plain c.args.external_aad.now c.args.payload.now c.args.message.now m
    c.in_ok-message.ensures.read (carries_none c.in_ok-message.message.payload c.is_some.ensures c.if-is_some.false) _
    c.in_err-verify_detached_signature.ensures)

pub returns : goal.returns
returns g c = (
  c.in_ok-message.ensures.read,
  (carries_none c.in_ok-message.message.payload c.is_some.ensures c.if-is_some.false, c.in_ok-verify_detached_signature.ensures),
)
