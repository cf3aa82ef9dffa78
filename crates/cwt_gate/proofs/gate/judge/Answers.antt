use Rattle.std.proofs.Common.{◌∙◌, sym}
use Rattle.coset.specs.Claims.{claims_view}
use Rattle.coset.specs.Sign1.{sign1_view}
use Rattle.cwt_gate.specs.Gate.{Judges}
use Rattle.cwt_gate.specs.Moment.{has_expired, is_early}
use Rattle.cwt_gate.proofs.Judging.{moved, none_given, passed_on}
use Rattle.cwt_gate.proofs.gate.judge.Goals as goal

pub returns-in-Err : goal.returns-in-Err
returns-in-Err g c = ((λ n. (c.in-Err.ensures.read n, c.in-Err.ensures.refused n)), c.in-Err.ensures.memory)

pub returns-in_err-claims : goal.returns-in_err-claims
returns-in_err-claims g c =
    let e = c.in_err-claims.field-0.0 in
    passed_on (Judges g.F.FnOnce c.args.verify c.args.now c.args.token.now) c.from_residual.result e c.from_residual.ensures.1
    (none_given g.F.FnOnce c.args.verify c.signed_when_read.ensures.plain c.args.now c.args.token.now
    (sign1_view c.in-Ok.message) e c.in-Ok.ensures.read c.in_err-claims.ensures)

pub returns-then-has_expired : goal.returns-then-has_expired
returns-then-has_expired g c = (
  claims_view c.in_ok-claims.claims,
  (sign1_view c.in-Ok.message, c.in-Ok.ensures.read, c.in_ok-claims.ensures),
  sym c.has_fraction.ensures ∙ c.if-has_fraction.false,
  moved (λ n. has_expired n (claims_view c.in_ok-claims.claims).expiration_time) c.args.now c.ranges.now (sym c.has_expired.ensures ∙ c.if-has_expired.true),
)

pub returns-then-is_early : goal.returns-then-is_early
returns-then-is_early g c = (
  claims_view c.in_ok-claims.claims,
  (sign1_view c.in-Ok.message, c.in-Ok.ensures.read, c.in_ok-claims.ensures),
  sym c.has_fraction.ensures ∙ c.if-has_fraction.false,
  moved (λ n. has_expired n (claims_view c.in_ok-claims.claims).expiration_time) c.args.now c.ranges.now (sym c.has_expired.ensures ∙ c.if-has_expired.false),
  moved (λ n. is_early n (claims_view c.in_ok-claims.claims).not_before) c.args.now c.ranges.now (sym c.is_early.ensures ∙ c.if-is_early.true),
)

pub returns-then-has_fraction : goal.returns-then-has_fraction
returns-then-has_fraction g c = (
  claims_view c.in_ok-claims.claims,
  (sign1_view c.in-Ok.message, c.in-Ok.ensures.read, c.in_ok-claims.ensures),
  sym c.has_fraction.ensures ∙ c.if-has_fraction.true,
)

pub returns : goal.returns
returns g c = (
  (sign1_view c.in-Ok.message, c.in-Ok.ensures.read, c.in_ok-claims.ensures),
  sym c.has_fraction.ensures ∙ c.if-has_fraction.false,
  moved (λ n. has_expired n (claims_view c.in_ok-claims.claims).expiration_time) c.args.now c.ranges.now (sym c.has_expired.ensures ∙ c.if-has_expired.false),
  moved (λ n. is_early n (claims_view c.in_ok-claims.claims).not_before) c.args.now c.ranges.now (sym c.is_early.ensures ∙ c.if-is_early.false),
)
