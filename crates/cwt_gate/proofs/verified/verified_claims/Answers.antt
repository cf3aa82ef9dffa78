use Rattle.std.proofs.Common.{ap, option_map, subst}
use Rattle.coset.specs.Claims.{claims, claims_view}
use Rattle.coset.specs.Results.{Describes}
use Rattle.coset.specs.Sign1.{sign1_view}
use Rattle.cwt_gate.specs.Gate.{RefusesBytes}
use Rattle.cwt_gate.proofs.Judging.{not_verified, says_yes}
use Rattle.cwt_gate.proofs.verified.verified_claims.Goals as goal

pub returns-in_default : goal.returns-in_default
returns-in_default g c = ap (option_map (λ b. b.items)) c.in_default.is

pub returns-in_err-verify_signature : goal.returns-in_err-verify_signature
returns-in_err-verify_signature g c =
    not_verified g.F.FnOnce c.args.verify (sign1_view c.args.message.now) c.in-Some.payload.items c.in_err-verify_signature.field-0.0 c.from_residual.result
    c.from_residual.ensures.1
    (ap (option_map (λ b. b.items)) c.in-Some.is) c.in_err-verify_signature.ensures

pub returns-in-Ok : goal.returns-in-Ok
returns-in-Ok g c =
    let payload = c.in-Some.payload.items in
    let yes = says_yes g.F.FnOnce c.args.verify (sign1_view c.args.message.now) payload
    (ap (option_map (λ b. b.items)) c.in-Some.is) c.in_ok-verify_signature.ensures in
    (payload, yes, subst (λ p. Describes claims p (claims_view c.in-Ok.claims)) c.deref.ensures.value c.in-Ok.ensures.read)

pub returns-in-Err : goal.returns-in-Err
returns-in-Err g c =
    let payload = c.in-Some.payload.items in
    let yes = says_yes g.F.FnOnce c.args.verify (sign1_view c.args.message.now) payload
    (ap (option_map (λ b. b.items)) c.in-Some.is) c.in_ok-verify_signature.ensures in
    let refused : RefusesBytes claims c.deref.result.now c.in-Err.error =
    ((λ n. (c.in-Err.ensures.read n, c.in-Err.ensures.refused n)), c.in-Err.ensures.memory) in
    (payload, yes, subst (λ p. RefusesBytes claims p c.in-Err.error) c.deref.ensures.value refused)
