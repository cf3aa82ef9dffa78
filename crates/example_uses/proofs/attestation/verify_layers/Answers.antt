use mir.Syntax.{w64}
use mir.Val.{of_z, to_z}
use Rattle.std.proofs.lemmas.Int.{to_z-of_z}
use Rattle.std.proofs.Common.{ap, subst}
use Rattle.cwt_verify.specs.Policy.{PolicyView}
use Rattle.cwt_verify.specs.Verify.{VerifiesToken}
use Rattle.example_uses.specs.Attestation.{attestation_policy}
use Rattle.example_uses.proofs.attestation.verify_layers.Goals as goal

-- The policy q with the fields of p that this policy sets.
abbrev changed : PolicyView → PolicyView → PolicyView
changed p q = record q { algorithms = p.algorithms; require_exp = p.require_exp; leeway = p.leeway }

pub returns : goal.returns
returns g c =
    let k = g.K.Keys.view c.args.keys.now in
    let p = attestation_policy in
    subst (λ n. VerifiesToken k p n c.args.token.now c.verify_token.result) (to_z-of_z w64 c.args.now c.ranges.now)
    (subst (λ q. VerifiesToken k q (to_z w64 (of_z w64 c.args.now)) c.args.token.now c.verify_token.result) (ap (changed p) c.strict.ensures)
    c.verify_token.ensures)
