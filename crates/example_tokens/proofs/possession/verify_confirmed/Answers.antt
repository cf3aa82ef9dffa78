use Rattle.coset.specs.Keys.{key_view}
use Rattle.cwt_verify.specs.Verify.{token_view}
use Rattle.example_tokens.specs.Possession.{VerifiesConfirmed}
use Rattle.example_tokens.proofs.Proving.{by_confirmed, passed_as, unconfirmed}
use Rattle.example_tokens.proofs.possession.verify_confirmed.Goals as goal

pub returns-in_err-key : goal.returns-in_err-key
returns-in_err-key g c =
    let v = g.C.Ciphers.view c.args.ciphers.now in
    let t = token_view c.args.token.now in
    passed_as (VerifiesConfirmed v t c.args.challenge.now c.args.proof.now) _ _ c.from_residual.ensures.1
    (unconfirmed v t c.args.challenge.now c.args.proof.now _ c.in_err-key.ensures)

pub returns : goal.returns
returns g c =
    by_confirmed (g.C.Ciphers.view c.args.ciphers.now) (token_view c.args.token.now) (key_view c.in_ok-key.key) c.args.challenge.now c.args.proof.now
    c.verify_proof.result c.in_ok-key.ensures c.verify_proof.ensures
