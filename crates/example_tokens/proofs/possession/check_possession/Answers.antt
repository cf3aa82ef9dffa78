use Rattle.std.proofs.Common.{◌∙◌, sym}
use Rattle.cwt_verify.specs.Verify.{token_view}
use Rattle.example_tokens.proofs.Proving.{of_long}
use Rattle.example_tokens.proofs.possession.check_possession.Goals as goal

pub returns : goal.returns
returns g c =
    of_long (g.C.Ciphers.view c.args.ciphers.now) (token_view c.args.token.now) c.args.challenge.now c.args.proof.now c.verify_confirmed.result
    (sym c.is_short.ensures ∙ c.if-is_short.false) c.verify_confirmed.ensures
