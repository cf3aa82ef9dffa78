use Rattle.cwt_verify.specs.Verify.{token_view}
use Rattle.example_tokens.proofs.Proving.{confirmed_key}
use Rattle.example_tokens.proofs.possession.proof_key.Goals as goal

pub returns-in-Some : goal.returns-in-Some
returns-in-Some g c = (
  c.in-Some.key,
  confirmed_key (token_view c.args.token.now) c.in-Ok.confirmed c.in-Some.key c.in-Ok.ensures c.in-Some.ensures,
  c.for_proofs.ensures,
)
