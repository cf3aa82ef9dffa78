use Rattle.std.proofs.Common.{◌∙◌, inl, sym}
use Rattle.coset.specs.Keys.{key_view}
use Rattle.coset.specs.Sign1.{sign1_view}
use Rattle.example_tokens.proofs.Proving.{read_from}
use Rattle.example_tokens.proofs.possession.verify_proof.Goals as goal

pub returns-in-Err : goal.returns-in-Err
returns-in-Err g c = inl (λ other. (c.in-Err.ensures.read other, c.in-Err.ensures.refused other))

pub returns-then-is_critical : goal.returns-then-is_critical
returns-then-is_critical g c = (sign1_view c.in-Ok.message, c.in-Ok.ensures.read, sym c.is_critical.ensures ∙ c.if-is_critical.true)

pub returns : goal.returns
returns g c =
    read_from (g.C.Ciphers.view c.args.ciphers.now) (key_view c.args.key.now) c.args.challenge.now c.args.proof.now (sign1_view c.in-Ok.message)
    c.verify_message.result c.in-Ok.ensures.read (sym c.is_critical.ensures ∙ c.if-is_critical.false) c.verify_message.ensures
