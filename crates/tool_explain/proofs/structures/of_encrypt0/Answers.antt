use Rattle.coset.specs.Encrypt0.{encrypt0, encrypt0_structure, encrypt0_view}
use Rattle.coset.specs.PerhapsTagged.{perhaps_tagged}
use Rattle.tool_explain.proofs.Covered.{over_any}
use Rattle.tool_explain.proofs.structures.of_encrypt0.Goals as goal

pub returns : goal.returns
returns c =
    over_any (perhaps_tagged 16 encrypt0) (λ m. encrypt0_structure m c.args.external_aad.now) (λ b. b.items) c.args.bytes.now
    (encrypt0_view c.in_ok-message.message)
    c.aad.result c.in_ok-message.ensures.read c.aad.ensures
