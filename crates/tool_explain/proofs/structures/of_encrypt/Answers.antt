use Rattle.coset.specs.Encrypt.{encrypt, encrypt_structure_of, encrypt_view}
use Rattle.coset.specs.PerhapsTagged.{perhaps_tagged}
use Rattle.tool_explain.proofs.Covered.{over_any}
use Rattle.tool_explain.proofs.structures.of_encrypt.Goals as goal

pub returns : goal.returns
returns c =
    over_any (perhaps_tagged 96 encrypt) (λ m. encrypt_structure_of m c.args.external_aad.now) (λ b. b.items) c.args.bytes.now
    (encrypt_view c.in_ok-message.message)
    c.aad.result c.in_ok-message.ensures.read c.aad.ensures
