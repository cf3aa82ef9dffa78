use Rattle.coset.specs.Mac0.{mac0, mac0_structure, mac0_view}
use Rattle.coset.specs.PerhapsTagged.{perhaps_tagged}
use Rattle.tool_explain.proofs.Covered.{over_written}
use Rattle.tool_explain.proofs.structures.of_mac0.Goals as goal

pub returns : goal.returns
returns c =
    over_written (perhaps_tagged 17 mac0) (λ m. mac0_structure m c.args.external_aad.now) (λ m. m.payload) (λ b. b.items) c.args.bytes.now
    (mac0_view c.in_ok-message.message)
    c.tbm.result
    c.in_ok-message.ensures.read c.tbm.ensures
