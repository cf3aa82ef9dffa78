use Rattle.coset.specs.Mac.{mac, mac_structure_of, mac_view}
use Rattle.coset.specs.PerhapsTagged.{perhaps_tagged}
use Rattle.tool_explain.proofs.Covered.{over_written}
use Rattle.tool_explain.proofs.structures.of_mac.Goals as goal

pub returns : goal.returns
returns c =
    over_written (perhaps_tagged 97 mac) (λ m. mac_structure_of m c.args.external_aad.now) (λ m. m.payload) (λ b. b.items) c.args.bytes.now
    (mac_view c.in_ok-message.message)
    c.tbm.result
    c.in_ok-message.ensures.read c.tbm.ensures
