use Rattle.coset_core.specs.Calls.{CallsWith}
use Rattle.coset_recipient.specs.Mac.{mac_view, mac_structure_of}
use Rattle.coset_msg.proofs.Present.{if_there}
use Rattle.coset_recipient.proofs.mac.CoseMac.verify_tag.Goals as goal

pub returns : goal.returns
returns g c =
    let m = mac_view c.args.self.now in
    if_there (λ p. CallsWith g.F.FnOnce c.args.verifier m.tag (mac_structure_of m c.args.external_aad.now p) c.call_with.result) c.attached.ensures
    (rw c.deref.ensures.value at (c.call_with.ensures (mac_structure_of m c.args.external_aad.now c.attached.result.now) c.tbm_detached-structure.ensures))
