use Rattle.coset_core.specs.Calls.{CallsWith}
use Rattle.coset_msg.specs.Mac0.{mac0_view, mac0_structure}
use Rattle.coset_msg.proofs.Present.{if_there}
use Rattle.coset_msg.proofs.mac0.CoseMac0.verify_tag.Goals as goal

pub returns : goal.returns
returns g c =
    let m = mac0_view c.args.self.now in
    if_there (λ p. CallsWith g.F.FnOnce c.args.verifier m.tag (mac0_structure m c.args.external_aad.now p) c.call_with.result) c.attached.ensures
    (rw c.deref.ensures.value at (c.call_with.ensures (mac0_structure m c.args.external_aad.now c.attached.result.now) c.tbm_detached-structure.ensures))
