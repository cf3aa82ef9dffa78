use Rattle.coset_msg.specs.Mac0.{mac0_view, mac0_structure}
use Rattle.coset_msg.proofs.mac0.CoseMac0.verify_detached_tag.Goals as goal

pub returns : goal.returns
returns g c = rw c.deref.ensures.value at (c.call_with.ensures
    (mac0_structure (mac0_view c.args.self.now) c.args.external_aad.now c.args.payload.now) c.tbm_detached-structure.ensures)
