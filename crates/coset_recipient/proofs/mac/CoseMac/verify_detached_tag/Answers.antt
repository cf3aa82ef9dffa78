use Rattle.coset_recipient.specs.Mac.{mac_view, mac_structure_of}
use Rattle.coset_recipient.proofs.mac.CoseMac.verify_detached_tag.Goals as goal

pub returns : goal.returns
returns g c = rw c.deref.ensures.value at (c.call_with.ensures
    (mac_structure_of (mac_view c.args.self.now) c.args.external_aad.now c.args.payload.now) c.tbm_detached-structure.ensures)
