use Rattle.coset_sign.specs.Sign1.{sign1_view, sign1_structure}
use Rattle.coset_sign.proofs.sign1.CoseSign1.verify_detached_signature.Goals as goal

pub returns : goal.returns
returns g c = rw c.deref.ensures.value at (c.call_with.ensures
    (sign1_structure (sign1_view c.args.self.now) c.args.external_aad.now c.args.payload.now) c.tbs_detached_data-structure.ensures)
