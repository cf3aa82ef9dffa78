use Rattle.coset_msg.specs.Encrypt0.{encrypt0_view, encrypt0_structure}
use Rattle.coset_msg.proofs.encrypt0.CoseEncrypt0.decrypt_detached.Goals as goal

pub returns : goal.returns
returns g c = c.call_with.ensures (encrypt0_structure (encrypt0_view c.args.self.now) c.args.external_aad.now) c.aad-structure.ensures
