use Rattle.coset_msg.specs.Encrypt0.{encrypt0_view, encrypt0_structure}
use Rattle.coset_msg.proofs.encrypt0.CoseEncrypt0Builder.try_create_detached_ciphertext.Goals as goal

pub returns : goal.returns
returns g c = c.call_with.ensures (encrypt0_structure (encrypt0_view c.args.self.now) c.args.external_aad.now) (rw c.self.view_is at c.aad-structure.ensures)
