use Rattle.coset_recipient.specs.Encrypt.{encrypt_view, encrypt_structure_of}
use Rattle.coset_recipient.proofs.encrypt.CoseEncrypt.decrypt_detached.Goals as goal

pub returns : goal.returns
returns g c = c.call_with.ensures (encrypt_structure_of (encrypt_view c.args.self.now) c.args.external_aad.now) c.aad-structure.ensures
