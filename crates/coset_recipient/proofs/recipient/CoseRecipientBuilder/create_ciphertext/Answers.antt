use Rattle.std.proofs.Common.{refl}
use Rattle.coset_recipient.proofs.recipient.CoseRecipientBuilder.create_ciphertext.Goals as goal

pub returns : goal.returns
returns g c = (
  c.in_ok-structure.structure.items,
  c.cipher.result,
  rw c.self.view_is at c.in_ok-structure.ensures,
  (c.args.plaintext, c.deref.result, c.cipher.ensures, refl, c.deref.ensures.value),
  c.ciphertext.ensures,
)
