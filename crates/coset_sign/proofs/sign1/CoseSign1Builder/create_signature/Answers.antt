use Rattle.coset_sign.proofs.sign1.CoseSign1Builder.create_signature.Goals as goal

pub returns : goal.returns
returns g c = (
  c.in_ok-tbs.tbs.items,
  c.signer.result,
  rw c.self.view_is at c.in_ok-tbs.ensures,
  (c.deref.result, c.signer.ensures, c.deref.ensures.value),
  c.signature.ensures,
)
