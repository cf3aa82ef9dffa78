use Rattle.coset_core.specs.Views.{signature_view}
use Rattle.coset_sign.specs.Sign.{sign_view, signer_attached}
use Rattle.coset_sign.proofs.sign.CoseSignBuilder.try_add_created_signature.Goals as goal

pub returns : goal.returns
returns g c = c.try_add_signed.ensures (signer_attached (sign_view c.args.self) (signature_view c.args.signature) c.args.external_aad.now)
    (rw c.self.view_is at c.tbs_data-structure.ensures)
