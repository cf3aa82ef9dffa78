use Rattle.std.proofs.Common.{subst, sym, ap}
use Rattle.coset_codec.specs.ShapeLaws.{some-one}
use Rattle.coset_core.specs.ViewLaws.{signature-opened}
use Rattle.coset_core.specs.Views.{signature_view}
use Rattle.coset_core.specs.Calls.{CallsWith}
use Rattle.coset_sign.specs.Sign.{sign_view, signer_attached}
use Rattle.coset_sign.proofs.sign.CoseSign.verify_signature.Goals as goal

pub returns : goal.returns
returns g c = λ s there.
    let m = sign_view c.args.self.now in
    let signature = c.signature-signature.result.now in
    let structure = signer_attached m (signature_view signature) c.args.external_aad.now in
    let asked = rw c.deref.ensures.value at (c.call_with.ensures structure c.tbs_data-structure.ensures) in
    subst (λ x. CallsWith g.F.FnOnce c.args.verifier x.signature (signer_attached m x c.args.external_aad.now) c.call_with.result)
    (some-one c.signature-signature.ensures there)
    (subst (λ b. CallsWith g.F.FnOnce c.args.verifier b structure c.call_with.result) (sym (ap (λ x. x.signature) (signature-opened signature))) asked)
