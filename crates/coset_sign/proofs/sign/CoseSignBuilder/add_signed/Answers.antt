use Rattle.std.proofs.Common.{subst, ap, ◌∙◌, ◌++◌, ◌∷◌, []}
use Rattle.coset_codec.specs.Results.{Writes}
use Rattle.coset_core.specs.Views.{signature_view}
use Rattle.coset_sign.specs.Sign.{sign_view, push_signature, signed_with}
use Rattle.coset_sign.proofs.Calling.{signature_pushed}
use Rattle.coset_sign.proofs.sign.CoseSignBuilder.add_signed.Goals as goal

pub returns : goal.returns
returns g c = λ o written.
    let structure = subst (Writes o (λ b. b.items)) c.in_ok-structure.was written in
    let signed = signed_with c.signer.result.items (signature_view c.args.signature) in
    let pushed = c.push_reserved.ensures.items ∙ ap (λ xs. xs ++ c.signed_with-signed.result ∷ []) c.in_ok-reserve.ensures.items in (
      c.in_ok-structure.structure.items,
      c.signer.result,
      structure,
      (c.deref.result, c.signer.ensures, c.deref.ensures.value),
      signature_pushed c.self.inside.0 c.push_reserved.new.self c.signed_with-signed.result signed pushed c.signed_with-signed.ensures
          ∙ ap (λ m. push_signature signed (sign_view m)) c.self.view_is,
    )
