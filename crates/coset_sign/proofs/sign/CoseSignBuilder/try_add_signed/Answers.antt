use Rattle.std.proofs.Common.{◌≡◌, sym, ap, subst, Ok, ◌∙◌, ◌++◌, ◌∷◌, []}
use Rattle.coset_codec.specs.Results.{Writes}
use Rattle.coset_core.specs.Views.{signature_view}
use Rattle.coset_sign.specs.Sign.{sign_view, push_signature, signed_with}
use Rattle.coset_core.proofs.Calling.{passed_on}
use Rattle.coset_sign.proofs.Calling.{signature_pushed}
use Rattle.coset_sign.proofs.sign.CoseSignBuilder.try_add_signed.Goals as goal

pub returns-in_err-create_with : goal.returns-in_err-create_with
returns-in_err-create_with g c = λ o written.
    let made : Writes o (λ b. b.items) (Ok c.in-Ok.structure) = subst (Writes o (λ b. b.items)) c.in-Ok.is written in
    passed_on g.F.FnOnce c.args.signer o (λ made given. made ≡ given)
    (λ s b. sign_view b ≡ push_signature (signed_with s.items (signature_view c.args.signature))
    (sign_view c.args.self)) c.in_err-create_with.field-0.0 c.from_residual.result
    c.from_residual.ensures.1 (c.in_err-create_with.ensures o made)

pub returns : goal.returns
returns g c = λ o written.
    let fine : Writes o (λ b. b.items) (Ok c.in-Ok.structure) = subst (Writes o (λ b. b.items)) c.in-Ok.is written in
    let made = c.in_ok-create_with.ensures o fine in
    let signed = signed_with c.in_ok-create_with.field-0.items (signature_view c.args.signature) in
    let pushed = c.push_reserved.ensures.items ∙ ap (λ xs. xs ++ c.signed_with-signed.result ∷ []) c.reserve.ensures.items in (
      made.0,
      made.1,
      made.2,
      made.3,
      signature_pushed c.self.inside.0 c.push_reserved.new.self c.signed_with-signed.result signed pushed c.signed_with-signed.ensures
          ∙ ap (λ m. push_signature signed (sign_view m)) c.self.view_is
          ∙ ap (λ s. push_signature (signed_with s.items (signature_view c.args.signature)) (sign_view c.args.self)) (sym made.4),
    )
