use Rattle.std.proofs.Common.{◌≡◌, sym, ap, ◌∙◌}
use Rattle.coset_sign.specs.Sign1.{sign1_view, sign1_attached, with_signature}
use Rattle.coset_core.proofs.Calling.{passed_on}
use Rattle.coset_sign.proofs.sign1.CoseSign1Builder.try_create_signature.Goals as goal

pub returns-in_err-signature : goal.returns-in_err-signature
returns-in_err-signature g c =
    let structure = sign1_attached (sign1_view c.args.self) c.args.external_aad.now in
    passed_on g.F.FnOnce c.args.signer structure (λ made given. made ≡ given)
    (λ s b. sign1_view b ≡ with_signature s.items (sign1_view c.args.self)) c.in_err-signature.field-0.0 c.from_residual.result c.from_residual.ensures.1
    (c.in_err-signature.ensures structure (rw c.self.view_is at c.tbs_data.ensures))

pub returns : goal.returns
returns g c =
    let made = c.in_ok-signature.ensures (sign1_attached (sign1_view c.args.self) c.args.external_aad.now) (rw c.self.view_is at c.tbs_data.ensures) in
    (made.0, made.1, made.2, made.3, c.signature.ensures ∙ ap (λ s. with_signature s.items (sign1_view c.args.self)) (sym made.4))
