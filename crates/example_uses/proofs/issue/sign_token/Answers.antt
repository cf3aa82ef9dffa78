use Rattle.std.proofs.Common.{◌≡◌, ◌∙◌, Some, None, ap, inl, inr, of_calls, refl, rules, subst}
use Rattle.coset_codec.specs.Results.{Describes, IsRefused}
use Rattle.coset_codec.specs.ReadAgain.{IsWritten}
use Rattle.coset_core.specs.Messages.{unread}
use Rattle.coset_core.specs.Views.{header_view}
use Rattle.coset_core.specs.Calls.{IsStructure}
use Rattle.coset_sign.specs.Sign1.{Sign1View, sign1, sign1_attached, sign1_view, with_signature}
use Rattle.example_uses.specs.Refusals.{IsNotSent, unsigned}
use Rattle.example_uses.proofs.Asked.{made, not_signed}
use Rattle.example_uses.proofs.Issued.{unsigned_unwritten}
use Rattle.example_uses.proofs.Refusing.{passed}
use Rattle.example_uses.proofs.issue.sign_token.Goals as goal

pub returns-in_err-signed-clause-refused : goal.returns-in_err-signed-clause-refused
returns-in_err-signed-clause-refused g c =
    let h = header_view c.args.protected in
    let payload = c.args.payload.items in
    let is : sign1_view c.payload-unsigned.result ≡ unsigned h payload =
    c.payload-unsigned.ensures ∙ ap (λ (m : Sign1View). record m { payload = Some payload })
    (c.protected.ensures ∙ ap (λ (m : Sign1View). record m { protected = unread h }) c.new.ensures) in
    passed (IsNotSent (g.K.SigningKey.refuses c.args.key.now) c.args.external_aad.now h payload) _ _ c.from_residual.ensures.1
    (not_signed (g.K.SigningKey.signs c.args.key.now) (g.K.SigningKey.refuses c.args.key.now) c.args.external_aad.now h payload
    (sign1_view c.payload-unsigned.result) is _ c.in_err-signed.ensures
    (λ p r h. record { signed = search (rules, of_calls); refused = search (rules, of_calls) }))

pub returns-in_err-token-clause-refused : goal.returns-in_err-token-clause-refused
returns-in_err-token-clause-refused g c =
    let h = header_view c.args.protected in
    let payload = c.args.payload.items in
    let is : sign1_view c.payload-unsigned.result ≡ unsigned h payload =
    c.payload-unsigned.ensures ∙ ap (λ (m : Sign1View). record m { payload = Some payload })
    (c.protected.ensures ∙ ap (λ (m : Sign1View). record m { protected = unread h }) c.new.ensures) in
    let s = c.in_ok-signed.ensures.1.items in
    let built : sign1_view c.build.result ≡ with_signature s (unsigned h payload) = ap sign1_view c.build.ensures
    ∙ (c.in_ok-signed.ensures.4 ∙ ap (with_signature s) is) in
    passed (IsNotSent (g.K.SigningKey.refuses c.args.key.now) c.args.external_aad.now h payload) _ _ c.from_residual-in_err-token.ensures.1
    (inl (λ other. (
      (c.in_err-token.ensures other).0,
      unsigned_unwritten h payload s c.args.external_aad.now
          (subst (λ m. sign1.image m ≡ None) built (c.in_err-token.ensures other).1),
    )))

pub returns-in_err-from_slice-clause-refused : goal.returns-in_err-from_slice-clause-refused
returns-in_err-from_slice-clause-refused g c =
    let h = header_view c.args.protected in
    let payload = c.args.payload.items in
    let is : sign1_view c.payload-unsigned.result ≡ unsigned h payload =
    c.payload-unsigned.ensures ∙ ap (λ (m : Sign1View). record m { payload = Some payload })
    (c.protected.ensures ∙ ap (λ (m : Sign1View). record m { protected = unread h }) c.new.ensures) in
    let s = c.in_ok-signed.ensures.1.items in
    let built : sign1_view c.build.result ≡ with_signature s (unsigned h payload) = ap sign1_view c.build.ensures
    ∙ (c.in_ok-signed.ensures.4 ∙ ap (with_signature s) is) in
    let e = c.in_err-from_slice.field-0.0 in
    let refused : IsRefused sign1 c.deref.result.now e = λ other. (c.in_err-from_slice.ensures.read other, c.in_err-from_slice.ensures.refused other) in
    passed (IsNotSent (g.K.SigningKey.refuses c.args.key.now) c.args.external_aad.now h payload) _ _ c.from_residual-in_err-from_slice.ensures.1
    (inr (
      s,
      c.in_ok-token.token.items,
      subst (λ m. IsWritten sign1 m c.in_ok-token.token.items) built c.in_ok-token.ensures,
      subst (λ b. IsRefused sign1 b e) c.deref.ensures.value refused,
    ))

pub returns-clause-sent : goal.returns-clause-sent
returns-clause-sent g c =
    let h = header_view c.args.protected in
    let payload = c.args.payload.items in
    let is : sign1_view c.payload-unsigned.result ≡ unsigned h payload =
    c.payload-unsigned.ensures ∙ ap (λ (m : Sign1View). record m { payload = Some payload })
    (c.protected.ensures ∙ ap (λ (m : Sign1View). record m { protected = unread h }) c.new.ensures) in
    let signature = made (g.K.SigningKey.signs c.args.key.now) (g.K.SigningKey.refuses c.args.key.now) _ _ c.in_ok-signed.ensures
    (λ p r h. record { signed = search (rules, of_calls); refused = search (rules, of_calls) }) in
    let s = signature.0.items in
    let built : sign1_view c.build.result ≡ with_signature s (unsigned h payload) = ap sign1_view c.build.ensures ∙ (signature.1 ∙ ap (with_signature s) is) in
    record {
      message = with_signature s (unsigned h payload);
      written = subst (λ m. IsWritten sign1 m c.in_ok-token.token.items) built c.in_ok-token.ensures;
      read = (
        sign1_view c.in_ok-from_slice.field-0,
        subst
            (λ b. Describes sign1 b (sign1_view c.in_ok-from_slice.field-0)) c.deref.ensures.value c.in_ok-from_slice.ensures.read,
      );
      carried = refl;
      signed = (signature.2.0, subst (λ m. IsStructure (sign1_attached m c.args.external_aad.now) signature.2.0) is signature.2.1, signature.2.2);
    }
