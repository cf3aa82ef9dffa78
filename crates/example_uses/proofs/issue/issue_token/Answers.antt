use Rattle.std.proofs.Common.{◌≡◌, ◌∙◌, ap, inl, inr, subst}
use Rattle.coset_iana.specs.Algorithm as algorithms
use Rattle.coset_label.specs.LabelData.{assigned}
use Rattle.coset_core.specs.Built.{with_algorithm}
use Rattle.coset_core.specs.Headers.{empty_header}
use Rattle.coset_core.specs.Views.{header_view}
use Rattle.coset_claims.specs.Claims.{claims, claims_view}
use Rattle.coset_codec.specs.Results.{Describes, IsRefused}
use Rattle.example_uses.specs.Refusals.{IsNotIssued}
use Rattle.example_uses.proofs.Issued.{claims-have, issued, none_issued}
use Rattle.example_uses.proofs.NamedAlgorithm.{is_algorithm}
use Rattle.example_uses.proofs.Refusing.{passed}
use Rattle.example_uses.proofs.Spellings.{only_memory}
use Rattle.example_uses.proofs.issue.issue_token.Goals as goal

pub returns-in_err-payload-clause-refused : goal.returns-in_err-payload-clause-refused
returns-in_err-payload-clause-refused g c =
    passed (IsNotIssued (g.K.SigningKey.refuses c.args.key.now) c.args.external_aad.now (assigned (algorithms.number c.args.algorithm))
    (claims_view c.args.claims)) _ _ c.from_residual.ensures.1
    (inl (only_memory _ (λ other. claims-have (claims_view c.args.claims) (c.in_err-payload.ensures other).1)))

pub returns-in_err-from_slice-clause-refused : goal.returns-in_err-from_slice-clause-refused
returns-in_err-from_slice-clause-refused g c =
    let e = c.in_err-from_slice.field-0.0 in
    let refused : IsRefused claims c.deref.result.now e = λ other. (c.in_err-from_slice.ensures.read other, c.in_err-from_slice.ensures.refused other) in
    passed (IsNotIssued (g.K.SigningKey.refuses c.args.key.now) c.args.external_aad.now (assigned (algorithms.number c.args.algorithm))
    (claims_view c.args.claims)) _ _ c.from_residual-in_err-from_slice.ensures.1
    (inr (
      c.in_ok-payload.payload.items,
      c.in_ok-payload.ensures,
      subst (λ b. IsRefused claims b e) c.deref.ensures.value refused,
    ))

pub returns-clause-issued : goal.returns-clause-issued
returns-clause-issued g c =
    issued (g.K.SigningKey.signs c.args.key.now) c.args.external_aad.now (claims_view c.args.claims) c.in_ok-payload.payload.items
    (claims_view c.in_ok-from_slice.field-0) c.in_ok-payload.ensures
    (subst (λ b. Describes claims b (claims_view c.in_ok-from_slice.field-0)) c.deref.ensures.value c.in_ok-from_slice.ensures.read)
    c.sign_token.result c.sign_token.ensures.sent

pub returns-clause-refused : goal.returns-clause-refused
returns-clause-refused g c =
    let number = algorithms.number c.args.algorithm in
    let named : header_view c.build-protected.result ≡ with_algorithm (assigned number) empty_header = ap header_view c.build-protected.ensures
    ∙ (c.algorithm.ensures ∙ ap (with_algorithm (assigned number)) c.new.ensures) in
    none_issued (g.K.SigningKey.refuses c.args.key.now) c.args.external_aad.now c.in_ok-payload.payload.items number (is_algorithm c.args.algorithm)
    (claims_view c.args.claims) c.in_ok-payload.ensures
    (header_view c.build-protected.result) named c.sign_token.result c.sign_token.ensures.refused
