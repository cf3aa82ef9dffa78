use Rattle.std.specs.Prelude.{string_bytes}
use Rattle.coset_label.proofs.Copies.{list_copied}
use Rattle.coset_claims.specs.Claims.{entry_view}
use Rattle.coset_claims.specs.Timestamp.{timestamp_view}
use Rattle.coset_claims.proofs.ClaimCopies.{numbers_copied, option_copied}
use Rattle.coset_claims.proofs.claims_set.ClaimsSetClone.clone.Goals as goal

pub returns : goal.returns
returns c =
    let claims = c.args.self.now in
    let issuer = option_copied string_bytes _ (λ x y same. same) claims.issuer c.in_ok-clone.field-0 c.in_ok-clone.ensures.cases in
    let subject = option_copied string_bytes _ (λ x y same. same) claims.subject c.in_ok-clone-2.field-0 c.in_ok-clone-2.ensures.cases in
    let audience = option_copied string_bytes _ (λ x y same. same) claims.audience c.in_ok-clone-3.field-0 c.in_ok-clone-3.ensures.cases in
    let expiration_time = option_copied timestamp_view _ (λ x y same. same) claims.expiration_time c.in_ok-clone-4.field-0 c.in_ok-clone-4.ensures.cases in
    let not_before = option_copied timestamp_view _ (λ x y same. same) claims.not_before c.in_ok-clone-5.field-0 c.in_ok-clone-5.ensures.cases in
    let issued_at = option_copied timestamp_view _ (λ x y same. same) claims.issued_at c.in_ok-clone-6.field-0 c.in_ok-clone-6.ensures.cases in
    let cwt_id = option_copied (λ b. b.items) _ (λ x y same.
    numbers_copied x.items y.items same.0) claims.cwt_id c.in_ok-clone-7.field-0 c.in_ok-clone-7.ensures.cases in
    let rest = list_copied entry_view _ (λ x y same. λ i. (same.0 (λ a b e. e) i, same.1 i)) _ _ c.in_ok-clone-8.ensures.cases.0 in
    record {
      cases = λ i. record {
        issuer = issuer i;
        subject = subject i;
        audience = audience i;
        expiration_time = expiration_time i;
        not_before = not_before i;
        issued_at = issued_at i;
        cwt_id = cwt_id i;
        rest = rest i;
      };
    }
