use Rattle.coset_label.proofs.Copies.{list_copied}
use Rattle.coset_claims.proofs.ClaimCopies.{numbers_copied}
use Rattle.coset_claims.proofs.context.CoseKdfContextClone.clone.Goals as goal

pub returns : goal.returns
returns c =
    let algorithm_id = c.in_ok-clone.ensures.cases (λ a b e. e) in
    let supp_priv_info = list_copied (λ b. b.items) _ (λ x y same. numbers_copied x.items y.items same.0) _ _ c.in_ok-clone-5.ensures.cases.0 in
    record {
      cases = λ i. record {
        algorithm_id = algorithm_id i;
        party_u_info = c.in_ok-clone-2.ensures.cases i;
        party_v_info = c.in_ok-clone-3.ensures.cases i;
        supp_pub_info = c.in_ok-clone-4.ensures.cases i;
        supp_priv_info = supp_priv_info i;
      };
    }
