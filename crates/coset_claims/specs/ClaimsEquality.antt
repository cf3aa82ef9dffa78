-- The views of two claims sets are equal exactly if their claims are.
use Rattle.std.specs.Prelude.{◌≡◌, ◌&&◌, Bool, Decides}
use Rattle.std.proofs.Common.{ap}
use Rattle.std.proofs.lemmas.Bool.Decides.{Decides-like, Decides-and}
use Rattle.coset_value.specs.Item.{Item}
use Rattle.coset_value.specs.Same.{item_eq}
use Rattle.coset_value.specs.SameLaws.{item_eq-decides}
use Rattle.coset_label.specs.NameOrder.{registered_cmp-apart}
use Rattle.coset_label.specs.LabelData.{RegisteredLabelView}
use Rattle.coset_label.specs.Same.{IsEquality}
use Rattle.coset_claims.specs.Claims.{ClaimsView, same_label}

-- The names are the same, and the items are.
abbrev claim_eq : RegisteredLabelView × Item → RegisteredLabelView × Item → Bool
claim_eq e f = same_label e.0 f.0 && item_eq e.1 f.1

pub claim_eq-decides : IsEquality claim_eq
claim_eq-decides e f =
    Decides-like (claim_eq e f) (λ p i. (p.0 i, p.1 i)) (λ p. (ap (λ x. x.0) p, ap (λ x. x.1) p))
    (Decides-and (same_label e.0 f.0) (item_eq e.1 f.1) (registered_cmp-apart e.0 f.0) (item_eq-decides e.1 f.1))

pub claims_decides : {p q r s t u v w : Bool} {m n : ClaimsView} → Decides p (m.issuer ≡ n.issuer) → Decides q (m.subject ≡ n.subject)
    → Decides r (m.audience ≡ n.audience) → Decides s (m.expiration_time ≡ n.expiration_time) → Decides t (m.not_before ≡ n.not_before)
    → Decides u (m.issued_at ≡ n.issued_at) → Decides v (m.cwt_id ≡ n.cwt_id) → Decides w (m.rest ≡ n.rest)
    → Decides (p && (q && (r && (s && (t && (u && (v && w))))))) (m ≡ n)
claims_decides p q r s t u v w =
    Decides-like _
    (λ e i. record {
      issuer = e.0 i;
      subject = e.1.0 i;
      audience = e.1.1.0 i;
      expiration_time = e.1.1.1.0 i;
      not_before = e.1.1.1.1.0 i;
      issued_at = e.1.1.1.1.1.0 i;
      cwt_id = e.1.1.1.1.1.1.0 i;
      rest = e.1.1.1.1.1.1.1 i;
    })
    (λ e. (
      ap (λ x. x.issuer) e,
      (
        ap (λ x. x.subject) e,
        (
          ap (λ x. x.audience) e,
          (
            ap (λ x. x.expiration_time) e,
            (ap (λ x. x.not_before) e, (ap (λ x. x.issued_at) e, (ap (λ x. x.cwt_id) e, ap (λ x. x.rest) e))),
          ),
        ),
      ),
    ))
    (Decides-and _ _ p (Decides-and _ _ q (Decides-and _ _ r (Decides-and _ _ s (Decides-and _ _ t (Decides-and _ _ u (Decides-and _ _ v w)))))))
