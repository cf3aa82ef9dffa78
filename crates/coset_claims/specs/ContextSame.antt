-- `==` of contexts and of their parts is equality of their views.
use Rattle.std.specs.Prelude.{◌≡◌, Bool, Decides, false, ◌&&◌, ◌==◌}
use Rattle.std.specs.Ordering.{int_eq, on}
use Rattle.std.specs.Option.{option_eq}
use Rattle.std.specs.Cmp.{IsEquivalence, decided, signed_Decides, unsigned_Decides}
use Rattle.std.specs.Cmp.Lexicographic.{pointwise, bytes_decides}
use Rattle.std.proofs.Common.{ap, sym, true≢false}
use Rattle.std.proofs.lemmas.Bool.Decides.{Decides-like, Decides-and}
use Rattle.coset_codec.specs.EqDecides.{EqDecides, bstr_decides, options_decides}
use Rattle.coset_label.specs.Same.{IsEquality}
use Rattle.coset_core.specs.Same.{protected_eq}
use Rattle.coset_core.specs.EqDecides.{protected_decides}
use Rattle.coset_core.specs.Views.{protected_view}
use Rattle.coset_claims.specs.Party.{NonceView, nonce_integer, nonce_bytes, nonce_view, party_view}
use Rattle.coset_claims.specs.SuppPub.{supp_pub_view}
use Rattle.coset_claims.specs.Context.{ContextView}
use Rattle.coset_claims.specs.declared.party.PartyInfo.{PartyInfo}
use Rattle.coset_claims.specs.declared.supp_pub.SuppPubInfo.{SuppPubInfo}

-- The integers are the same, or the bytes are.
abbrev pub nonce_eq : NonceView → NonceView → Bool
nonce_eq (nonce_integer i) (nonce_integer j) = int_eq i j
nonce_eq (nonce_bytes a) (nonce_bytes b) = pointwise ◌==◌ a b
nonce_eq (nonce_integer i) (nonce_bytes b) = false
nonce_eq (nonce_bytes a) (nonce_integer j) = false

pub nonce_eq-decides : IsEquality nonce_eq
nonce_eq-decides (nonce_integer i) (nonce_integer j) =
    Decides-like (int_eq i j) (ap nonce_integer) (λ e. cc) (signed_Decides i j)
nonce_eq-decides (nonce_bytes a) (nonce_bytes b) =
    Decides-like (pointwise ◌==◌ a b) (ap nonce_bytes) (λ e. cc) (bytes_decides a b)
nonce_eq-decides (nonce_integer i) (nonce_bytes b) = (λ e. absurd (true≢false (sym e)), λ e. absurd (cc))
nonce_eq-decides (nonce_bytes a) (nonce_integer j) = (λ e. absurd (true≢false (sym e)), λ e. absurd (cc))

-- Each of the three elements is the same.
abbrev party_eq : PartyInfo → PartyInfo → Bool
party_eq p q =
    option_eq (λ x y. pointwise ◌==◌ x.items y.items) p.identity q.identity
    && (option_eq (on nonce_view nonce_eq) p.nonce q.nonce && option_eq (λ x y. pointwise ◌==◌ x.items y.items) p.other q.other)

-- `==` is equality of the views.
pub party_decides : EqDecides party_view party_eq
party_decides p q =
    Decides-like (party_eq p q)
    (λ e i. record { identity = e.0 i; nonce = e.1.0 i; other = e.1.1 i })
    (λ e. (ap (λ x. x.identity) e, (ap (λ x. x.nonce) e, ap (λ x. x.other) e)))
    (Decides-and _ _ (bstr_decides p.identity q.identity)
    (Decides-and _ _ (options_decides nonce_view _ (λ x y. nonce_eq-decides (nonce_view x) (nonce_view y)) p.nonce q.nonce) (bstr_decides p.other q.other)))

-- The lengths are the same, the protected headers have the same header and kept bytes, and the other bytes are the same
-- or both missing.
abbrev supp_pub_eq : SuppPubInfo → SuppPubInfo → Bool
supp_pub_eq s t =
    (s.key_data_length == t.key_data_length)
    && (on protected_view protected_eq s.protected t.protected && option_eq (λ x y. pointwise ◌==◌ x.items y.items) s.other t.other)

pub supp_pub_decides : EqDecides supp_pub_view supp_pub_eq
supp_pub_decides s t =
    Decides-like (supp_pub_eq s t)
    (λ e i. record { key_data_length = e.0 i; protected = e.1.0 i; other = e.1.1 i })
    (λ e. (ap (λ x. x.key_data_length) e, (ap (λ x. x.protected) e, ap (λ x. x.other) e)))
    (Decides-and _ _ (unsigned_Decides s.key_data_length t.key_data_length)
    (Decides-and _ _ (protected_decides s.protected t.protected) (bstr_decides s.other t.other)))

-- The views of two contexts are equal exactly if their parts are.
pub context_decides : {p q r s t : Bool} {m n : ContextView} → Decides p (m.algorithm_id ≡ n.algorithm_id) → Decides q (m.party_u_info ≡ n.party_u_info)
    → Decides r (m.party_v_info ≡ n.party_v_info) → Decides s (m.supp_pub_info ≡ n.supp_pub_info) → Decides t (m.supp_priv_info ≡ n.supp_priv_info)
    → Decides (p && (q && (r && (s && t)))) (m ≡ n)
context_decides p q r s t =
    Decides-like _
    (λ e i. record { algorithm_id = e.0 i; party_u_info = e.1.0 i; party_v_info = e.1.1.0 i; supp_pub_info = e.1.1.1.0 i; supp_priv_info = e.1.1.1.1 i })
    (λ e. (ap (λ x. x.algorithm_id) e, (ap (λ x. x.party_u_info) e, (ap (λ x. x.party_v_info) e, (ap (λ x. x.supp_pub_info) e, ap (λ x. x.supp_priv_info) e)))))
    (Decides-and _ _ p (Decides-and _ _ q (Decides-and _ _ r (Decides-and _ _ s t))))

-- So equality of nonces is reflexive, symmetric and transitive.
pub nonce_eq_equiv : IsEquivalence nonce_eq
nonce_eq_equiv = decided nonce_eq nonce_eq-decides
