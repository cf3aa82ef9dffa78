-- The views of two messages are equal exactly when their parts are.
use Rattle.std.specs.Prelude.{◌≡◌, ◌&&◌, Bool, Decides}
use Rattle.std.proofs.Common.{ap}
use Rattle.std.proofs.lemmas.Bool.Decides.{Decides-like, Decides-and}
use Rattle.coset_sign.specs.Sign1.{Sign1View}
use Rattle.coset_sign.specs.Sign.{SignView}

pub sign1_decides : {p q r s : Bool} {m n : Sign1View} → Decides p (m.protected ≡ n.protected) → Decides q (m.unprotected ≡ n.unprotected)
    → Decides r (m.payload ≡ n.payload) → Decides s (m.signature ≡ n.signature) → Decides (p && (q && (r && s))) (m ≡ n)
sign1_decides p q r s =
    Decides-like _ (λ e i. record { protected = e.0 i; unprotected = e.1.0 i; payload = e.1.1.0 i; signature = e.1.1.1 i })
    (λ e. (ap (λ x. x.protected) e, (ap (λ x. x.unprotected) e, (ap (λ x. x.payload) e, ap (λ x. x.signature) e))))
    (Decides-and _ _ p (Decides-and _ _ q (Decides-and _ _ r s)))

pub sign_decides : {p q r s : Bool} {m n : SignView} → Decides p (m.protected ≡ n.protected) → Decides q (m.unprotected ≡ n.unprotected)
    → Decides r (m.payload ≡ n.payload) → Decides s (m.signatures ≡ n.signatures) → Decides (p && (q && (r && s))) (m ≡ n)
sign_decides p q r s =
    Decides-like _ (λ e i. record { protected = e.0 i; unprotected = e.1.0 i; payload = e.1.1.0 i; signatures = e.1.1.1 i })
    (λ e. (ap (λ x. x.protected) e, (ap (λ x. x.unprotected) e, (ap (λ x. x.payload) e, ap (λ x. x.signatures) e))))
    (Decides-and _ _ p (Decides-and _ _ q (Decides-and _ _ r s)))
