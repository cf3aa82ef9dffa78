-- The views of two messages are equal exactly when their parts are.
use Rattle.std.specs.Prelude.{◌≡◌, ◌&&◌, Bool, Decides}
use Rattle.std.proofs.Common.{ap}
use Rattle.std.proofs.lemmas.Bool.Decides.{Decides-like, Decides-and}
use Rattle.coset_msg.specs.Mac0.{Mac0View}
use Rattle.coset_msg.specs.Encrypt0.{Encrypt0View}

pub mac0_decides : {p q r s : Bool} {m n : Mac0View} → Decides p (m.protected ≡ n.protected) → Decides q (m.unprotected ≡ n.unprotected)
    → Decides r (m.payload ≡ n.payload) → Decides s (m.tag ≡ n.tag) → Decides (p && (q && (r && s))) (m ≡ n)
mac0_decides p q r s =
    Decides-like _ (λ e i. record { protected = e.0 i; unprotected = e.1.0 i; payload = e.1.1.0 i; tag = e.1.1.1 i })
    (λ e. (ap (λ x. x.protected) e, (ap (λ x. x.unprotected) e, (ap (λ x. x.payload) e, ap (λ x. x.tag) e))))
    (Decides-and _ _ p (Decides-and _ _ q (Decides-and _ _ r s)))

pub encrypt0_decides : {p q r : Bool} {m n : Encrypt0View} → Decides p (m.protected ≡ n.protected) → Decides q (m.unprotected ≡ n.unprotected)
    → Decides r (m.ciphertext ≡ n.ciphertext) → Decides (p && (q && r)) (m ≡ n)
encrypt0_decides p q r =
    Decides-like _ (λ e i. record { protected = e.0 i; unprotected = e.1.0 i; ciphertext = e.1.1 i })
    (λ e. (ap (λ x. x.protected) e, (ap (λ x. x.unprotected) e, ap (λ x. x.ciphertext) e)))
    (Decides-and _ _ p (Decides-and _ _ q r))
