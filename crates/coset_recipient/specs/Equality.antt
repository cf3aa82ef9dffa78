-- The views of two messages are equal exactly when their parts are.
use Rattle.std.specs.Prelude.{◌≡◌, ◌&&◌, Bool, Decides}
use Rattle.std.proofs.Common.{ap}
use Rattle.std.proofs.lemmas.Bool.Decides.{Decides-like, Decides-and}
use Rattle.coset_recipient.specs.Mac.{MacView}
use Rattle.coset_recipient.specs.Encrypt.{EncryptView}

pub mac_decides : {p q r s t : Bool} {m n : MacView} → Decides p (m.protected ≡ n.protected) → Decides q (m.unprotected ≡ n.unprotected)
    → Decides r (m.payload ≡ n.payload) → Decides s (m.tag ≡ n.tag) → Decides t (m.recipients ≡ n.recipients)
    → Decides (p && (q && (r && (s && t)))) (m ≡ n)
mac_decides p q r s t =
    Decides-like _ (λ e i. record { protected = e.0 i; unprotected = e.1.0 i; payload = e.1.1.0 i; tag = e.1.1.1.0 i; recipients = e.1.1.1.1 i })
    (λ e. (ap (λ x. x.protected) e, (ap (λ x. x.unprotected) e, (ap (λ x. x.payload) e, (ap (λ x. x.tag) e, ap (λ x. x.recipients) e)))))
    (Decides-and _ _ p (Decides-and _ _ q (Decides-and _ _ r (Decides-and _ _ s t))))

pub encrypt_decides : {p q r s : Bool} {m n : EncryptView} → Decides p (m.protected ≡ n.protected) → Decides q (m.unprotected ≡ n.unprotected)
    → Decides r (m.ciphertext ≡ n.ciphertext) → Decides s (m.recipients ≡ n.recipients) → Decides (p && (q && (r && s))) (m ≡ n)
encrypt_decides p q r s =
    Decides-like _ (λ e i. record { protected = e.0 i; unprotected = e.1.0 i; ciphertext = e.1.1.0 i; recipients = e.1.1.1 i })
    (λ e. (ap (λ x. x.protected) e, (ap (λ x. x.unprotected) e, (ap (λ x. x.ciphertext) e, ap (λ x. x.recipients) e))))
    (Decides-and _ _ p (Decides-and _ _ q (Decides-and _ _ r s)))
