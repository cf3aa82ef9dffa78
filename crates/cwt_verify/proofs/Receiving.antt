-- What keys are asked about, and what follows from their answer.
use Rattle.std.proofs.Common.{◌≡◌, ◌∙◌, ℕ, List, [], Option, Some, None, Vec, ap, refl, subst, sym}
use Rattle.std.specs.Global.{Global}
use Rattle.coset.specs.Calls.{IsStructure}
use Rattle.coset.specs.CoseRecipient.{CoseRecipient, out-CoseRecipient}
use Rattle.coset.specs.CoseSignature.{CoseSignature, out-CoseSignature}
use Rattle.coset.specs.Encrypt.{EncryptView, encrypt_structure_of}
use Rattle.coset.specs.Encrypt0.{Encrypt0View, encrypt0_structure}
use Rattle.coset.specs.Headers.{HeaderView, ProtectedView, SignatureView, fields_in}
use Rattle.coset.specs.Mac.{MacView, mac_structure_of}
use Rattle.coset.specs.Mac0.{Mac0View, mac0_structure}
use Rattle.coset.specs.Recipient.{RecipientView}
use Rattle.coset.specs.RecipientViews.{recipient_view, recipient-unrolled}
use Rattle.coset.specs.Sign1.{Sign1View, sign1_structure}
use Rattle.coset.specs.ViewLaws.{signature-opened}
use Rattle.coset.specs.Views.{header_view, protected_view, signature_view}
use Rattle.cwt_keys.specs.Keys.{KeysView, Name}
use Rattle.cwt_keys.specs.Sealed.{SealView}
use Rattle.cwt_keys.specs.declared.form.Form.{Form}
use Rattle.cwt_keys.specs.declared.form.Form.TheVariants.{Sign1, Mac0, Encrypt0, Sign, Mac, Encrypt}
use Rattle.cwt_verify.specs.Headers.{named_key}
use Rattle.cwt_verify.specs.Layers.{encrypted, encrypted_for, for_recipient, macced, macced_for, signed, whole}
use Rattle.cwt_verify.specs.Opening.{HasContent, Refuses}
use Rattle.cwt_verify.specs.Policy.{PolicyView}
use Rattle.cwt_verify.specs.Recipients.{only_direct}
use Rattle.cwt_keys.specs.Sealed.{parts}
use Rattle.cwt_verify.specs.Signatures.{signature_seal}

-- The same parts, under other names.
pub same_parts :
    (f : Form) (a : ProtectedView) (b : HeaderView) (o n : Option HeaderView) (x : SealView) (proof structure q t : List ℕ) → x ≡ parts f a b proof structure o
    → proof ≡ q → structure ≡ t → o ≡ n → x ≡ parts f a b q t n
same_parts f a b o n x proof structure q t is e g h =
    is
    ∙ (ap (λ y. parts f a b y structure o) e ∙ (ap (λ y. parts f a b q y o) g ∙ ap (λ (y : Option HeaderView). parts f a b q t y) h))

-- The parts of a signature.
pub signature_parts :
    (s : CoseSignature) (x : SealView) (proof structure t : List ℕ)
    → x ≡ parts Sign (protected_view (out-CoseSignature s).protected) (header_view (out-CoseSignature s).unprotected) proof structure None
    → proof ≡ (out-CoseSignature s).signature.items → structure ≡ t → x ≡ signature_seal (signature_view s) t
signature_parts s x proof structure t is e g =
    let o = out-CoseSignature s in
    same_parts Sign (protected_view o.protected) (header_view o.unprotected) None None x proof structure o.signature.items t is e g refl
    ∙ sym (ap (λ (v : SignatureView). signature_seal v t) (signature-opened s))

-- The header of a recipient.
pub recipient_header : (r : CoseRecipient) → Some (header_view (out-CoseRecipient r).unprotected) ≡ Some (recipient_view r).unprotected
recipient_header r = sym (ap (λ (v : RecipientView). Some v.unprotected) (recipient-unrolled r))

module _ {E : Type 0} (k : KeysView E) (p : PolicyView) where
  pub signed_accepted :
      (m : Sign1View) (c t : List ℕ) (x : SealView) (n : Name) → m.payload ≡ Some c → IsStructure (sign1_structure m [] c) t
      → x ≡ parts Sign1 m.protected m.unprotected m.signature t None → k.accepts x n → HasContent k p (signed m) c whole n
  signed_accepted m c t x n is made e h = (c, t, is, made, (subst (λ y. k.accepts y n) e h, refl))

  pub signed_refused :
      (m : Sign1View) (c t : List ℕ) (x : SealView) (id : Vec ℕ Global) (f : E) → m.payload ≡ Some c → IsStructure (sign1_structure m [] c) t
      → x ≡ parts Sign1 m.protected m.unprotected m.signature t None → id.items ≡ named_key m.protected m.unprotected → k.not_accepted x f
      → Refuses k p (signed m) id f
  signed_refused m c t x id f is made e named h = (c, t, is, made, (named, subst (λ y. k.not_accepted y f) e h))

  pub mac_accepted :
      (m : Mac0View) (c t : List ℕ) (x : SealView) (n : Name) → m.payload ≡ Some c → IsStructure (mac0_structure m [] c) t
      → x ≡ parts Mac0 m.protected m.unprotected m.tag t None → k.accepts x n → HasContent k p (macced m) c whole n
  mac_accepted m c t x n is made e h = (c, t, is, made, (subst (λ y. k.accepts y n) e h, refl))

  pub mac_refused :
      (m : Mac0View) (c t : List ℕ) (x : SealView) (id : Vec ℕ Global) (f : E) → m.payload ≡ Some c → IsStructure (mac0_structure m [] c) t
      → x ≡ parts Mac0 m.protected m.unprotected m.tag t None → id.items ≡ named_key m.protected m.unprotected → k.not_accepted x f
      → Refuses k p (macced m) id f
  mac_refused m c t x id f is made e named h = (c, t, is, made, (named, subst (λ y. k.not_accepted y f) e h))

  pub decrypted :
      (m : Encrypt0View) (q t : List ℕ) (x : SealView) (c : List ℕ) (n : Name) → m.ciphertext ≡ Some q → IsStructure (encrypt0_structure m []) t
      → x ≡ parts Encrypt0 m.protected m.unprotected q t None → k.decrypts x c n → HasContent k p (encrypted m) c whole n
  decrypted m q t x c n is made e h = (q, t, is, made, subst (λ y. k.decrypts y c n) e h)

  pub not_decrypted :
      (m : Encrypt0View) (q t : List ℕ) (x : SealView) (id : Vec ℕ Global) (f : E) → m.ciphertext ≡ Some q → IsStructure (encrypt0_structure m []) t
      → x ≡ parts Encrypt0 m.protected m.unprotected q t None → id.items ≡ named_key m.protected m.unprotected → k.not_decrypted x f
      → Refuses k p (encrypted m) id f
  not_decrypted m q t x id f is made e named h = (q, t, is, made, (named, subst (λ y. k.not_decrypted y f) e h))

  pub mac_accepted_for :
      (m : MacView) (r : RecipientView) (c t : List ℕ) (x : SealView) (n : Name) → only_direct m.recipients ≡ Some r → m.payload ≡ Some c
      → IsStructure (mac_structure_of m [] c) t → x ≡ parts Mac m.protected m.unprotected m.tag t (Some r.unprotected) → k.accepts x n
      → HasContent k p (macced_for m) c (for_recipient r) n
  mac_accepted_for m r c t x n only is made e h = (only, (c, t, is, made, (subst (λ y. k.accepts y n) e h, refl)))

  pub mac_refused_for :
      (m : MacView) (r : RecipientView) (c t : List ℕ) (x : SealView) (id : Vec ℕ Global) (f : E) → only_direct m.recipients ≡ Some r → m.payload ≡ Some c
      → IsStructure (mac_structure_of m [] c) t → x ≡ parts Mac m.protected m.unprotected m.tag t (Some r.unprotected)
      → id.items ≡ (fields_in r.unprotected).key_id → k.not_accepted x f → Refuses k p (macced_for m) id f
  mac_refused_for m r c t x id f only is made e named h = (r, (only, (c, t, is, made, (named, subst (λ y. k.not_accepted y f) e h))))

  pub decrypted_for :
      (m : EncryptView) (r : RecipientView) (q t : List ℕ) (x : SealView) (c : List ℕ) (n : Name) → only_direct m.recipients ≡ Some r → m.ciphertext ≡ Some q
      → IsStructure (encrypt_structure_of m []) t → x ≡ parts Encrypt m.protected m.unprotected q t (Some r.unprotected) → k.decrypts x c n
      → HasContent k p (encrypted_for m) c (for_recipient r) n
  decrypted_for m r q t x c n only is made e h = (only, (q, t, is, made, subst (λ y. k.decrypts y c n) e h))

  pub not_decrypted_for :
      (m : EncryptView) (r : RecipientView) (q t : List ℕ) (x : SealView) (id : Vec ℕ Global) (f : E) → only_direct m.recipients ≡ Some r
      → m.ciphertext ≡ Some q → IsStructure (encrypt_structure_of m []) t → x ≡ parts Encrypt m.protected m.unprotected q t (Some r.unprotected)
      → id.items ≡ (fields_in r.unprotected).key_id → k.not_decrypted x f → Refuses k p (encrypted_for m) id f
  not_decrypted_for m r q t x id f only is made e named h = (r, (only, (q, t, is, made, (named, subst (λ y. k.not_decrypted y f) e h))))
