-- Encrypted messages, and the key that is wrapped for their recipient.
use Rattle.std.proofs.Common.{◌≡◌, ◌∙◌, ℕ, ℤ, List, [], false, Option, Some, None, Result, Ok, Err, Vec, ap, inl, inr, refl, subst}
use Rattle.std.specs.Fn.{FnOnceReturnsAtPair}
use Rattle.std.specs.Global.{Global}
use Rattle.coset_value.specs.Item.{Item}
use Rattle.coset_codec.specs.Results.{Describes}
use Rattle.coset_codec.specs.AsWritten.{WhenRead}
use Rattle.coset_codec.specs.ReadAgain.{IsWritten}
use Rattle.coset_codec.specs.declared.error.CallError.{CallError}
use Rattle.coset_codec.specs.declared.error.CallError.TheVariants.{Coset, Caller}
use Rattle.coset_label.specs.LabelData.{RegisteredLabelView, assigned}
use Rattle.coset_label.specs.Labels.{algorithm}
use Rattle.coset_core.specs.Calls.{CallsWith, IsStructure}
use Rattle.coset_core.specs.Fields.{partial_header}
use Rattle.coset_msg.specs.declared.enc_structure.EncryptionContext.TheVariants.{CoseEncrypt, EncRecipient}
use Rattle.coset_recipient.specs.Encrypt.{EncryptView, encrypt, encrypt_structure_of, with_ciphertext}
use Rattle.coset_recipient.specs.Recipient as inner
use Rattle.coset_recipient.specs.Recipient.{RecipientView}
use Rattle.coset_recipient.specs.RecipientViews.{recipient_view}
use Rattle.coset_recipient.specs.Structures.{EncryptsAll, RecipientEncrypts}
use Rattle.coset_recipient.specs.declared.recipient.CoseRecipient.{CoseRecipient}
use Rattle.example_uses.specs.Asked.{Asker, AskerOfThree}
use Rattle.example_uses.specs.Recipients.{DecryptsFor, EncryptsFor, GivesKey, WrapsFor, is_to, message_to, misuses_key_wrap, recipient_by}
use Rattle.example_uses.specs.Recipients.{wrap_structure, wrapping}
use Rattle.example_uses.proofs.Calls.{NotSaid}
use Rattle.example_uses.proofs.Signing.{of_found}
use Rattle.example_uses.proofs.Spellings.{only_memory}

-- The closure made something from bytes and a structure, and it is stored.
abbrev pub MadeOf : {F E : Type 0} → Asker F (Vec ℕ Global) E → F → List ℕ → Option Item → (Vec ℕ Global → Type 0) → Type 0
MadeOf g f s o stores = (t : List ℕ) × (made : Vec ℕ Global) × IsStructure o t × FnOnceReturnsAtPair g f s t (Ok made) × stores made

-- ---- wrapping a key

-- The protected header of the recipient is empty, so there always is a structure.
has_wrapped : (a : RegisteredLabelView) (key_id : List ℕ) → wrap_structure (wrapping a key_id) ≡ None → ⊥
has_wrapped a key_id e = absurd (cc)

pub is_cwt_tagged :
    {F E : Type 0} (g : Asker F (Vec ℕ Global) E) (f : F) (a : RegisteredLabelView) (key_id key : List ℕ) (empty built : RecipientView) (r : CoseRecipient)
    → empty ≡ wrapping a key_id → recipient_view r ≡ built
    → MadeOf g f key (wrap_structure empty) (λ c. built ≡ inner.with_ciphertext c.items empty) → WrapsFor g f a key_id key (Ok r)
is_cwt_tagged g f a k key empty built r is view m = (
  m.1.items,
  view ∙ (m.4 ∙ ap (inner.with_ciphertext m.1.items) is),
  (m.1, (m.0, subst (λ o. IsStructure (wrap_structure o) m.0) is m.2, m.3), refl),
)

pub not_wrapped :
    {F E : Type 0} (g : Asker F (Vec ℕ Global) E) (f : F) (a : RegisteredLabelView) (key_id key : List ℕ) (empty : RecipientView)
    → empty ≡ wrapping a key_id → (e : CallError E) → NotSaid g f key (wrap_structure empty) e → WrapsFor g f a key_id key (Err e)
not_wrapped g f a k key empty is (Coset e) asked =
    only_memory e (λ other. has_wrapped a k (subst (λ r. wrap_structure r ≡ None) is (asked other).1))
not_wrapped g f a k key empty is (Caller e) asked = (asked.0, subst (λ r. IsStructure (wrap_structure r) asked.0) is asked.1, asked.2)

-- ---- encrypting

-- A structure exists.
has_sealed : (n : ℤ) (iv : List ℕ) (r : RecipientView) (external_aad : List ℕ) → encrypt_structure_of (message_to (assigned n) iv r) external_aad ≡ None → ⊥
unfolding partial_header algorithm
has_sealed n iv r external_aad e = absurd (cc)

pub is_sealed :
    {F E : Type 0} (g : Asker F (Vec ℕ Global) E) (f : F) (a : RegisteredLabelView) (iv : List ℕ) (r : RecipientView) (external_aad plaintext : List ℕ)
    (b : Vec ℕ Global) (empty built : EncryptView) → empty ≡ message_to a iv r
    → MadeOf g f plaintext (encrypt_structure_of empty external_aad) (λ c. built ≡ with_ciphertext c.items empty) → IsWritten encrypt built b.items
    → EncryptsFor g f a iv r external_aad plaintext (Ok b)
is_sealed g f a iv r x p b empty built is m w = (
  m.1.items,
  subst (λ n. IsWritten encrypt n b.items) (m.4 ∙ ap (with_ciphertext m.1.items) is) w,
  (m.1, (m.0, subst (λ n. IsStructure (encrypt_structure_of n x) m.0) is m.2, m.3), refl),
)

pub not_sealed :
    {F E : Type 0} (g : Asker F (Vec ℕ Global) E) (f : F) (n : ℤ) (iv : List ℕ) (r : RecipientView) (external_aad plaintext : List ℕ)
    (empty : EncryptView) → empty ≡ message_to (assigned n) iv r → (e : CallError E) → NotSaid g f plaintext (encrypt_structure_of empty external_aad) e
    → EncryptsFor g f (assigned n) iv r external_aad plaintext (Err e)
not_sealed g f n iv r x p empty is (Coset e) asked =
    ([], λ other. absurd (has_sealed n iv r x (subst (λ m. encrypt_structure_of m x ≡ None) is (asked other).1)))
not_sealed g f n iv r x p empty is (Caller e) asked = (asked.0, subst (λ m. IsStructure (encrypt_structure_of m x) asked.0) is asked.1, asked.2)

-- ---- the content key

-- The result for the first recipient that names the key and has the ciphertext w.
pub key_given :
    {F E : Type 0} (g : Asker F (Vec ℕ Global) E) (f : F) (absent : E) (key_id : List ℕ) (m : EncryptView) (r : RecipientView) (w : List ℕ)
    (answer : Result (Vec ℕ Global) (CallError E)) → recipient_by key_id m.recipients ≡ Some r → r.ciphertext ≡ Some w → misuses_key_wrap r ≡ false
    → CallsWith g f w (wrap_structure r) answer → GivesKey g f key_id absent m answer
key_given g f absent key_id m r w (Ok key) found carried used h = (r, w, found, carried, used, h)
key_given g f absent key_id m r w (Err (Coset e)) found carried used h = (r, found, h)
key_given g f absent key_id m r w (Err (Caller e)) found carried used h = inr (r, w, found, carried, used, h)

-- ---- decrypting

-- In a message that was read, each recipient's ciphertext has a structure, and so has the message's own.
module _ (law : WhenRead encrypt EncryptsAll) (b : List ℕ) (m : EncryptView) (read : Describes encrypt b m) where
  has_key : (key_id : List ℕ) (r : RecipientView) → recipient_by key_id m.recipients ≡ Some r → wrap_structure r ≡ None → ⊥
  has_key key_id r found none =
      let each = law read.0 m read.2 in
      (of_found (is_to key_id) RecipientEncrypts m.recipients r each.1 found).0 EncRecipient [] none

  pub has_content : (external_aad : List ℕ) → encrypt_structure_of m external_aad ≡ None → ⊥
  has_content external_aad none = (law read.0 m read.2).0 CoseEncrypt external_aad none

  pub no_key :
      {F H E : Type 0} (g : Asker F (Vec ℕ Global) E) (f : F) (h : AskerOfThree H (Vec ℕ Global) E) (k : H) (key_id external_aad : List ℕ)
      (absent : E) (e : CallError E) → GivesKey g f key_id absent m (Err e) → DecryptsFor g f h k key_id external_aad absent b (Err e)
  no_key g f h k key_id x absent (Coset e) (r, found, none) = inl (λ other. absurd (has_key key_id r found (none other).1))
  no_key g f h k key_id x absent (Caller e) (inl absence) = (m, read, inl absence)
  no_key g f h k key_id x absent (Caller e) (inr asked) = (m, read, inr (inl asked))
