-- Encrypted messages whose content key is wrapped for a recipient (RFC 8152, sections 5.1 and 12.2.1).
use Rattle.std.specs.Prelude.{◌≡◌, ◌⊎◌, ℕ, List, [], ◌∷◌, Bool, true, false, not, ◌&&◌, ◌||◌, Option, Some, None, Result, Ok, Err, Vec}
use Rattle.std.specs.List.{find}
use Rattle.std.specs.Global.{Global}
use Rattle.coset_value.specs.Item.{Item}
use Rattle.coset_codec.specs.Results.{Describes, IsRefused}
use Rattle.coset_codec.specs.Encoding.{HasNoImage}
use Rattle.coset_codec.specs.Errors.{IsUnexpected}
use Rattle.coset_codec.specs.ReadAgain.{IsWritten}
use Rattle.coset_codec.specs.declared.error.CallError.{CallError}
use Rattle.coset_codec.specs.declared.error.CallError.TheVariants.{Coset, Caller}
use Rattle.coset_codec.specs.declared.error.CoseError.TheVariants.{OutOfMemory}
use Rattle.coset_iana.specs.Algorithm as algorithms
use Rattle.coset_iana.specs.declared.algorithms.Algorithm.TheVariants.{A128KW, A192KW, A256KW}
use Rattle.coset_label.specs.LabelData.{RegisteredLabelView, assigned}
use Rattle.coset_core.specs.Built.{with_algorithm, with_iv, with_key_id}
use Rattle.coset_core.specs.Headers.{HeaderView, empty_header, is_empty_header}
use Rattle.coset_core.specs.Messages.{unread}
use Rattle.coset_msg.specs.declared.enc_structure.EncryptionContext.TheVariants.{EncRecipient}
use Rattle.coset_recipient.specs.Encrypt.{EncryptView, empty_encrypt, encrypt, encrypt_structure_of, with_ciphertext}
use Rattle.coset_recipient.specs.Recipient as inner
use Rattle.coset_recipient.specs.Recipient.{RecipientView, empty_recipient, recipient_structure}
use Rattle.coset_recipient.specs.RecipientViews.{recipient_view}
use Rattle.coset_recipient.specs.declared.recipient.CoseRecipient.{CoseRecipient}
use Rattle.example_uses.specs.Asked.{Asker, AskerOfThree, MakesOf, Says, SaysOfThree}
use Rattle.example_uses.specs.HeaderParts.{has_algorithm, one_names_key}

-- ---- encrypting

-- [h'', {1: a, 4: key_id}, nil]: a recipient for which the algorithm wraps a key, before a key is wrapped.
abbrev pub wrapping : RegisteredLabelView → List ℕ → RecipientView
wrapping a key_id = record empty_recipient { unprotected = with_key_id key_id (with_algorithm a empty_header) }

-- The structure that goes with a key wrapped for a recipient of an encrypted message, without external data.
abbrev pub wrap_structure : RecipientView → Option Item
wrap_structure r = recipient_structure EncRecipient r []

-- The result of wrapping a key: the recipient with what f made from the key, the error of f, or `OutOfMemory`.
abbrev pub WrapsFor :
    {F E : Type 0} → Asker F (Vec ℕ Global) E → F → RegisteredLabelView → List ℕ → List ℕ → Result CoseRecipient (CallError E) → Type 0
WrapsFor g f a key_id key (Ok r) =
    (c : List ℕ)
    × (recipient_view r ≡ inner.with_ciphertext c (wrapping a key_id))
    × MakesOf g f key (wrap_structure (wrapping a key_id)) c
WrapsFor g f a key_id key (Err (Caller e)) = Says g f key (wrap_structure (wrapping a key_id)) (Err e)
WrapsFor g f a key_id key (Err (Coset e)) = e ≡ OutOfMemory

-- A message to this recipient, before it is encrypted. Its protected header has this algorithm, its unprotected header
-- this initialization vector.
abbrev pub message_to : RegisteredLabelView → List ℕ → RecipientView → EncryptView
message_to a iv r = record empty_encrypt {
  protected = unread (with_algorithm a empty_header);
  unprotected = with_iv iv empty_header;
  recipients = r ∷ [];
}

-- The result of encrypting a message: its bytes with what f made from the plaintext, or the error of f. Unless it is
-- `OutOfMemory`, another error means that a header of the recipient repeats a label, so that there is no encoding.
abbrev pub EncryptsFor :
    {F E : Type 0} → Asker F (Vec ℕ Global) E → F → RegisteredLabelView → List ℕ → RecipientView → List ℕ → List ℕ
    → Result (Vec ℕ Global) (CallError E) → Type 0
EncryptsFor g f a iv r external_aad plaintext (Ok b) =
    (c : List ℕ)
    × IsWritten encrypt (with_ciphertext c (message_to a iv r)) b.items
    × MakesOf g f plaintext (encrypt_structure_of (message_to a iv r) external_aad) c
EncryptsFor g f a iv r external_aad plaintext (Err (Caller e)) =
    Says g f plaintext (encrypt_structure_of (message_to a iv r) external_aad) (Err e)
EncryptsFor g f a iv r external_aad plaintext (Err (Coset e)) =
    (c : List ℕ) × HasNoImage (encrypt.image (with_ciphertext c (message_to a iv r))) e

-- ---- decrypting

-- The headers of the recipient name this key.
abbrev pub is_to : List ℕ → RecipientView → Bool
is_to key_id r = one_names_key key_id r.protected r.unprotected

-- The first recipient whose headers name this key.
abbrev pub recipient_by : List ℕ → List RecipientView → Option RecipientView
recipient_by key_id = find (is_to key_id)

-- The header names AES Key Wrap (RFC 8152, section 12.2.1).
abbrev pub names_key_wrap : HeaderView → Bool
names_key_wrap h =
    has_algorithm (assigned (algorithms.number A128KW)) h
    || (has_algorithm (assigned (algorithms.number A192KW)) h || has_algorithm (assigned (algorithms.number A256KW)) h)

-- The recipient names AES Key Wrap, and its protected header isn't empty.
abbrev pub misuses_key_wrap : RecipientView → Bool
misuses_key_wrap r = not (is_empty_header r.protected.header) && (names_key_wrap r.protected.header || names_key_wrap r.unprotected)

-- f returns this result for the ciphertext of the first recipient whose headers name this key, and its structure. The
-- recipient doesn't misuse AES Key Wrap.
abbrev pub AnswersKey : {F E : Type 0} → Asker F (Vec ℕ Global) E → F → List ℕ → EncryptView → Result (Vec ℕ Global) E → Type 0
AnswersKey g f key_id m answer =
    (r : RecipientView)
    × (w : List ℕ)
    × (recipient_by key_id m.recipients ≡ Some r)
    × (r.ciphertext ≡ Some w)
    × (misuses_key_wrap r ≡ false)
    × Says g f w (wrap_structure r) answer

-- No recipient names the key, or the first that does has no ciphertext or misuses AES Key Wrap.
abbrev pub HasNoKey : List ℕ → EncryptView → Type 0
HasNoKey key_id m =
    (recipient_by key_id m.recipients ≡ None)
    ⊎ ((r : RecipientView) × (recipient_by key_id m.recipients ≡ Some r) × ((r.ciphertext ≡ None) ⊎ (misuses_key_wrap r ≡ true)))

-- The result for the content key: the key that f made, or the error of f. The error is `absent` if there is nothing to
-- unwrap. Unless it is `OutOfMemory`, another error means that a header of the recipient repeats a label.
abbrev pub GivesKey : {F E : Type 0} → Asker F (Vec ℕ Global) E → F → List ℕ → E → EncryptView → Result (Vec ℕ Global) (CallError E) → Type 0
GivesKey g f key_id absent m (Ok key) = AnswersKey g f key_id m (Ok key)
GivesKey g f key_id absent m (Err (Caller e)) = (HasNoKey key_id m × (e ≡ absent)) ⊎ AnswersKey g f key_id m (Err e)
GivesKey g f key_id absent m (Err (Coset e)) =
    (r : RecipientView) × (recipient_by key_id m.recipients ≡ Some r) × HasNoImage (wrap_structure r) e

-- f makes a content key. k returns this result for that key, the message's ciphertext and its structure.
abbrev pub AnswersContent :
    {F H E : Type 0} → Asker F (Vec ℕ Global) E → F → AskerOfThree H (Vec ℕ Global) E → H → List ℕ → List ℕ → EncryptView
    → Result (Vec ℕ Global) E → Type 0
AnswersContent g f h k key_id external_aad m answer =
    (key : Vec ℕ Global)
    × (c : List ℕ)
    × AnswersKey g f key_id m (Ok key)
    × (m.ciphertext ≡ Some c)
    × SaysOfThree h k key.items c (encrypt_structure_of m external_aad) answer

-- The result of decrypting b: the plaintext that k made. The error is `absent` if there is no key to unwrap, or the one
-- of f or k. Otherwise b is no encrypted message with recipients, or has no ciphertext.
abbrev pub DecryptsFor :
    {F H E : Type 0} → Asker F (Vec ℕ Global) E → F → AskerOfThree H (Vec ℕ Global) E → H → List ℕ → List ℕ → E → List ℕ
    → Result (Vec ℕ Global) (CallError E) → Type 0
DecryptsFor g f h k key_id external_aad absent b (Ok p) =
    (m : EncryptView) × Describes encrypt b m × AnswersContent g f h k key_id external_aad m (Ok p)
DecryptsFor g f h k key_id external_aad absent b (Err (Caller e)) =
    (m : EncryptView)
    × Describes encrypt b m
    × ((HasNoKey key_id m × (e ≡ absent)) ⊎ AnswersKey g f key_id m (Err e) ⊎ AnswersContent g f h k key_id external_aad m (Err e))
DecryptsFor g f h k key_id external_aad absent b (Err (Coset e)) =
    IsRefused encrypt b e ⊎ ((m : EncryptView) × Describes encrypt b m × (m.ciphertext ≡ None) × IsUnexpected e)
