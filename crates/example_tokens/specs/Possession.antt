-- Proofs that the sender of a token possesses the key that the token confirms (RFC 8747, section 3.5).
use Rattle.std.specs.Prelude.{◌≡◌, ◌≢◌, ◌⊎◌, ◌==◌, ◌||◌, not, nat_lt, ℕ, List, [], length, Option, Some, None, Bool, true, false, Result, Ok, Err}
use Rattle.std.specs.Option.{IsSomeAnd}
use Rattle.coset.specs.Calls.{IsStructure}
use Rattle.coset.specs.CoseKey.{CoseKey}
use Rattle.coset.specs.Encoding.{HasNoImage}
use Rattle.coset.specs.Headers.{fields_in}
use Rattle.coset.specs.Keys.{KeyView, key_view}
use Rattle.coset.specs.LabelData.{RegisteredLabelView, assigned}
use Rattle.coset.specs.PerhapsTagged.{perhaps_tagged}
use Rattle.coset.specs.Results.{Describes, IsRefused}
use Rattle.coset.specs.Sign1.{Sign1View, sign1, sign1_structure}
use Rattle.coset_iana.specs.Algorithm as algorithms
use Rattle.coset_iana.specs.declared.algorithms.Algorithm.TheVariants.{ES256}
use Rattle.cwt_confirm.specs.Confirm.{ReadsConfirmation}
use Rattle.cwt_confirm.specs.declared.confirmed.Confirmation.{Confirmation}
use Rattle.cwt_confirm.specs.declared.confirmed.Confirmation.TheVariants.{Key, EncryptedKey, KeyId}
use Rattle.cwt_keys.specs.Sealed.{SealView, algorithm_of, parts}
use Rattle.cwt_keys.specs.declared.form.Form.TheVariants as forms
use Rattle.cwt_ring.specs.Fits.{fits}
use Rattle.cwt_ring.specs.Ring.{CiphersView}
use Rattle.cwt_verify.specs.Verify.{TokenView}
use Rattle.example_tokens.specs.declared.possession.NotPossessed.{NotPossessed}
use Rattle.example_tokens.specs.declared.possession.NotPossessed.TheVariants as refusal

-- ---- the key

abbrev pub or_es256 : Option RegisteredLabelView → Option RegisteredLabelView
or_es256 None = Some (assigned (algorithms.number ES256))
or_es256 (Some a) = Some a

-- The key for proofs: ES256, if it names no algorithm.
abbrev pub for_proofs : KeyView → KeyView
for_proofs k = record k { alg = or_es256 k.alg }

-- The token confirms a key in the clear, and k is that key for proofs.
abbrev pub IsConfirmed : TokenView → KeyView → Type 0
IsConfirmed t k = (x : CoseKey) × ReadsConfirmation t (Ok (Some (Key x))) × (k ≡ for_proofs (key_view x))

-- The key of a confirmation, if that is a key in the clear.
abbrev pub key_of : Option Confirmation → Option CoseKey
key_of None = None
key_of (Some (Key k)) = Some k
key_of (Some (EncryptedKey m)) = None
key_of (Some (KeyId s)) = None

-- The token confirms no key in the clear.
abbrev pub ConfirmsNoKey : TokenView → Type 0
ConfirmsNoKey t = (c : Option Confirmation) × ReadsConfirmation t (Ok c) × (key_of c ≡ None)

abbrev pub ReadsProofKey : {E : Type 0} → TokenView → Result CoseKey (NotPossessed E) → Type 0
ReadsProofKey t (Ok k) = IsConfirmed t (key_view k)
ReadsProofKey t (Err (refusal.Confirmation e)) = ReadsConfirmation t (Err e)
ReadsProofKey t (Err refusal.NoKey) = ConfirmsNoKey t
ReadsProofKey t (Err e) = ⊥

-- ---- the signature

-- The result for the parts of a message that keys receive. On success the key fits, and the ciphers accepted the
-- signature by that key, for exactly this structure.
abbrev pub VerifiesSealed : {E : Type 0} → CiphersView E → KeyView → SealView → Result (Unit {0}) (NotPossessed E) → Type 0
VerifiesSealed c k s (Ok x) = (fits k s ≢ None) × IsSomeAnd (algorithm_of s) (λ a. c.verifies k a s.structure s.proof)
VerifiesSealed c k s (Err refusal.NotFitting) = fits k s ≡ None
VerifiesSealed c k s (Err (refusal.Signature e)) = (fits k s ≢ None) × IsSomeAnd (algorithm_of s) (λ a. c.not_verified k a s.structure s.proof e)
VerifiesSealed c k s (Err e) = ⊥

-- ---- the message

-- A header of the message lists critical labels (RFC 9052, section 3.1).
abbrev pub is_critical : Sign1View → Bool
is_critical m = not (length (fields_in m.protected.header).crit == 0) || not (length (fields_in m.unprotected).crit == 0)

-- The parts that keys receive of the message, if its structure has the bytes `s`.
abbrev pub seal_of : Sign1View → List ℕ → SealView
seal_of m s = parts forms.Sign1 m.protected m.unprotected m.signature s None

-- The signature of the message is over the challenge, and `R` holds for the parts that keys receive then.
abbrev pub IsOver : List ℕ → Sign1View → (SealView → Type 0) → Type 0
IsOver challenge m R = (s : List ℕ) × IsStructure (sign1_structure m [] challenge) s × R (seal_of m s)

-- The result for a message, whose signature must be over the challenge.
abbrev pub VerifiesMessage : {E : Type 0} → CiphersView E → KeyView → List ℕ → Sign1View → Result (Unit {0}) (NotPossessed E) → Type 0
VerifiesMessage c k challenge m (Err (refusal.Message e)) = HasNoImage (sign1_structure m [] challenge) e
VerifiesMessage c k challenge m r = IsOver challenge m (λ s. VerifiesSealed c k s r)

-- COSE_Sign1, plain or under its tag 18.
abbrev pub IsMessage : List ℕ → Sign1View → Type 0
IsMessage b m = Describes (perhaps_tagged 18 sign1) b m

-- The bytes are a message without critical labels, and `R` holds for it.
abbrev pub IsUncritical : List ℕ → (Sign1View → Type 0) → Type 0
IsUncritical b R = (m : Sign1View) × IsMessage b m × (is_critical m ≡ false) × R m

-- The result for the proof `b` by the key.
abbrev pub VerifiesProof : {E : Type 0} → CiphersView E → KeyView → List ℕ → List ℕ → Result (Unit {0}) (NotPossessed E) → Type 0
VerifiesProof c k challenge b (Err (refusal.Message e)) =
    IsRefused (perhaps_tagged 18 sign1) b e ⊎ IsUncritical b (λ m. HasNoImage (sign1_structure m [] challenge) e)
VerifiesProof c k challenge b (Err refusal.Critical) = (m : Sign1View) × IsMessage b m × (is_critical m ≡ true)
VerifiesProof c k challenge b r = IsUncritical b (λ m. IsOver challenge m (λ s. VerifiesSealed c k s r))

-- ---- the token

-- The result for a token and the proof `b`. On success, the ciphers accepted the message's signature over the challenge
-- by the key that the token confirms, which fits the message.
abbrev pub VerifiesConfirmed : {E : Type 0} → CiphersView E → TokenView → List ℕ → List ℕ → Result (Unit {0}) (NotPossessed E) → Type 0
VerifiesConfirmed c t challenge b (Err (refusal.Confirmation e)) = ReadsConfirmation t (Err e)
VerifiesConfirmed c t challenge b (Err refusal.NoKey) = ConfirmsNoKey t
VerifiesConfirmed c t challenge b r = (k : KeyView) × IsConfirmed t k × VerifiesProof c k challenge b r

-- ---- the challenge

-- A challenge of fewer than 8 bytes is short, as is such a nonce of an attestation token (RFC 9711, section 4.1).
abbrev pub is_short : List ℕ → Bool
is_short challenge = nat_lt (length challenge) 8

abbrev pub ProvesPossession : {E : Type 0} → CiphersView E → TokenView → List ℕ → List ℕ → Result (Unit {0}) (NotPossessed E) → Type 0
ProvesPossession c t challenge b (Err refusal.ShortChallenge) = is_short challenge ≡ true
ProvesPossession c t challenge b r = (is_short challenge ≡ false) × VerifiesConfirmed c t challenge b r
