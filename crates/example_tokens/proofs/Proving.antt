-- The results of a proof of possession, from the parts of a message up to the token.
use Rattle.std.specs.Prelude.{IsErrAnd}
use Rattle.std.proofs.Common.{◌≡◌, ℕ, List, [], Option, Some, None, false, Result, Ok, Err, inr, subst, sym}
use Rattle.coset.specs.Calls.{IsStructure}
use Rattle.coset.specs.CoseKey.{CoseKey}
use Rattle.coset.specs.Keys.{KeyView}
use Rattle.coset.specs.Sign1.{Sign1View, sign1_structure}
use Rattle.cwt_confirm.specs.Confirm.{ReadsConfirmation}
use Rattle.cwt_confirm.specs.declared.confirmed.Confirmation.{Confirmation}
use Rattle.cwt_confirm.specs.declared.confirmed.Confirmation.TheVariants.{Key, EncryptedKey, KeyId}
use Rattle.cwt_ring.specs.Ring.{CiphersView}
use Rattle.cwt_verify.specs.Verify.{TokenView}
use Rattle.example_tokens.specs.Possession.{IsConfirmed, IsMessage, ProvesPossession, ReadsProofKey, VerifiesConfirmed, VerifiesMessage, VerifiesProof}
use Rattle.example_tokens.specs.Possession.{VerifiesSealed, is_critical, is_short, key_of, seal_of}
use Rattle.example_tokens.specs.declared.possession.NotPossessed.{NotPossessed}
use Rattle.example_tokens.specs.declared.possession.NotPossessed.TheVariants as refusal

-- The result for the parts of a message is that for the message.
pub sealed_in :
    {E : Type 0} (c : CiphersView E) (k : KeyView) (challenge : List ℕ) (m : Sign1View) (s : List ℕ) (r : Result (Unit {0}) (NotPossessed E))
    → IsStructure (sign1_structure m [] challenge) s → VerifiesSealed c k (seal_of m s) r → VerifiesMessage c k challenge m r
sealed_in c k challenge m s (Ok x) is h = (s, is, h)
sealed_in c k challenge m s (Err refusal.ShortChallenge) is h = absurd h
sealed_in c k challenge m s (Err (refusal.Confirmation e)) is h = absurd h
sealed_in c k challenge m s (Err refusal.NoKey) is h = absurd h
sealed_in c k challenge m s (Err (refusal.Message e)) is h = absurd h
sealed_in c k challenge m s (Err refusal.Critical) is h = absurd h
sealed_in c k challenge m s (Err refusal.NotFitting) is h = (s, is, h)
sealed_in c k challenge m s (Err (refusal.Signature e)) is h = (s, is, h)

-- The result for a message whose payload was removed is that for the bytes of the message.
pub read_from :
    {E : Type 0} (c : CiphersView E) (k : KeyView) (challenge b : List ℕ) (m : Sign1View) (r : Result (Unit {0}) (NotPossessed E))
    → IsMessage b m → is_critical m ≡ false → VerifiesMessage c k challenge (record m { payload = None }) r → VerifiesProof c k challenge b r
read_from c k challenge b m (Ok x) is not_critical h = (m, is, not_critical, h)
read_from c k challenge b m (Err refusal.ShortChallenge) is not_critical h = (m, is, not_critical, h)
read_from c k challenge b m (Err (refusal.Confirmation e)) is not_critical h = (m, is, not_critical, h)
read_from c k challenge b m (Err refusal.NoKey) is not_critical h = (m, is, not_critical, h)
read_from c k challenge b m (Err (refusal.Message e)) is not_critical h = inr (m, is, not_critical, h)
read_from c k challenge b m (Err refusal.Critical) is not_critical h = absurd h.2
read_from c k challenge b m (Err refusal.NotFitting) is not_critical h = (m, is, not_critical, h)
read_from c k challenge b m (Err (refusal.Signature e)) is not_critical h = (m, is, not_critical, h)

-- The result for the confirmed key is that for the token.
pub by_confirmed :
    {E : Type 0} (c : CiphersView E) (t : TokenView) (k : KeyView) (challenge b : List ℕ) (r : Result (Unit {0}) (NotPossessed E))
    → IsConfirmed t k → VerifiesProof c k challenge b r → VerifiesConfirmed c t challenge b r
by_confirmed c t k challenge b (Ok x) is h = (k, is, h)
by_confirmed c t k challenge b (Err refusal.ShortChallenge) is h = (k, is, h)
by_confirmed c t k challenge b (Err (refusal.Confirmation e)) is h = absurd h.3.2
by_confirmed c t k challenge b (Err refusal.NoKey) is h = absurd h.3.2
by_confirmed c t k challenge b (Err (refusal.Message e)) is h = (k, is, h)
by_confirmed c t k challenge b (Err refusal.Critical) is h = (k, is, h)
by_confirmed c t k challenge b (Err refusal.NotFitting) is h = (k, is, h)
by_confirmed c t k challenge b (Err (refusal.Signature e)) is h = (k, is, h)

-- If the token has no key for proofs, the reason is the result.
pub unconfirmed :
    {E : Type 0} (c : CiphersView E) (t : TokenView) (challenge b : List ℕ) (e : NotPossessed E) → ReadsProofKey t (Err e)
    → VerifiesConfirmed c t challenge b (Err e)
unconfirmed c t challenge b refusal.ShortChallenge h = absurd h
unconfirmed c t challenge b (refusal.Confirmation e) h = h
unconfirmed c t challenge b refusal.NoKey h = h
unconfirmed c t challenge b (refusal.Message e) h = absurd h
unconfirmed c t challenge b refusal.Critical h = absurd h
unconfirmed c t challenge b refusal.NotFitting h = absurd h
unconfirmed c t challenge b (refusal.Signature e) h = absurd h

-- The result by the confirmed key is that for a challenge of at least 8 bytes.
pub of_long :
    {E : Type 0} (c : CiphersView E) (t : TokenView) (challenge b : List ℕ) (r : Result (Unit {0}) (NotPossessed E))
    → is_short challenge ≡ false → VerifiesConfirmed c t challenge b r → ProvesPossession c t challenge b r
of_long c t challenge b (Ok x) is h = (is, h)
of_long c t challenge b (Err refusal.ShortChallenge) is h = absurd h.2.3.2
of_long c t challenge b (Err (refusal.Confirmation e)) is h = (is, h)
of_long c t challenge b (Err refusal.NoKey) is h = (is, h)
of_long c t challenge b (Err (refusal.Message e)) is h = (is, h)
of_long c t challenge b (Err refusal.Critical) is h = (is, h)
of_long c t challenge b (Err refusal.NotFitting) is h = (is, h)
of_long c t challenge b (Err (refusal.Signature e)) is h = (is, h)

-- A property of the refused result also holds after its error is passed on.
pub passed_as : {T U : Type 0} (P : Result T U → Type 0) (e : U) (r : Result T U) → IsErrAnd r (λ x. x ≡ e) → P (Err e) → P r
passed_as P e (Ok x) is h = absurd is
passed_as P e (Err x) is h = subst (λ y. P (Err y)) (sym is) h

-- A confirmation with a key in the clear is that key.
pub confirmed_key :
    (t : TokenView) (v : Option Confirmation) (x : CoseKey) → ReadsConfirmation t (Ok v) → Some x ≡ key_of v
    → ReadsConfirmation t (Ok (Some (Key x)))
confirmed_key t None x h is = absurd (cc)
confirmed_key t (Some (Key y)) x h is = let e : y ≡ x = cc in subst (λ z. ReadsConfirmation t (Ok (Some (Key z)))) e h
confirmed_key t (Some (EncryptedKey m)) x h is = absurd (cc)
confirmed_key t (Some (KeyId s)) x h is = absurd (cc)
