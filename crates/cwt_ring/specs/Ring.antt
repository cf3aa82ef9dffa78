-- The results of a ring of keys.
use Rattle.std.specs.Prelude.{ℕ, ℤ, List, map}
use Rattle.std.specs.Option.{IsSomeAnd}
use Rattle.coset.specs.Keys.{KeyView}
use Rattle.cwt_keys.specs.Keys.{KeysView}
use Rattle.cwt_keys.specs.Sealed.{SealView, algorithm_of}
use Rattle.cwt_ring.specs.Attempts.{Finds, RefusedFor, fitting, issuer_view}
use Rattle.cwt_ring.specs.Fits.{Fitted}
use Rattle.cwt_ring.specs.declared.attempt.Issuer.{Issuer}
use Rattle.cwt_ring.specs.declared.error.KeyError.{KeyError}

-- The view of ciphers, by a key and the number of an algorithm. `verifies` and `not_verified` are about the input and
-- the signature or MAC. `decrypts` and `not_decrypted` are about the nonce, the additional authenticated data and the
-- ciphertext.
pub record CiphersView (E : Type 0) : Type 1 where
  -- the signatures and MACs that they may accept
  pub verifies : KeyView → ℤ → List ℕ → List ℕ → Type 0
  -- the plaintexts that they may return
  pub decrypts : KeyView → ℤ → List ℕ → List ℕ → List ℕ → List ℕ → Type 0
  -- the errors that they may return
  pub not_verified : KeyView → ℤ → List ℕ → List ℕ → E → Type 0
  pub not_decrypted : KeyView → ℤ → List ℕ → List ℕ → List ℕ → E → Type 0

-- Asked for this algorithm, the layer's structure and its proof, the ciphers may accept by this key.
abbrev pub VerifiesBy : {E : Type 0} → CiphersView E → ℤ → SealView → Fitted → Type 0
VerifiesBy c a s k = c.verifies k.key a s.structure s.proof

-- Asked for the same, they may return this error.
abbrev pub NotVerifiedBy : {E : Type 0} → CiphersView E → ℤ → SealView → Fitted → E → Type 0
NotVerifiedBy c a s k e = c.not_verified k.key a s.structure s.proof e

-- Asked for the same with the nonce by which the key fits, they may return this plaintext.
abbrev pub DecryptsBy : {E : Type 0} → CiphersView E → ℤ → SealView → List ℕ → Fitted → Type 0
DecryptsBy c a s p k = c.decrypts k.key a k.nonce s.structure s.proof p

-- Asked for the same with that nonce, they may return this error.
abbrev pub NotDecryptedBy : {E : Type 0} → CiphersView E → ℤ → SealView → Fitted → E → Type 0
NotDecryptedBy c a s k e = c.not_decrypted k.key a k.nonce s.structure s.proof e

-- ---- the same for exactly the algorithm that the layer names

abbrev pub Verifies : {E : Type 0} → CiphersView E → SealView → Fitted → Type 0
Verifies c s k = IsSomeAnd (algorithm_of s) (λ a. VerifiesBy c a s k)

abbrev pub NotVerified : {E : Type 0} → CiphersView E → SealView → Fitted → E → Type 0
NotVerified c s k e = IsSomeAnd (algorithm_of s) (λ a. NotVerifiedBy c a s k e)

abbrev pub Decrypts : {E : Type 0} → CiphersView E → SealView → List ℕ → Fitted → Type 0
Decrypts c s p k = IsSomeAnd (algorithm_of s) (λ a. DecryptsBy c a s p k)

abbrev pub NotDecrypted : {E : Type 0} → CiphersView E → SealView → Fitted → E → Type 0
NotDecrypted c s k e = IsSomeAnd (algorithm_of s) (λ a. NotDecryptedBy c a s k e)

-- The view of a ring. The first 16 keys that fit the layer are tried, in order, until one is accepted.
abbrev pub ring_view : {E : Type 0} → CiphersView E → List Issuer → KeysView (KeyError E)
ring_view c is = record {
  accepts = λ s name. Finds (Verifies c s) (NotVerified c s) (fitting s (map issuer_view is)) name;
  not_accepted = λ s e. RefusedFor (NotVerified c s) (fitting s (map issuer_view is)) e;
  decrypts = λ s p name. Finds (Decrypts c s p) (NotDecrypted c s) (fitting s (map issuer_view is)) name;
  not_decrypted = λ s e. RefusedFor (NotDecrypted c s) (fitting s (map issuer_view is)) e;
}
