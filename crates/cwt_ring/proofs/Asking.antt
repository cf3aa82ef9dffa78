-- The ciphers are asked for the algorithm that the layer names.
use Rattle.std.proofs.Common.{◌≡◌, ◌∙◌, ◌++◌, if◌then◌else◌, ℤ, ℕ, Bool, true, false, List, [], ◌∷◌, option_map, Option, Some, None, ap, refl, sym, subst}
use Rattle.std.specs.List.{cons_option}
use Rattle.std.specs.Option.{IsSomeAnd, option_and_then}
use Rattle.coset.specs.Keys.{KeyView}
use Rattle.cwt_keys.specs.Keys.{Name}
use Rattle.cwt_keys.specs.Sealed.{SealView, algorithm_of, key_id_of}
use Rattle.cwt_keys.specs.Table.{of_form}
use Rattle.cwt_ring.specs.Attempts.{Finds, IssuerView, RefusedFor, fitting, fitting_of}
use Rattle.cwt_ring.specs.Fits.{Fitted, fits, fits_algorithm, fits_by, may_be, row_numbered}
use Rattle.cwt_ring.specs.Ring.{CiphersView, Decrypts, DecryptsBy, NotDecrypted, NotDecryptedBy, NotVerified, NotVerifiedBy, Verifies, VerifiesBy}
use Rattle.cwt_ring.specs.declared.error.KeyError.{KeyError}

-- ---- a layer without an algorithm

no_value : {A : Type 0} (b : Bool) (o : Option A) → o ≡ None → (if b then o else None) ≡ None
no_value true o e = e
no_value false o e = refl

no_nonce : (s : SealView) (k : KeyView) → None ≡ algorithm_of s → fits k s ≡ None
no_nonce s k e =
    no_value (may_be (key_id_of s) k.key_id) (fits_algorithm k s)
    (ap (λ o. option_and_then (λ a. option_and_then (λ r. fits_by a r k s) (of_form s.form (row_numbered a))) o) (sym e))

none_of_issuer : (s : SealView) (name : Name) (ks : List KeyView) → None ≡ algorithm_of s → fitting_of s name ks ≡ []
none_of_issuer s name [] e = refl
none_of_issuer s name (k ∷ ks) e =
    ap (λ (o : Option (List ℕ)). cons_option (option_map (λ n. (name, record { key = k; nonce = n })) o) (fitting_of s name ks)) (no_nonce s k e)
    ∙ none_of_issuer s name ks e

-- No key fits it.
pub none_fits : (s : SealView) (is : List IssuerView) → None ≡ algorithm_of s → fitting s is ≡ []
none_fits s [] e = refl
none_fits s (i ∷ is) e = (λ j. none_of_issuer s i.name i.keys e j ++ none_fits s is e j)

-- ---- a layer with an algorithm

module _ {E : Type 0} (c : CiphersView E) (s : SealView) (a : ℤ) (is : Some a ≡ algorithm_of s) (ks : List (Name × Fitted)) where
  pub verified : (name : Name) → Finds (VerifiesBy c a s) (NotVerifiedBy c a s) ks name → Finds (Verifies c s) (NotVerified c s) ks name
  verified name h =
      subst (λ o. Finds (λ k. IsSomeAnd o (λ b. VerifiesBy c b s k)) (λ k e. IsSomeAnd o (λ b. NotVerifiedBy c b s k e)) ks name) is h

  pub decrypted : (p : List ℕ) (name : Name) → Finds (DecryptsBy c a s p) (NotDecryptedBy c a s) ks name → Finds (Decrypts c s p) (NotDecrypted c s) ks name
  decrypted p name h =
      subst (λ o. Finds (λ k. IsSomeAnd o (λ b. DecryptsBy c b s p k)) (λ k e. IsSomeAnd o (λ b. NotDecryptedBy c b s k e)) ks name) is h

  pub not_verified : (e : KeyError E) → RefusedFor (NotVerifiedBy c a s) ks e → RefusedFor (NotVerified c s) ks e
  not_verified e h = subst (λ o. RefusedFor (λ k f. IsSomeAnd o (λ b. NotVerifiedBy c b s k f)) ks e) is h

  pub not_decrypted : (e : KeyError E) → RefusedFor (NotDecryptedBy c a s) ks e → RefusedFor (NotDecrypted c s) ks e
  not_decrypted e h = subst (λ o. RefusedFor (λ k f. IsSomeAnd o (λ b. NotDecryptedBy c b s k f)) ks e) is h
