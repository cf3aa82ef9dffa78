-- Attestation tokens: the reasons against a token are passed on, and submodules are found.
use Rattle.std.specs.Prelude.{IsErrAnd}
use Rattle.std.specs.List.{find}
use Rattle.std.proofs.Common.{◌≡◌, ◌∙◌, ℕ, ℤ, List, [], ◌∷◌, Option, Some, Result, Ok, Err, ap, cond, option_map, refl, subst, sym}
use Rattle.coset_claims.specs.Claims.{ClaimsView}
use Rattle.coset_claims.specs.declared.claims_set.ClaimsSet.{ClaimsSet}
use Rattle.coset_codec.specs.declared.error.CoseError.{CoseError}
use Rattle.coset_codec.specs.declared.error.CoseError.TheVariants.{OutOfMemory}
use Rattle.coset_value.specs.Item.{Item}
use Rattle.coset_value.specs.View.{value_item, value_pairs}
use Rattle.coset_value.specs.declared.value.Value.{Value}
use Rattle.cwt_keys.specs.Keys.{KeysView}
use Rattle.cwt_verify.specs.Verify.{VerifiesToken}
use Rattle.cwt_verify.specs.declared.error.TokenError.{TokenError}
use Rattle.cwt_verify.specs.declared.token.VerifiedToken.{VerifiedToken}
use Rattle.example_uses.specs.Attestation.{ReadsSubmodule, VerifiesAttestation, attestation_policy, held_under, is_text, submodule_of}
use Rattle.example_uses.specs.declared.attestation.NotAttested.{NotAttested}
use Rattle.example_uses.specs.declared.attestation.NotAttested.TheVariants.{Refused}
use Rattle.example_uses.proofs.Found.{cond-map}

-- The reason against a token is the reason why it is no attestation.
pub refused :
    {E : Type 0} (k : KeysView E) (nonce : List ℕ) (now : ℤ) (b : List ℕ) (r : Result VerifiedToken (NotAttested E)) (e : TokenError E)
    → IsErrAnd r (λ x. x ≡ Refused e) → VerifiesToken k attestation_policy now b (Err e)
    → VerifiesAttestation k nonce now b r
refused k nonce now b (Ok x) e is h = absurd is
refused k nonce now b (Err x) e is h = subst (λ y. VerifiesAttestation k nonce now b (Err y)) (sym is) h

-- An allocation for a copy of the submodule failed.
pub no_memory :
    (name : List ℕ) (c : ClaimsView) (v : Item) (r : Result (Option ClaimsSet) CoseError) → IsErrAnd r (λ x. x ≡ OutOfMemory)
    → submodule_of name c ≡ Some v → ReadsSubmodule name c r
no_memory name c v (Ok x) is found = absurd is
no_memory name c v (Err e) is found = (v, found, λ n. absurd (n is))

-- The value under a text is the one that the code's `find` returns.
pub held-find :
    (name : List ℕ) (ps : List (Value × Value))
    → held_under name (value_pairs ps) ≡ option_map (λ p. value_item p.1) (find (λ p. is_text name (value_item p.0)) ps)
held-find name [] = refl
held-find name (p ∷ ps) =
    ap (cond (is_text name (value_item p.0)) (Some (value_item p.1))) (held-find name ps)
    ∙ cond-map (λ q. value_item q.1) (is_text name (value_item p.0)) p (find (λ q. is_text name (value_item q.0)) ps)
