-- Attestation tokens (EAT, RFC 9711), and those of PSA (RFC 9783).
use Rattle.std.specs.Prelude.{◌≡◌, ◌==◌, ◌≤◌, ℕ, ℤ, List, [], ◌∷◌, length, Bool, false, Option, Some, None, Result, Ok, Err, if◌then◌else◌}
use Rattle.std.specs.Cmp.Lexicographic.{pointwise}
use Rattle.std.specs.Map.{lookup}
use Rattle.std.specs.Option.{option_and_then}
use Rattle.coset_value.specs.Item.{Item, text, Pairs, no_pairs, pair}
use Rattle.coset_value.specs.Parts.{as_bytes, as_integer, as_map, as_text}
use Rattle.coset_iana.specs.CwtClaimName as claim_names
use Rattle.coset_iana.specs.declared.algorithms.Algorithm.TheVariants.{ES256, HMAC_256_256}
use Rattle.coset_iana.specs.declared.claims.CwtClaimName.{CwtClaimName}
use Rattle.coset_iana.specs.declared.claims.CwtClaimName.TheVariants.{Nonce, SubmodulesSection}
use Rattle.coset_codec.specs.Errors.{UnlessMemory}
use Rattle.coset_codec.specs.declared.error.CoseError.{CoseError}
use Rattle.coset_label.specs.LabelData.{assigned}
use Rattle.coset_claims.specs.Claims.{ClaimsView, claims, claims_view, same_label}
use Rattle.coset_claims.specs.declared.claims_set.ClaimsSet.{ClaimsSet}
use Rattle.cwt_keys.specs.Keys.{KeysView}
use Rattle.cwt_verify.specs.Policy.{PolicyView, strict}
use Rattle.cwt_verify.specs.Verify.{VerifiesToken}
use Rattle.cwt_verify.specs.declared.token.VerifiedToken.{VerifiedToken}
use Rattle.example_uses.specs.declared.attestation.NotAttested.{NotAttested}
use Rattle.example_uses.specs.declared.attestation.NotAttested.TheVariants.{Refused, NotFresh}

-- ---- claims by their registered names

-- The value of the claim of this name.
abbrev pub claim_of : CwtClaimName → ClaimsView → Option Item
claim_of name c = lookup (same_label (assigned (claim_names.number name))) c.rest

-- The claim's bytes, if it is a byte string.
abbrev pub bytes_of : CwtClaimName → ClaimsView → Option (List ℕ)
bytes_of name c = option_and_then as_bytes (claim_of name c)

-- The claim's number, if it is an integer.
abbrev pub integer_of : CwtClaimName → ClaimsView → Option ℤ
integer_of name c = option_and_then as_integer (claim_of name c)

-- The claim's UTF-8 bytes, if it is a text.
abbrev pub text_of : CwtClaimName → ClaimsView → Option (List ℕ)
text_of name c = option_and_then as_text (claim_of name c)

-- A nonce has 8 to 64 bytes (RFC 9711, section 4.1).
abbrev pub IsNonce : List ℕ → Type 0
IsNonce nonce = (8 ≤ length nonce) × (length nonce ≤ 64)

-- The claims have this nonce, and no other.
abbrev pub IsFresh : List ℕ → ClaimsView → Type 0
IsFresh nonce c = IsNonce nonce × (bytes_of Nonce c ≡ Some nonce)

-- ---- submodules (RFC 9711, section 4.2.18)

-- The item is this text.
abbrev pub is_text : List ℕ → Item → Bool
is_text name (text s) = pointwise ◌==◌ s name
is_text name v = false

-- The value of the first pair with this text as its key.
abbrev pub held_under : List ℕ → Pairs → Option Item
held_under name no_pairs = None
held_under name (pair k v ps) = if is_text name k then Some v else held_under name ps

-- The submodule of this name.
abbrev pub submodule_of : List ℕ → ClaimsView → Option Item
submodule_of name c = option_and_then (held_under name) (option_and_then as_map (claim_of SubmodulesSection c))

-- The result for the submodule of this name: its claims, or `None` if there is no such submodule. Unless it is
-- `OutOfMemory`, an error names a fault that the submodule has as a claims set.
abbrev pub ReadsSubmodule : List ℕ → ClaimsView → Result (Option ClaimsSet) CoseError → Type 0
ReadsSubmodule name c (Ok None) = submodule_of name c ≡ None
ReadsSubmodule name c (Ok (Some x)) = (v : Item) × (submodule_of name c ≡ Some v) × claims.describes v (claims_view x)
ReadsSubmodule name c (Err e) = (v : Item) × (submodule_of name c ≡ Some v) × UnlessMemory e (claims.faults v)

-- ---- the token

-- The strict policy with these algorithms and a leeway of one minute. Tokens may lack an expiration time.
abbrev pub attestation_policy : PolicyView
attestation_policy = record strict {
  algorithms = ES256 ∷ HMAC_256_256 ∷ [];
  require_exp = false;
  leeway = 60;
}

-- The result for the token b at a moment. The token is verified by the policy and has this nonce; or it is refused; or
-- it is verified, but doesn't have this nonce and no other, or the nonce is no nonce.
abbrev pub VerifiesAttestation : {E : Type 0} → KeysView E → List ℕ → ℤ → List ℕ → Result VerifiedToken (NotAttested E) → Type 0
VerifiesAttestation k nonce now b (Ok t) = VerifiesToken k attestation_policy now b (Ok t) × IsFresh nonce (claims_view t.claims)
VerifiesAttestation k nonce now b (Err (Refused e)) = VerifiesToken k attestation_policy now b (Err e)
VerifiesAttestation k nonce now b (Err NotFresh) =
    (t : VerifiedToken) × VerifiesToken k attestation_policy now b (Ok t) × (IsFresh nonce (claims_view t.claims) → ⊥)
