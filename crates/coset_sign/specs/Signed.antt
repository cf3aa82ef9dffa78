-- The structure to be signed, over the protected bytes of headers (RFC 8152, section 4.4).
use Rattle.std.specs.Prelude.{◌≡◌, ℕ, List, [], Option, Some, None, option_map}
use Rattle.coset_value.specs.Item.{Item}
use Rattle.coset_codec.specs.Shape.{both}
use Rattle.coset_core.specs.Headers.{ProtectedView, protected_bytes}
use Rattle.coset_sign.specs.SignatureStructure.{signature_structure}
use Rattle.coset_sign.specs.declared.signature.SignatureContext.{SignatureContext}

-- The structure over the protected bytes of the body and, if there is one, of the signer. `None` if a header has no
-- protected bytes.
abbrev pub signed_item : SignatureContext → ProtectedView → Option ProtectedView → List ℕ → List ℕ → Option Item
signed_item context body None external_aad payload = option_map (λ p. signature_structure context p None external_aad payload) (protected_bytes body)
signed_item context body (Some signer) external_aad payload =
    both (λ p q. signature_structure context p (Some q) external_aad payload) (protected_bytes body) (protected_bytes signer)

-- The payload. A missing payload counts as empty.
abbrev pub or_empty : Option (List ℕ) → List ℕ
or_empty None = []
or_empty (Some s) = s

-- The two headers give the same structure as a body, whatever its other parts are.
abbrev pub SignsSame : ProtectedView → ProtectedView → Type 0
SignsSame p q = (context : SignatureContext) (signer : Option ProtectedView) (external_aad payload : List ℕ)
    → signed_item context p signer external_aad payload ≡ signed_item context q signer external_aad payload
