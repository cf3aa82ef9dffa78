-- The structure that is signed (RFC 8152, section 4.4).
use Rattle.std.specs.Prelude.{ℕ, List, [], ◌∷◌, Option, Some, None, codes}
use Rattle.coset_value.specs.Item.{Item}
use Rattle.coset_sign.specs.declared.signature.SignatureContext.{SignatureContext}
use Rattle.coset_sign.specs.declared.signature.SignatureContext.TheVariants.{CoseSignature, CoseSign1, CounterSignature}
use Rattle.coset_core.specs.Structure.{structure}

-- context : "Signature" / "Signature1" / "CounterSignature"
abbrev pub context_text : SignatureContext → List ℕ
context_text CoseSignature = codes "Signature"
context_text CoseSign1 = codes "Signature1"
context_text CounterSignature = codes "CounterSignature"

-- body_protected : bstr, ? sign_protected : bstr, external_aad : bstr, payload : bstr
abbrev pub signed_parts : List ℕ → Option (List ℕ) → List ℕ → List ℕ → List (List ℕ)
signed_parts body None external_aad payload = body ∷ external_aad ∷ payload ∷ []
signed_parts body (Some signer) external_aad payload = body ∷ signer ∷ external_aad ∷ payload ∷ []

-- Sig_structure: the context, and then these parts
abbrev pub signature_structure : SignatureContext → List ℕ → Option (List ℕ) → List ℕ → List ℕ → Item
signature_structure context body signer external_aad payload = structure (context_text context) (signed_parts body signer external_aad payload)
