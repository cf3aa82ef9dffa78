-- The structures that countersignatures of version 2 sign: those with other fields of RFC 9338, section 3.3.
use Rattle.std.specs.Prelude.{◌≡◌, ℕ, List, Option, Some, None, Bool, true, false, is_some, option_map, codes}
use Rattle.coset_value.specs.Item.{Item, array, no_items, item}
use Rattle.coset_codec.specs.Shape.{both}
use Rattle.coset_core.specs.Headers.{HeaderView, ProtectedView, protected_bytes}
use Rattle.coset_core.specs.Kept.{EachSignature, SignaturesReadAs}
use Rattle.coset_core.specs.Structure.{byte_strings, structure_and}
use Rattle.coset_sign.specs.SignatureStructure.{signed_parts}
use Rattle.coset_sign.specs.Signed.{signed_item}
use Rattle.coset_sign.specs.declared.signature.SignatureContext.TheVariants.{CounterSignature}

-- context : "CounterSignatureV2" / "CounterSignature0V2": with a signer's header, or without
abbrev pub countersign_text : Bool → List ℕ
countersign_text true = codes "CounterSignatureV2"
countersign_text false = codes "CounterSignature0V2"

-- Countersign_structure: the context, body_protected : bstr, ? sign_protected : bstr, external_aad : bstr,
-- payload : bstr, other_fields : [* bstr]
abbrev pub countersign_structure : List ℕ → Option (List ℕ) → List ℕ → List ℕ → List (List ℕ) → Item
countersign_structure body signer external_aad payload others =
    structure_and (countersign_text (is_some signer)) (signed_parts body signer external_aad payload) (item (array (byte_strings others)) no_items)

-- The structure over the protected bytes of the body and, if there is one, of the signer. `None` if a header has no
-- protected bytes.
abbrev pub countersigned_item : ProtectedView → Option ProtectedView → List ℕ → List ℕ → List (List ℕ) → Option Item
countersigned_item body None external_aad payload others = option_map (λ p. countersign_structure p None external_aad payload others) (protected_bytes body)
countersigned_item body (Some signer) external_aad payload others =
    both (λ p q. countersign_structure p (Some q) external_aad payload others) (protected_bytes body) (protected_bytes signer)

-- ---- whether structures exist, and are the same

-- A countersignature of the body by the signer has a structure, whatever its other parts are. This holds for counter
-- signatures (RFC 8152, section 4.5) and for version 2.
pub record Countersigns (body signer : ProtectedView) : Type 0 where
  pub first_version : (external_aad payload : List ℕ) → signed_item CounterSignature body (Some signer) external_aad payload ≡ None → ⊥
  pub second_version : (external_aad payload : List ℕ) (others : List (List ℕ)) → countersigned_item body (Some signer) external_aad payload others ≡ None → ⊥

-- An abbreviated countersignature of the body has a structure, whatever its other parts are.
abbrev pub Abbreviates : ProtectedView → Type 0
Abbreviates body = (external_aad payload : List ℕ) (others : List (List ℕ)) → countersigned_item body None external_aad payload others ≡ None → ⊥

-- Countersignatures of `body` by `signer` and of `other_body` by `other_signer` have the same structure, whatever the
-- other parts are. This holds for counter signatures (RFC 8152, section 4.5) and for version 2.
pub record CountersignsSame (body signer other_body other_signer : ProtectedView) : Type 0 where
  pub first_version : (external_aad payload : List ℕ)
      → signed_item CounterSignature body (Some signer) external_aad payload ≡ signed_item CounterSignature other_body (Some other_signer) external_aad payload
  pub second_version : (external_aad payload : List ℕ) (others : List (List ℕ))
      → countersigned_item body (Some signer) external_aad payload others ≡ countersigned_item other_body (Some other_signer) external_aad payload others

-- Abbreviated countersignatures of `body` and of `other_body` have the same structure, whatever the other parts are.
abbrev pub AbbreviatesSame : ProtectedView → ProtectedView → Type 0
AbbreviatesSame body other_body = (external_aad payload : List ℕ) (others : List (List ℕ))
    → countersigned_item body None external_aad payload others ≡ countersigned_item other_body None external_aad payload others

-- Each countersignature of the body in the header h has a structure, and so has an abbreviated one.
abbrev pub EachCountersigns : ProtectedView → HeaderView → Type 0
EachCountersigns body h = Abbreviates body × EachSignature (λ s. Countersigns body s.protected) h

-- The header h was written with countersignatures of the body, and g was read with those of the other body. Each
-- countersignature in h has the same structure as its counterpart in g. Abbreviated countersignatures of the two bodies
-- have the same structure too.
abbrev pub EachCountersignsSame : ProtectedView → HeaderView → ProtectedView → HeaderView → Type 0
EachCountersignsSame body h other_body g =
    AbbreviatesSame body other_body × SignaturesReadAs (λ s t. CountersignsSame body s.protected other_body t.protected) h g
