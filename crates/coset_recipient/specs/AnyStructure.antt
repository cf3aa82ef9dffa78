-- The structures of all twelve contexts (RFC 8152, sections 4.4, 5.3 and 6.3, and countersignatures of version 2).
use Rattle.std.specs.Prelude.{ℕ, List, Option}
use Rattle.coset_value.specs.Item.{Item}
use Rattle.coset_sign.specs.Countersigned.{countersign_structure}
use Rattle.coset_sign.specs.SignatureStructure.{signature_structure}
use Rattle.coset_sign.specs.declared.signature.SignatureContext.{SignatureContext}
use Rattle.coset_msg.specs.EncStructure.{enc_structure}
use Rattle.coset_msg.specs.MacStructure.{mac_structure}
use Rattle.coset_msg.specs.declared.enc_structure.EncryptionContext.{EncryptionContext}
use Rattle.coset_msg.specs.declared.mac_structure.MacContext.{MacContext}

-- A context and its parts.
-- - `signed`: the body, the signer if there is one, `external_aad`, the payload.
-- - `authenticated`: the protected bytes, `external_aad`, the payload.
-- - `encrypted`: the protected bytes, `external_aad`.
-- - `countersigned`, of version 2: the body, the signer if there is one, `external_aad`, the payload, the other fields.
pub data AnyStructure : Type 0 where
  signed : SignatureContext → List ℕ → Option (List ℕ) → List ℕ → List ℕ → AnyStructure
  authenticated : MacContext → List ℕ → List ℕ → List ℕ → AnyStructure
  encrypted : EncryptionContext → List ℕ → List ℕ → AnyStructure
  countersigned : List ℕ → Option (List ℕ) → List ℕ → List ℕ → List (List ℕ) → AnyStructure

-- The structure of this context and these parts.
abbrev pub structure_of : AnyStructure → Item
structure_of (signed context body signer external_aad payload) = signature_structure context body signer external_aad payload
structure_of (authenticated context protected external_aad payload) = mac_structure context protected external_aad payload
structure_of (encrypted context protected external_aad) = enc_structure context protected external_aad
structure_of (countersigned body signer external_aad payload others) = countersign_structure body signer external_aad payload others
