-- The structure of a ciphertext's additional authenticated data (RFC 8152, section 5.3).
use Rattle.std.specs.Prelude.{◌≡◌, ℕ, List, [], ◌∷◌, Option, None, option_map, codes}
use Rattle.coset_value.specs.Item.{Item}
use Rattle.coset_core.specs.Headers.{ProtectedView, protected_bytes}
use Rattle.coset_core.specs.Structure.{structure}
use Rattle.coset_msg.specs.declared.enc_structure.EncryptionContext.{EncryptionContext}
use Rattle.coset_msg.specs.declared.enc_structure.EncryptionContext.TheVariants.{CoseEncrypt, CoseEncrypt0, EncRecipient, MacRecipient, RecRecipient}

-- context : "Encrypt" / "Encrypt0" / "Enc_Recipient" / "Mac_Recipient" / "Rec_Recipient"
abbrev pub enc_text : EncryptionContext → List ℕ
enc_text CoseEncrypt = codes "Encrypt"
enc_text CoseEncrypt0 = codes "Encrypt0"
enc_text EncRecipient = codes "Enc_Recipient"
enc_text MacRecipient = codes "Mac_Recipient"
enc_text RecRecipient = codes "Rec_Recipient"

-- Enc_structure: the context, protected : bstr, external_aad : bstr
abbrev pub enc_structure : EncryptionContext → List ℕ → List ℕ → Item
enc_structure context protected external_aad = structure (enc_text context) (protected ∷ external_aad ∷ [])

-- The structure over the protected bytes of a header. `None` if the header has no protected bytes.
abbrev pub enc_item : EncryptionContext → ProtectedView → List ℕ → Option Item
enc_item context p external_aad = option_map (λ b. enc_structure context b external_aad) (protected_bytes p)

-- The two headers give the same structure, in each context and for any `external_aad`.
abbrev pub EncryptsSame : ProtectedView → ProtectedView → Type 0
EncryptsSame p q = (context : EncryptionContext) (external_aad : List ℕ) → enc_item context p external_aad ≡ enc_item context q external_aad

-- The header gives a structure, in each context and for any `external_aad`.
abbrev pub Encrypts : ProtectedView → Type 0
Encrypts p = (context : EncryptionContext) (external_aad : List ℕ) → enc_item context p external_aad ≡ None → ⊥
