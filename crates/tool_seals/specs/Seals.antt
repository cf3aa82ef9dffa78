-- Seals: the signatures, MACs and ciphertexts of messages, each with the bytes that it covers.
use Rattle.std.specs.Prelude.{◌≡◌, ◌++◌, ℕ, List, [], ◌∷◌, Option, Some, None, Bool, true, false, option_map}
use Rattle.std.specs.List.{slice_get}
use Rattle.coset.specs.Calls.{IsStructure}
use Rattle.coset.specs.Encrypt.{encrypt, encrypt_view}
use Rattle.coset.specs.Encrypt0.{encrypt0, encrypt0_view}
use Rattle.coset.specs.Headers.{HeaderView, ProtectedView, SignatureView}
use Rattle.coset.specs.Item.{Item}
use Rattle.coset.specs.Mac.{mac, mac_structure_of, mac_view}
use Rattle.coset.specs.Mac0.{mac0, mac0_structure, mac0_view}
use Rattle.coset.specs.PerhapsTagged.{perhaps_tagged}
use Rattle.coset.specs.Recipient.{RecipientView}
use Rattle.coset.specs.Results.{Describes}
use Rattle.coset.specs.Sign.{sign, sign_view, signer_structure}
use Rattle.coset.specs.Sign1.{sign1, sign1_structure, sign1_view}
use Rattle.coset.specs.Views.{header_view, protected_view}
use Rattle.cwt_keys.specs.Sealed.{SealView, parts}
use Rattle.cwt_keys.specs.declared.form.Form.{Form}
use Rattle.cwt_keys.specs.declared.form.Form.TheVariants as forms
use Rattle.tool_seals.specs.declared.message.Message.{Message}
use Rattle.tool_seals.specs.declared.message.Message.TheVariants as messages
use Rattle.tool_seals.specs.declared.seal.Part.{Part}
use Rattle.tool_seals.specs.declared.seal.Part.TheVariants as part
use Rattle.tool_seals.specs.declared.seal.Seal.{Seal}

-- ---- the view of a seal

abbrev pub structure_of : Seal → Option (List ℕ)
structure_of s = option_map (λ b. b.items) s.structure

-- The bytes of a structure. They are empty if there is none.
abbrev pub bytes_or_none : Option (List ℕ) → List ℕ
bytes_or_none None = []
bytes_or_none (Some b) = b

-- The parts of a seal that decide which key fits it.
abbrev pub parts_of : Seal → SealView
parts_of s =
    parts s.form (protected_view s.protected) (header_view s.unprotected) s.proof.items (bytes_or_none (structure_of s)) (option_map header_view s.recipient)

-- ---- the seals of a message

-- The structure over the content, in its shortest encoding. There is none if the content is detached.
abbrev pub Covers : Option (List ℕ) → (List ℕ → Option Item) → Option (List ℕ) → Type 0
Covers None structure o = o ≡ None
Covers (Some content) structure o = (b : List ℕ) × (o ≡ Some b) × IsStructure (structure content) b

-- The seal has these parts, and covers the structure over the content.
abbrev pub IsSealed : Form → ProtectedView → HeaderView → List ℕ → Option HeaderView → Option (List ℕ) → (List ℕ → Option Item) → Seal → Type 0
IsSealed form protected unprotected proof recipient content structure s =
    (parts_of s ≡ parts form protected unprotected proof (bytes_or_none (structure_of s)) recipient) × Covers content structure (structure_of s)

-- The unprotected header of the recipient, if there is exactly one.
abbrev pub only_header : List RecipientView → Option HeaderView
only_header [] = None
only_header (r ∷ []) = Some r.unprotected
only_header (r ∷ s ∷ rs) = None

-- The seal is the signature of the message, over the structure with this `external_aad`.
abbrev pub IsSignatureOf : Message → List ℕ → Seal → Type 0
IsSignatureOf (messages.Sign1 m) aad s =
    let v = sign1_view m in
    IsSealed forms.Sign1 v.protected v.unprotected v.signature None v.payload (sign1_structure v aad) s
IsSignatureOf m aad s = ⊥

-- The seal is the signature at this index.
abbrev pub IsSignerOf : Message → List ℕ → ℕ → Seal → Type 0
IsSignerOf (messages.Sign m) aad i s =
    let v = sign_view m in
    (c : SignatureView) × (slice_get v.signatures i ≡ Some c)
    × IsSealed forms.Sign c.protected c.unprotected c.signature None v.payload (signer_structure v c aad) s
IsSignerOf m aad i s = ⊥

-- The seal is the MAC.
abbrev pub IsTagOf : Message → List ℕ → Seal → Type 0
IsTagOf (messages.Mac0 m) aad s =
    let v = mac0_view m in
    IsSealed forms.Mac0 v.protected v.unprotected v.tag None v.payload (mac0_structure v aad) s
IsTagOf (messages.Mac m) aad s =
    let v = mac_view m in
    IsSealed forms.Mac v.protected v.unprotected v.tag (only_header v.recipients) v.payload (mac_structure_of v aad) s
IsTagOf m aad s = ⊥

-- The seal is this part of the message, over the structure with this `external_aad`. This says nothing about a
-- ciphertext and about countersignatures.
abbrev pub IsPartOf : Part → Message → List ℕ → Seal → Type 0
IsPartOf part.Signature m aad s = IsSignatureOf m aad s
IsPartOf (part.Signer i) m aad s = IsSignerOf m aad i s
IsPartOf part.Tag m aad s = IsTagOf m aad s
IsPartOf p m aad s = Unit {0}

-- The seal is of the layer, and the part of the message that it says.
abbrev pub IsPart : ℕ → Message → List ℕ → Seal → Type 0
IsPart layer m aad s = (s.layer ≡ layer) × IsPartOf s.part m aad s

-- The part is a countersignature.
abbrev pub is_countersignature : Part → Bool
is_countersignature (part.Countersignature i) = true
is_countersignature (part.CountersignatureV2 i) = true
is_countersignature part.AbbreviatedV2 = true
is_countersignature p = false

-- The seal is a countersignature of the message of this layer.
abbrev pub IsCountersignature : ℕ → Seal → Type 0
IsCountersignature layer s = (s.layer ≡ layer) × (is_countersignature s.part ≡ true)

-- ---- the message that is read

-- The bytes describe this message of the form, plain or under its tag.
abbrev pub IsRead : Form → List ℕ → Message → Type 0
IsRead forms.Sign1 bytes (messages.Sign1 m) = Describes (perhaps_tagged 18 sign1) bytes (sign1_view m)
IsRead forms.Mac0 bytes (messages.Mac0 m) = Describes (perhaps_tagged 17 mac0) bytes (mac0_view m)
IsRead forms.Encrypt0 bytes (messages.Encrypt0 m) = Describes (perhaps_tagged 16 encrypt0) bytes (encrypt0_view m)
IsRead forms.Sign bytes (messages.Sign m) = Describes (perhaps_tagged 98 sign) bytes (sign_view m)
IsRead forms.Mac bytes (messages.Mac m) = Describes (perhaps_tagged 97 mac) bytes (mac_view m)
IsRead forms.Encrypt bytes (messages.Encrypt m) = Describes (perhaps_tagged 96 encrypt) bytes (encrypt_view m)
IsRead f bytes m = ⊥

-- The bytes, or a suffix of them, describe this message of some form.
abbrev pub IsReadSomehow : List ℕ → Message → Type 0
IsReadSomehow bytes m = (f : Form) × (front : List ℕ) × (rest : List ℕ) × (bytes ≡ front ++ rest) × IsRead f rest m

-- The same, for the form that was asked for.
abbrev pub IsOutermost : Option Form → List ℕ → Message → Type 0
IsOutermost (Some f) bytes m = IsRead f bytes m
IsOutermost None bytes m = IsReadSomehow bytes m
