-- The structures that are signed, authenticated, or go with a ciphertext, for a message or a recipient that isn't made
-- yet (RFC 8152, sections 4.4, 5.3 and 6.3).
use Rattle.std.specs.Prelude.{◌≡◌, ◌⊎◌, ⊤, ℕ, List, [], ◌∷◌, Option, Some, None, Result, Ok, Err, codes}
use Rattle.coset.specs.Item.{Item}
use Rattle.coset.specs.CoseError.{CoseError}
use Rattle.coset.specs.Errors.{UnlessMemory}
use Rattle.coset.specs.Structure.{structure}
use Rattle.ffi_query.specs.declared.kind.Kind as kinds
use Rattle.ffi_query.specs.declared.kind.Kind.TheVariants.{Sign1, Sign, Mac0, Mac, Encrypt0, Encrypt, Recipient, Header}
use Rattle.ffi_query.specs.declared.refusal.Refusal as refusals
use Rattle.ffi_query.specs.Results.{IsEncodingOf}
use Rattle.ffi_query.specs.Kinds.{IsOf, IsRefused}
use Rattle.ffi_make.specs.Makes.{RefusesInputs, Writes}

-- The content of a protected header's byte string: a header, or nothing (RFC 8152, section 3).
abbrev pub IsHeader : List ℕ → Type 0
IsHeader [] = ⊤
IsHeader (x ∷ xs) = IsOf Header (x ∷ xs)

-- The bytes are refused as such a content.
abbrev pub HeaderFaults : List ℕ → CoseError → Type 0
HeaderFaults [] e = ⊥
HeaderFaults (x ∷ xs) e = IsRefused Header (x ∷ xs) e

abbrev pub ChecksHeader : List ℕ → Result (Unit {0}) CoseError → Type 0
ChecksHeader b (Ok x) = IsHeader b
ChecksHeader b (Err e) = UnlessMemory e (HeaderFaults b)

-- The structure, if the part that it has no place for isn't given.
abbrev pub without : List ℕ → Option Item → Option Item
without [] o = o
without (x ∷ xs) o = None

-- MAC_structure, and Sig_structure without a signer's header: [context, protected, external_aad, payload].
abbrev pub over_content : List ℕ → List ℕ → List ℕ → List ℕ → List ℕ → Option Item
over_content context p q aad c = without q (Some (structure context (p ∷ aad ∷ c ∷ [])))

-- Enc_structure: [context, protected, external_aad]
abbrev pub beside_ciphertext : List ℕ → List ℕ → List ℕ → List ℕ → List ℕ → Option Item
beside_ciphertext context p q aad c = without q (without c (Some (structure context (p ∷ aad ∷ []))))

-- Sig_structure: [context, body_protected, sign_protected, external_aad, payload]
abbrev pub of_signer : List ℕ → List ℕ → List ℕ → List ℕ → Option Item
of_signer p q aad c = Some (structure (codes "Signature") (p ∷ q ∷ aad ∷ c ∷ []))

-- The structure of a message of kind k with the protected header p. The signer's protected header is q. The structure
-- is over external_aad and the content c.
abbrev pub structure_made : kinds.Kind → List ℕ → List ℕ → List ℕ → List ℕ → Option Item
structure_made (Sign1 f) p q aad c = over_content (codes "Signature1") p q aad c
structure_made (Sign f) p q aad c = of_signer p q aad c
structure_made (Mac0 f) p q aad c = over_content (codes "MAC0") p q aad c
structure_made (Mac f) p q aad c = over_content (codes "MAC") p q aad c
structure_made (Encrypt0 f) p q aad c = beside_ciphertext (codes "Encrypt0") p q aad c
structure_made (Encrypt f) p q aad c = beside_ciphertext (codes "Encrypt") p q aad c
structure_made k p q aad c = None

-- Enc_structure of a recipient: [context, protected, external_aad]
abbrev pub of_recipient : List ℕ → List ℕ → List ℕ → Option Item
of_recipient context p aad = Some (structure context (p ∷ aad ∷ []))

-- The structure of a recipient with this protected header, by the kind that contains it.
abbrev pub recipient_structure_made : kinds.Kind → List ℕ → List ℕ → Option Item
recipient_structure_made (Encrypt f) p aad = of_recipient (codes "Enc_Recipient") p aad
recipient_structure_made (Mac f) p aad = of_recipient (codes "Mac_Recipient") p aad
recipient_structure_made Recipient p aad = of_recipient (codes "Rec_Recipient") p aad
recipient_structure_made k p aad = None

-- The text is the item's shortest encoding. `None`: there is no item.
abbrev pub FindsEncoding : {T : Type 0} → (T → List ℕ) → Option Item → Option T → Type 0
FindsEncoding text_of o (Some x) = IsEncodingOf o (text_of x)
FindsEncoding text_of o None = o ≡ None

-- Writing the shortest encoding of an item. `Absent`: there is no item.
abbrev pub WritesItem : Option Item → List ℕ → List ℕ → Result ℕ refusals.Refusal → Type 0
WritesItem o old new r = Writes (IsEncodingOf o) (o ≡ None) (λ e. ⊥) old new r

-- The result of `structure_of` for the protected headers p of a message and q of a signer. It is the structure's
-- shortest encoding, or there is no structure, or p or q isn't a header.
abbrev pub MakesStructure : kinds.Kind → List ℕ → List ℕ → List ℕ → List ℕ → List ℕ → List ℕ → Result ℕ refusals.Refusal → Type 0
MakesStructure k p q aad c old new r =
    (IsHeader p × IsHeader q × WritesItem (structure_made k p q aad c) old new r) ⊎ RefusesInputs (λ e. HeaderFaults p e ⊎ HeaderFaults q e) old new r

-- The result of `recipient_structure_of` for the protected header p of a recipient. It is the structure's shortest
-- encoding, or there is no structure, or p isn't a header.
abbrev pub MakesRecipientStructure : kinds.Kind → List ℕ → List ℕ → List ℕ → List ℕ → Result ℕ refusals.Refusal → Type 0
MakesRecipientStructure h p aad old new r =
    (IsHeader p × WritesItem (recipient_structure_made h p aad) old new r) ⊎ RefusesInputs (HeaderFaults p) old new r
