-- COSE_Sign messages (RFC 8152, section 4.1).
use Rattle.std.specs.Prelude.{◌≡◌, ℕ, List, [], ◌∷◌, ◌++◌, map, Option, Some, None, option_map, refl}
use Rattle.coset_value.specs.Item.{Item}
use Rattle.coset_codec.specs.Errors.{IsUnexpected}
use Rattle.coset_codec.specs.Lists.{EachHas, EachWith}
use Rattle.coset_codec.specs.Shape.{Shape, Elements, mapped, masked, list_of, ◌then◌, end, bstr, or_nil}
use Rattle.coset_codec.specs.ShapeLaws.{Lawful, LawfulElements, bytes_no_nil, mapped_laws, masked_laws}
use Rattle.coset_codec.specs.ShapeLaws.{list_of_laws, then_laws, end_laws, bstr_laws, or_nil_laws}
use Rattle.coset_core.specs.Headers.{HeaderView, ProtectedView, SignatureView, empty_header, signature}
use Rattle.coset_core.specs.HeaderLaws.{signature_laws}
use Rattle.coset_core.specs.Messages.{WithHeaders, with_headers, with_headers_laws, empty_protected}
use Rattle.coset_core.specs.Views.{header_view, protected_view, signature_view}
use Rattle.coset_sign.specs.Signed.{signed_item, or_empty}
use Rattle.coset_sign.specs.declared.sign.CoseSign.{CoseSign}
use Rattle.coset_sign.specs.declared.signature.SignatureContext.TheVariants.{CoseSignature}

-- The view of a message.
pub record SignView : Type 0 where
  pub protected : ProtectedView
  pub unprotected : HeaderView
  pub payload : Option (List ℕ)
  pub signatures : List SignatureView

abbrev pub sign_view : CoseSign → SignView
sign_view m = record {
  protected = protected_view m.protected;
  unprotected = header_view m.unprotected;
  payload = option_map (λ b. b.items) m.payload;
  signatures = map signature_view m.signatures.items;
}

-- The empty message.
abbrev pub empty_sign : SignView
empty_sign = record { protected = empty_protected; unprotected = empty_header; payload = None; signatures = [] }

abbrev pub sign_of : WithHeaders (Option (List ℕ) × (List SignatureView × Unit {0})) → SignView
sign_of p = record { protected = p.0; unprotected = p.1.0; payload = p.1.1.0; signatures = p.1.1.1.0 }

abbrev pub sign_fields : SignView → WithHeaders (Option (List ℕ) × (List SignatureView × Unit {0}))
sign_fields m = (m.protected, (m.unprotected, (m.payload, (m.signatures, tt))))

-- The shape of COSE_Signature. Its errors say only that an item is no signature, and not why.
abbrev pub masked_signature : Shape SignatureView
masked_signature = masked IsUnexpected signature

-- payload : bstr / nil, signatures : [* COSE_Signature]
abbrev pub sign_elements : Elements (Option (List ℕ) × (List SignatureView × Unit {0}))
sign_elements = or_nil bstr then list_of masked_signature then end

pub sign_elements_laws : LawfulElements _ sign_elements
sign_elements_laws =
    then_laws _ _ (or_nil_laws bstr bytes_no_nil bstr_laws)
    (then_laws _ _ (list_of_laws masked_signature (masked_laws IsUnexpected signature signature_laws)) end_laws)

-- [Headers, payload : bstr / nil, signatures : [* COSE_Signature]]
abbrev pub sign : Shape SignView
sign = mapped sign_of sign_fields (with_headers sign_elements)

pub sign_laws : Lawful SignView sign
sign_laws = mapped_laws sign_of sign_fields (λ x. refl) _ (with_headers_laws sign_elements sign_elements_laws)

-- ---- the structures to be signed

-- The structure that one signature of the message signs, over `external_aad` and a payload. `None` if a protected
-- header has no protected bytes.
abbrev pub signer_structure : SignView → SignatureView → List ℕ → List ℕ → Option Item
signer_structure m s external_aad payload = signed_item CoseSignature m.protected (Some s.protected) external_aad payload

-- The same over the message's own payload. A missing payload counts as empty.
abbrev pub signer_attached : SignView → SignatureView → List ℕ → Option Item
signer_attached m s external_aad = signer_structure m s external_aad (or_empty m.payload)

-- The messages have the same number of signatures. Each signature has the same structure as its counterpart, for any
-- `external_aad` and payload.
abbrev pub EachSignsSame : SignView → SignView → Type 0
EachSignsSame m n = EachWith (λ s t. (external_aad payload : List ℕ)
    → signer_structure m s external_aad payload ≡ signer_structure n t external_aad payload) m.signatures n.signatures

-- Each signature of the message has a structure, for any `external_aad` and payload.
abbrev pub EachSigns : SignView → Type 0
EachSigns m = EachHas (λ s. (external_aad payload : List ℕ) → signer_structure m s external_aad payload ≡ None → ⊥) m.signatures

-- ---- one more signature

-- The message with this signature after the others.
abbrev pub push_signature : SignatureView → SignView → SignView
push_signature s m = record m { signatures = m.signatures ++ s ∷ [] }

-- The signature with these bytes, and its other fields unchanged.
abbrev pub signed_with : List ℕ → SignatureView → SignatureView
signed_with b s = record s { signature = b }
