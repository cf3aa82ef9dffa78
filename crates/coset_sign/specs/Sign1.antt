-- COSE_Sign1 messages (RFC 8152, section 4.2).
use Rattle.std.specs.Prelude.{◌≡◌, ℕ, List, [], Option, None, option_map, refl}
use Rattle.coset_value.specs.Item.{Item}
use Rattle.coset_codec.specs.Shape.{Shape, Elements, mapped, ◌then◌, end, bstr, or_nil}
use Rattle.coset_codec.specs.ShapeLaws.{Lawful, LawfulElements, bytes_no_nil, mapped_laws, then_laws, end_laws, bstr_laws, or_nil_laws}
use Rattle.coset_core.specs.Headers.{HeaderView, ProtectedView, empty_header}
use Rattle.coset_core.specs.Messages.{WithHeaders, with_headers, with_headers_laws, empty_protected}
use Rattle.coset_core.specs.Views.{header_view, protected_view}
use Rattle.coset_sign.specs.Signed.{signed_item, or_empty}
use Rattle.coset_sign.specs.declared.sign1.CoseSign1 as declared
use Rattle.coset_sign.specs.declared.signature.SignatureContext.TheVariants.{CoseSign1}

-- The view of a message.
pub record Sign1View : Type 0 where
  pub protected : ProtectedView
  pub unprotected : HeaderView
  pub payload : Option (List ℕ)
  pub signature : List ℕ

abbrev pub sign1_view : declared.CoseSign1 → Sign1View
sign1_view m = record {
  protected = protected_view m.protected;
  unprotected = header_view m.unprotected;
  payload = option_map (λ b. b.items) m.payload;
  signature = m.signature.items;
}

-- The empty message.
abbrev pub empty_sign1 : Sign1View
empty_sign1 = record { protected = empty_protected; unprotected = empty_header; payload = None; signature = [] }

abbrev pub sign1_of : WithHeaders (Option (List ℕ) × (List ℕ × Unit {0})) → Sign1View
sign1_of p = record { protected = p.0; unprotected = p.1.0; payload = p.1.1.0; signature = p.1.1.1.0 }

abbrev pub sign1_fields : Sign1View → WithHeaders (Option (List ℕ) × (List ℕ × Unit {0}))
sign1_fields m = (m.protected, (m.unprotected, (m.payload, (m.signature, tt))))

-- payload : bstr / nil, signature : bstr
abbrev pub sign1_elements : Elements (Option (List ℕ) × (List ℕ × Unit {0}))
sign1_elements = or_nil bstr then bstr then end

pub sign1_elements_laws : LawfulElements _ sign1_elements
sign1_elements_laws = then_laws _ _ (or_nil_laws bstr bytes_no_nil bstr_laws) (then_laws _ _ bstr_laws end_laws)

-- [Headers, payload : bstr / nil, signature : bstr]
abbrev pub sign1 : Shape Sign1View
sign1 = mapped sign1_of sign1_fields (with_headers sign1_elements)

pub sign1_laws : Lawful Sign1View sign1
sign1_laws = mapped_laws sign1_of sign1_fields (λ x. refl) _ (with_headers_laws sign1_elements sign1_elements_laws)

-- The second message has the payload and the signature of the first.
abbrev pub SamePayloadAndSignature : Sign1View → Sign1View → Type 0
SamePayloadAndSignature m n = (n.payload ≡ m.payload) × (n.signature ≡ m.signature)

-- ---- the structure to be signed

-- The structure of the message over `external_aad` and a payload. `None` if its protected header has no protected
-- bytes.
abbrev pub sign1_structure : Sign1View → List ℕ → List ℕ → Option Item
sign1_structure m external_aad payload = signed_item CoseSign1 m.protected None external_aad payload

-- The same over the message's own payload. A missing payload counts as empty.
abbrev pub sign1_attached : Sign1View → List ℕ → Option Item
sign1_attached m external_aad = sign1_structure m external_aad (or_empty m.payload)

-- ---- one field set

-- The message with this signature, and its other fields unchanged.
abbrev pub with_signature : List ℕ → Sign1View → Sign1View
with_signature s m = record m { signature = s }
