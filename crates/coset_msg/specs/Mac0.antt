-- COSE_Mac0 messages (RFC 8152, section 6.2).
use Rattle.std.specs.Prelude.{ℕ, List, [], Option, None, option_map, refl}
use Rattle.coset_value.specs.Item.{Item}
use Rattle.coset_codec.specs.Shape.{Shape, Elements, mapped, ◌then◌, end, bstr, or_nil}
use Rattle.coset_codec.specs.ShapeLaws.{Lawful, LawfulElements, bytes_no_nil, mapped_laws, then_laws, end_laws, bstr_laws, or_nil_laws}
use Rattle.coset_core.specs.Headers.{HeaderView, ProtectedView, empty_header}
use Rattle.coset_core.specs.Messages.{WithHeaders, with_headers, with_headers_laws, empty_protected}
use Rattle.coset_core.specs.Views.{header_view, protected_view}
use Rattle.coset_msg.specs.MacStructure.{mac_item}
use Rattle.coset_msg.specs.declared.mac0.CoseMac0 as declared
use Rattle.coset_msg.specs.declared.mac_structure.MacContext.TheVariants.{CoseMac0}

-- The view of a message.
pub record Mac0View : Type 0 where
  pub protected : ProtectedView
  pub unprotected : HeaderView
  pub payload : Option (List ℕ)
  pub tag : List ℕ

abbrev pub mac0_view : declared.CoseMac0 → Mac0View
mac0_view m = record {
  protected = protected_view m.protected;
  unprotected = header_view m.unprotected;
  payload = option_map (λ b. b.items) m.payload;
  tag = m.tag.items;
}

-- The empty message.
abbrev pub empty_mac0 : Mac0View
empty_mac0 = record { protected = empty_protected; unprotected = empty_header; payload = None; tag = [] }

abbrev pub mac0_of : WithHeaders (Option (List ℕ) × (List ℕ × Unit {0})) → Mac0View
mac0_of p = record { protected = p.0; unprotected = p.1.0; payload = p.1.1.0; tag = p.1.1.1.0 }

abbrev pub mac0_fields : Mac0View → WithHeaders (Option (List ℕ) × (List ℕ × Unit {0}))
mac0_fields m = (m.protected, (m.unprotected, (m.payload, (m.tag, tt))))

-- payload : bstr / nil, tag : bstr
abbrev pub mac0_elements : Elements (Option (List ℕ) × (List ℕ × Unit {0}))
mac0_elements = or_nil bstr then bstr then end

pub mac0_elements_laws : LawfulElements _ mac0_elements
mac0_elements_laws = then_laws _ _ (or_nil_laws bstr bytes_no_nil bstr_laws) (then_laws _ _ bstr_laws end_laws)

-- [Headers, payload : bstr / nil, tag : bstr]
abbrev pub mac0 : Shape Mac0View
mac0 = mapped mac0_of mac0_fields (with_headers mac0_elements)

pub mac0_laws : Lawful Mac0View mac0
mac0_laws = mapped_laws mac0_of mac0_fields (λ x. refl) _ (with_headers_laws mac0_elements mac0_elements_laws)

-- ---- the structure to be authenticated

-- The structure of the message over `external_aad` and a payload. `None` if its protected header has no protected
-- bytes.
abbrev pub mac0_structure : Mac0View → List ℕ → List ℕ → Option Item
mac0_structure m external_aad payload = mac_item CoseMac0 m.protected external_aad payload

-- ---- one field set

-- The message with this tag, and its other fields unchanged.
abbrev pub with_tag : List ℕ → Mac0View → Mac0View
with_tag t m = record m { tag = t }
