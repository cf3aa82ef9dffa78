-- COSE_Encrypt0 messages (RFC 8152, section 5.2).
use Rattle.std.specs.Prelude.{ℕ, List, Option, Some, None, option_map, refl}
use Rattle.coset_value.specs.Item.{Item}
use Rattle.coset_codec.specs.Shape.{Shape, Elements, mapped, ◌then◌, end, bstr, or_nil}
use Rattle.coset_codec.specs.ShapeLaws.{Lawful, LawfulElements, bytes_no_nil, mapped_laws, then_laws, end_laws, bstr_laws, or_nil_laws}
use Rattle.coset_core.specs.Headers.{HeaderView, ProtectedView, empty_header}
use Rattle.coset_core.specs.Messages.{WithHeaders, with_headers, with_headers_laws, empty_protected}
use Rattle.coset_core.specs.Views.{header_view, protected_view}
use Rattle.coset_msg.specs.EncStructure.{enc_item}
use Rattle.coset_msg.specs.declared.encrypt0.CoseEncrypt0 as declared
use Rattle.coset_msg.specs.declared.enc_structure.EncryptionContext.TheVariants.{CoseEncrypt0}

-- The view of a message.
pub record Encrypt0View : Type 0 where
  pub protected : ProtectedView
  pub unprotected : HeaderView
  pub ciphertext : Option (List ℕ)

abbrev pub encrypt0_view : declared.CoseEncrypt0 → Encrypt0View
encrypt0_view m = record {
  protected = protected_view m.protected;
  unprotected = header_view m.unprotected;
  ciphertext = option_map (λ b. b.items) m.ciphertext;
}

-- The empty message.
abbrev pub empty_encrypt0 : Encrypt0View
empty_encrypt0 = record { protected = empty_protected; unprotected = empty_header; ciphertext = None }

abbrev pub encrypt0_of : WithHeaders (Option (List ℕ) × Unit {0}) → Encrypt0View
encrypt0_of p = record { protected = p.0; unprotected = p.1.0; ciphertext = p.1.1.0 }

abbrev pub encrypt0_fields : Encrypt0View → WithHeaders (Option (List ℕ) × Unit {0})
encrypt0_fields m = (m.protected, (m.unprotected, (m.ciphertext, tt)))

-- ciphertext : bstr / nil
abbrev pub encrypt0_elements : Elements (Option (List ℕ) × Unit {0})
encrypt0_elements = or_nil bstr then end

pub encrypt0_elements_laws : LawfulElements _ encrypt0_elements
encrypt0_elements_laws = then_laws _ _ (or_nil_laws bstr bytes_no_nil bstr_laws) end_laws

-- [Headers, ciphertext : bstr / nil]
abbrev pub encrypt0 : Shape Encrypt0View
encrypt0 = mapped encrypt0_of encrypt0_fields (with_headers encrypt0_elements)

pub encrypt0_laws : Lawful Encrypt0View encrypt0
encrypt0_laws = mapped_laws encrypt0_of encrypt0_fields (λ x. refl) _ (with_headers_laws encrypt0_elements encrypt0_elements_laws)

-- ---- the additional authenticated data

-- The structure of the message over `external_aad`. `None` if its protected header has no protected bytes.
abbrev pub encrypt0_structure : Encrypt0View → List ℕ → Option Item
encrypt0_structure m external_aad = enc_item CoseEncrypt0 m.protected external_aad

-- ---- one field set

-- The message with this ciphertext, and its other fields unchanged.
abbrev pub with_ciphertext : List ℕ → Encrypt0View → Encrypt0View
with_ciphertext c m = record m { ciphertext = Some c }
