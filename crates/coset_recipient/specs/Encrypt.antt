-- COSE_Encrypt messages (RFC 8152, section 5.1).
use Rattle.std.specs.Prelude.{ℕ, List, [], ◌∷◌, ◌++◌, Option, Some, None, map, option_map, refl}
use Rattle.coset_value.specs.Item.{Item}
use Rattle.coset_codec.specs.Shape.{Shape, Elements, mapped, ◌then◌, end, bstr, list_of, or_nil}
use Rattle.coset_codec.specs.ShapeLaws.{Lawful, LawfulElements, bytes_no_nil, mapped_laws, then_laws, end_laws, bstr_laws, list_of_laws, or_nil_laws}
use Rattle.coset_core.specs.Headers.{HeaderView, ProtectedView, empty_header}
use Rattle.coset_core.specs.Messages.{WithHeaders, with_headers, with_headers_laws, empty_protected}
use Rattle.coset_core.specs.Views.{header_view, protected_view}
use Rattle.coset_msg.specs.EncStructure.{enc_item}
use Rattle.coset_recipient.specs.declared.encrypt.CoseEncrypt as declared
use Rattle.coset_msg.specs.declared.enc_structure.EncryptionContext.TheVariants.{CoseEncrypt}
use Rattle.coset_recipient.specs.Recipient.{RecipientView, recipient}
use Rattle.coset_recipient.specs.RecipientLaws.{recipient_laws}
use Rattle.coset_recipient.specs.RecipientViews.{recipient_view}

-- The view of a message.
pub record EncryptView : Type 0 where
  pub protected : ProtectedView
  pub unprotected : HeaderView
  pub ciphertext : Option (List ℕ)
  pub recipients : List RecipientView

abbrev pub encrypt_view : declared.CoseEncrypt → EncryptView
encrypt_view m = record {
  protected = protected_view m.protected;
  unprotected = header_view m.unprotected;
  ciphertext = option_map (λ b. b.items) m.ciphertext;
  recipients = map recipient_view m.recipients.items;
}

-- The empty message.
abbrev pub empty_encrypt : EncryptView
empty_encrypt = record { protected = empty_protected; unprotected = empty_header; ciphertext = None; recipients = [] }

abbrev pub encrypt_of : WithHeaders (Option (List ℕ) × (List RecipientView × Unit {0})) → EncryptView
encrypt_of p = record { protected = p.0; unprotected = p.1.0; ciphertext = p.1.1.0; recipients = p.1.1.1.0 }

abbrev pub encrypt_fields : EncryptView → WithHeaders (Option (List ℕ) × (List RecipientView × Unit {0}))
encrypt_fields m = (m.protected, (m.unprotected, (m.ciphertext, (m.recipients, tt))))

-- ciphertext : bstr / nil, recipients : [* COSE_recipient]
abbrev pub encrypt_elements : Elements (Option (List ℕ) × (List RecipientView × Unit {0}))
encrypt_elements = or_nil bstr then list_of recipient then end

pub encrypt_elements_laws : LawfulElements _ encrypt_elements
encrypt_elements_laws = then_laws _ _ (or_nil_laws bstr bytes_no_nil bstr_laws) (then_laws _ _ (list_of_laws recipient recipient_laws) end_laws)

-- [Headers, ciphertext : bstr / nil, recipients : [* COSE_recipient]]
abbrev pub encrypt : Shape EncryptView
encrypt = mapped encrypt_of encrypt_fields (with_headers encrypt_elements)

pub encrypt_laws : Lawful EncryptView encrypt
encrypt_laws = mapped_laws encrypt_of encrypt_fields (λ x. refl) _ (with_headers_laws encrypt_elements encrypt_elements_laws)

-- ---- the additional authenticated data

-- The structure of the message over `external_aad`. `None` if its protected header has no protected bytes.
abbrev pub encrypt_structure_of : EncryptView → List ℕ → Option Item
encrypt_structure_of m external_aad = enc_item CoseEncrypt m.protected external_aad

-- ---- one field set, and one more recipient

-- The message with this ciphertext, and its other fields unchanged.
abbrev pub with_ciphertext : List ℕ → EncryptView → EncryptView
with_ciphertext c m = record m { ciphertext = Some c }

-- The message with this recipient after the others.
abbrev pub and_encrypt_recipient : RecipientView → EncryptView → EncryptView
and_encrypt_recipient r m = record m { recipients = m.recipients ++ r ∷ [] }
