-- COSE_Mac messages (RFC 8152, section 6.1).
use Rattle.std.specs.Prelude.{ℕ, List, [], ◌∷◌, ◌++◌, Option, None, map, option_map, refl}
use Rattle.coset_value.specs.Item.{Item}
use Rattle.coset_codec.specs.Shape.{Shape, Elements, mapped, ◌then◌, end, bstr, list_of, or_nil}
use Rattle.coset_codec.specs.ShapeLaws.{Lawful, LawfulElements, bytes_no_nil, mapped_laws, then_laws, end_laws, bstr_laws, list_of_laws, or_nil_laws}
use Rattle.coset_core.specs.Headers.{HeaderView, ProtectedView, empty_header}
use Rattle.coset_core.specs.Messages.{WithHeaders, with_headers, with_headers_laws, empty_protected}
use Rattle.coset_core.specs.Views.{header_view, protected_view}
use Rattle.coset_msg.specs.MacStructure.{mac_item}
use Rattle.coset_recipient.specs.declared.mac.CoseMac as declared
use Rattle.coset_msg.specs.declared.mac_structure.MacContext.TheVariants.{CoseMac}
use Rattle.coset_recipient.specs.Recipient.{RecipientView, recipient}
use Rattle.coset_recipient.specs.RecipientLaws.{recipient_laws}
use Rattle.coset_recipient.specs.RecipientViews.{recipient_view}

-- The view of a message.
pub record MacView : Type 0 where
  pub protected : ProtectedView
  pub unprotected : HeaderView
  pub payload : Option (List ℕ)
  pub tag : List ℕ
  pub recipients : List RecipientView

abbrev pub mac_view : declared.CoseMac → MacView
mac_view m = record {
  protected = protected_view m.protected;
  unprotected = header_view m.unprotected;
  payload = option_map (λ b. b.items) m.payload;
  tag = m.tag.items;
  recipients = map recipient_view m.recipients.items;
}

-- The empty message.
abbrev pub empty_mac : MacView
empty_mac = record { protected = empty_protected; unprotected = empty_header; payload = None; tag = []; recipients = [] }

abbrev pub mac_of : WithHeaders (Option (List ℕ) × (List ℕ × (List RecipientView × Unit {0}))) → MacView
mac_of p = record { protected = p.0; unprotected = p.1.0; payload = p.1.1.0; tag = p.1.1.1.0; recipients = p.1.1.1.1.0 }

abbrev pub mac_fields : MacView → WithHeaders (Option (List ℕ) × (List ℕ × (List RecipientView × Unit {0})))
mac_fields m = (m.protected, (m.unprotected, (m.payload, (m.tag, (m.recipients, tt)))))

-- payload : bstr / nil, tag : bstr, recipients : [* COSE_recipient]
abbrev pub mac_elements : Elements (Option (List ℕ) × (List ℕ × (List RecipientView × Unit {0})))
mac_elements = or_nil bstr then bstr then list_of recipient then end

pub mac_elements_laws : LawfulElements _ mac_elements
mac_elements_laws =
    then_laws _ _ (or_nil_laws bstr bytes_no_nil bstr_laws) (then_laws _ _ bstr_laws (then_laws _ _ (list_of_laws recipient recipient_laws) end_laws))

-- [Headers, payload : bstr / nil, tag : bstr, recipients : [* COSE_recipient]]
abbrev pub mac : Shape MacView
mac = mapped mac_of mac_fields (with_headers mac_elements)

pub mac_laws : Lawful MacView mac
mac_laws = mapped_laws mac_of mac_fields (λ x. refl) _ (with_headers_laws mac_elements mac_elements_laws)

-- ---- the structure to be authenticated

-- The structure of the message over `external_aad` and a payload. `None` if its protected header has no protected
-- bytes.
abbrev pub mac_structure_of : MacView → List ℕ → List ℕ → Option Item
mac_structure_of m external_aad payload = mac_item CoseMac m.protected external_aad payload

-- ---- one field set, and one more recipient

-- The message with this tag, and its other fields unchanged.
abbrev pub with_tag : List ℕ → MacView → MacView
with_tag t m = record m { tag = t }

-- The message with this recipient after the others.
abbrev pub and_mac_recipient : RecipientView → MacView → MacView
and_mac_recipient r m = record m { recipients = m.recipients ++ r ∷ [] }
