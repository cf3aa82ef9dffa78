-- Recipients (RFC 8152, section 5.1).
use Rattle.std.specs.Prelude.{ℕ, List, [], ◌∷◌, Bool, true, false, Option, Some, None, option_map}
use Rattle.coset_value.specs.Item.{Item, array, Items, no_items, item}
use Rattle.coset_codec.specs.Recursive.{recursive}
use Rattle.coset_codec.specs.Shape.{Shape, Elements, mapped, both, ◌then◌, bstr, or_nil, optional_last, last_image, list_of}
use Rattle.coset_core.specs.Headers.{HeaderView, ProtectedView, empty_header, header, protected}
use Rattle.coset_core.specs.Messages.{WithHeaders, with_headers, empty_protected}
use Rattle.coset_msg.specs.EncStructure.{enc_item}
use Rattle.coset_msg.specs.declared.enc_structure.EncryptionContext.{EncryptionContext}
use Rattle.coset_msg.specs.declared.enc_structure.EncryptionContext.TheVariants.{CoseEncrypt, CoseEncrypt0, EncRecipient, MacRecipient, RecRecipient}

-- ---- views of recipients

-- A list of recipients. Each has a protected header, an unprotected header, a ciphertext, and nested recipients.
pub data Recipients : Type 0 where
  no_recipients : Recipients
  recipient_and : ProtectedView → HeaderView → Option (List ℕ) → Recipients → Recipients → Recipients

-- The view of a recipient.
pub record RecipientView : Type 0 where
  pub protected : ProtectedView
  pub unprotected : HeaderView
  pub ciphertext : Option (List ℕ)
  pub recipients : Recipients

abbrev pub and_recipients : RecipientView → Recipients → Recipients
and_recipients r more = recipient_and r.protected r.unprotected r.ciphertext r.recipients more

abbrev pub recipients_of : List RecipientView → Recipients
recipients_of [] = no_recipients
recipients_of (r ∷ rs) = and_recipients r (recipients_of rs)

-- The recipients as a list.
abbrev pub each_of : Recipients → List RecipientView
each_of no_recipients = []
each_of (recipient_and p u c inside more) = record { protected = p; unprotected = u; ciphertext = c; recipients = inside } ∷ each_of more

abbrev pub are_none : Recipients → Bool
are_none no_recipients = true
are_none (recipient_and p u c inside more) = false

-- The empty recipient.
abbrev pub empty_recipient : RecipientView
empty_recipient = record { protected = empty_protected; unprotected = empty_header; ciphertext = None; recipients = no_recipients }

-- ---- which items represent recipients

abbrev pub are_some : {A : Type 0} → List A → Bool
are_some [] = false
are_some (x ∷ xs) = true

abbrev pub recipient_of : WithHeaders (Option (List ℕ) × List RecipientView) → RecipientView
recipient_of p = record { protected = p.0; unprotected = p.1.0; ciphertext = p.1.1.0; recipients = recipients_of p.1.1.1 }

abbrev pub recipient_fields : RecipientView → WithHeaders (Option (List ℕ) × List RecipientView)
recipient_fields r = (r.protected, (r.unprotected, (r.ciphertext, each_of r.recipients)))

-- ciphertext : bstr / nil, ? recipients, with s as their shape. An empty list is left out.
abbrev pub recipient_elements : Shape (List RecipientView) → Elements (Option (List ℕ) × List RecipientView)
recipient_elements s = or_nil bstr then optional_last [] are_some s

abbrev pub recipient_with : Shape (List RecipientView) → Shape RecipientView
recipient_with s = mapped recipient_of recipient_fields (with_headers (recipient_elements s))

-- [Headers, ciphertext : bstr / nil, ? recipients : [* COSE_recipient]], with s as the shape of the nested recipients
abbrev pub recipient_step : Shape RecipientView → Shape RecipientView
recipient_step s = recipient_with (list_of s)

-- ---- images of recipients

-- The optional last element, if there are nested recipients: an array of these items.
abbrev pub recipients_element : Recipients → Option Items → Option Items
recipients_element no_recipients o = Some no_items
recipients_element (recipient_and p u c inside more) o = last_image true (option_map array o)

abbrev pub recipient_array : ProtectedView → HeaderView → Option (List ℕ) → Option Items → Option Item
recipient_array p u c o = option_map array (both item (protected.image p) (both item (header.image u) (both item ((or_nil bstr).image c) o)))

abbrev pub recipients_image : Recipients → Option Items
recipients_image no_recipients = Some no_items
recipients_image (recipient_and p u c inside more) =
    both item (recipient_array p u c (recipients_element inside (recipients_image inside))) (recipients_image more)

abbrev pub recipient_image : RecipientView → Option Item
recipient_image r = recipient_array r.protected r.unprotected r.ciphertext (recipients_element r.recipients (recipients_image r.recipients))

-- ---- the shape

-- COSE_recipient, with recipients nested to any depth.
unfoldable pub recipient : Shape RecipientView
recipient = recursive recipient_step recipient_image

-- ---- the additional authenticated data

-- The three contexts of a recipient.
abbrev pub IsOfRecipient : EncryptionContext → Type 0
IsOfRecipient CoseEncrypt = ⊥
IsOfRecipient CoseEncrypt0 = ⊥
IsOfRecipient EncRecipient = Unit {0}
IsOfRecipient MacRecipient = Unit {0}
IsOfRecipient RecRecipient = Unit {0}

-- The structure of the recipient over `external_aad`. `None` if its protected header has no protected bytes.
abbrev pub recipient_structure : EncryptionContext → RecipientView → List ℕ → Option Item
recipient_structure context r external_aad = enc_item context r.protected external_aad

-- ---- one field set, and one more recipient

-- The recipient with this ciphertext, and its other fields unchanged.
abbrev pub with_ciphertext : List ℕ → RecipientView → RecipientView
with_ciphertext c r = record r { ciphertext = Some c }

-- The recipients with this one after the others.
abbrev pub then_recipient : Recipients → RecipientView → Recipients
then_recipient no_recipients r = and_recipients r no_recipients
then_recipient (recipient_and p u c inside more) r = recipient_and p u c inside (then_recipient more r)

-- The recipient with one more nested recipient after the others.
abbrev pub push_recipient : RecipientView → RecipientView → RecipientView
push_recipient r all = record all { recipients = then_recipient all.recipients r }
