-- Layers of a token: messages with a signature, with a MAC, or encrypted, or with a list of signatures or of recipients
-- (RFC 8392, sections 6 and 7).
use Rattle.std.specs.Prelude.{◌==◌, ℕ, List, [], ◌∷◌, ◌/◌, Option, Some, None, Bool, true, false, is_some, if◌then◌else◌}
use Rattle.coset.specs.CoseError.{CoseError}
use Rattle.coset.specs.Encrypt.{EncryptView, encrypt, encrypt_view}
use Rattle.coset.specs.Encrypt0.{Encrypt0View, encrypt0, encrypt0_view}
use Rattle.coset.specs.Headers.{HeaderView, ProtectedView, SignatureView}
use Rattle.coset.specs.Item.{Item}
use Rattle.coset.specs.Mac.{MacView, mac, mac_view}
use Rattle.coset.specs.Mac0.{Mac0View, mac0, mac0_view}
use Rattle.coset.specs.Parts.{as_tag}
use Rattle.coset.specs.Shape.{Shape}
use Rattle.coset.specs.Recipient.{RecipientView}
use Rattle.coset.specs.RecipientViews.{recipient_view}
use Rattle.coset.specs.Sign.{SignView, sign, sign_view}
use Rattle.coset.specs.Sign1.{Sign1View, sign1, sign1_view}
use Rattle.coset.specs.Views.{signature_view}
use Rattle.cwt_verify.specs.Admission.{HeadersView}
use Rattle.cwt_verify.specs.declared.layer.Layer as declared
use Rattle.cwt_verify.specs.declared.layer.Layer.TheVariants as layers
use Rattle.cwt_verify.specs.declared.layer.Part as declared_part
use Rattle.cwt_verify.specs.declared.layer.Part.TheVariants as parts
use Rattle.cwt_keys.specs.declared.form.Form.{Form}
use Rattle.cwt_keys.specs.declared.form.Form.TheVariants.{Sign1, Mac0, Encrypt0, Sign, Mac, Encrypt}

-- The view of a layer.
pub data LayerView : Type 0 where
  signed : Sign1View → LayerView
  macced : Mac0View → LayerView
  encrypted : Encrypt0View → LayerView
  signed_by : SignView → LayerView
  macced_for : MacView → LayerView
  encrypted_for : EncryptView → LayerView

abbrev pub layer_view : declared.Layer → LayerView
layer_view (layers.Sign1 m) = signed (sign1_view m)
layer_view (layers.Mac0 m) = macced (mac0_view m)
layer_view (layers.Encrypt0 m) = encrypted (encrypt0_view m)
layer_view (layers.Sign m) = signed_by (sign_view m)
layer_view (layers.Mac m) = macced_for (mac_view m)
layer_view (layers.Encrypt m) = encrypted_for (encrypt_view m)

-- The view of the part of a layer that keys receive: the layer itself, one of its signatures, or its recipient.
pub data PartView : Type 0 where
  whole : PartView
  by_signature : SignatureView → PartView
  for_recipient : RecipientView → PartView

abbrev pub part_view : declared_part.Part → PartView
part_view parts.Whole = whole
part_view (parts.Signature s) = by_signature (signature_view s)
part_view (parts.Recipient r) = for_recipient (recipient_view r)

abbrev pub form_of : LayerView → Form
form_of (signed m) = Sign1
form_of (macced m) = Mac0
form_of (encrypted m) = Encrypt0
form_of (signed_by m) = Sign
form_of (macced_for m) = Mac
form_of (encrypted_for m) = Encrypt

abbrev pub protected_of : LayerView → ProtectedView
protected_of (signed m) = m.protected
protected_of (macced m) = m.protected
protected_of (encrypted m) = m.protected
protected_of (signed_by m) = m.protected
protected_of (macced_for m) = m.protected
protected_of (encrypted_for m) = m.protected

abbrev pub unprotected_of : LayerView → HeaderView
unprotected_of (signed m) = m.unprotected
unprotected_of (macced m) = m.unprotected
unprotected_of (encrypted m) = m.unprotected
unprotected_of (signed_by m) = m.unprotected
unprotected_of (macced_for m) = m.unprotected
unprotected_of (encrypted_for m) = m.unprotected

-- The form that the algorithm in the protected header must be for. A list of signatures needs no algorithm there, since
-- each signature names its own (RFC 9052, section 4.1).
abbrev pub named_by : LayerView → Option Form
named_by (signed m) = Some Sign1
named_by (macced m) = Some Mac0
named_by (encrypted m) = Some Encrypt0
named_by (signed_by m) = None
named_by (macced_for m) = Some Mac
named_by (encrypted_for m) = Some Encrypt

abbrev pub headers_of : LayerView → HeadersView
headers_of l = record { form = named_by l; protected = (protected_of l).header; unprotected = unprotected_of l }

-- The payload of a message with signatures or a MAC, or the ciphertext of an encrypted one.
abbrev pub attached : LayerView → Option (List ℕ)
attached (signed m) = m.payload
attached (macced m) = m.payload
attached (encrypted m) = m.ciphertext
attached (signed_by m) = m.payload
attached (macced_for m) = m.payload
attached (encrypted_for m) = m.ciphertext

-- The recipients, if the layer's form has a list of them.
abbrev pub recipients_in : LayerView → Option (List RecipientView)
recipients_in (signed m) = None
recipients_in (macced m) = None
recipients_in (encrypted m) = None
recipients_in (signed_by m) = None
recipients_in (macced_for m) = Some m.recipients
recipients_in (encrypted_for m) = Some m.recipients

-- ---- shapes

-- The form with a list that the tag `number` names (RFC 8152, section 2).
abbrev pub list_form : ℕ → Option Form
list_form number = if number == 98 then Some Sign else (if number == 97 then Some Mac else (if number == 96 then Some Encrypt else None))

-- The form that the tag `number` names (RFC 8152, section 2). Forms with a list are named only if `lists` is true.
abbrev pub named_form : Bool → ℕ → Option Form
named_form lists number =
    if number == 18 then Some Sign1
    else (if number == 17 then Some Mac0 else (if number == 16 then Some Encrypt0 else (if lists then list_form number else None)))

-- The form of the item `v`, and the item of its message. An item under the tag of a form has that form. Any other item
-- has the form that the application expects (RFC 8392, section 7.2, step 3).
abbrev pub by_name : Form → Item → Item → Option Form → Form × Item
by_name plain v inner None = (plain, v)
by_name plain v inner (Some form) = (form, inner)

abbrev pub by_tag : Bool → Form → Item → Option (ℕ × Item) → Form × Item
by_tag lists plain v None = (plain, v)
by_tag lists plain v (Some t) = by_name plain v t.1 (named_form lists t.0)

abbrev pub message_in : Bool → Form → Item → Form × Item
message_in lists plain v = by_tag lists plain v (as_tag v)

-- Returns true if there is a tag, and it names a form.
abbrev pub names_form : Bool → Option (ℕ × Item) → Bool
names_form lists None = false
names_form lists (Some t) = is_some (named_form lists t.0)

-- Removes the tag of web tokens if the tag of a form follows (RFC 8392, section 6). Any other item stays as it is.
abbrev pub without_cwt_tag : Bool → Item → Option (ℕ × Item) → Item
without_cwt_tag lists v None = v
without_cwt_tag lists v (Some t) = if t.0 == 61 then (if names_form lists (as_tag t.1) then t.1 else v) else v

-- The item of a layer. Only the outermost layer may be under the tag of web tokens.
abbrev pub layer_item : Bool → Bool → Item → Item
layer_item lists true v = without_cwt_tag lists v (as_tag v)
layer_item lists false v = v

-- The item is the message of a layer of this form.
abbrev pub DescribesAs : Form × Item → LayerView → Type 0
DescribesAs (Sign1, v) (signed m) = sign1.describes v m
DescribesAs (Mac0, v) (macced m) = mac0.describes v m
DescribesAs (Encrypt0, v) (encrypted m) = encrypt0.describes v m
DescribesAs (Sign, v) (signed_by m) = sign.describes v m
DescribesAs (Mac, v) (macced_for m) = mac.describes v m
DescribesAs (Encrypt, v) (encrypted_for m) = encrypt.describes v m
DescribesAs x l = ⊥

-- The faults of the item of a message of this form.
abbrev pub FaultsAs : Form × Item → CoseError → Type 0
FaultsAs (Sign1, v) e = sign1.faults v e
FaultsAs (Mac0, v) e = mac0.faults v e
FaultsAs (Encrypt0, v) e = encrypt0.faults v e
FaultsAs (Sign, v) e = sign.faults v e
FaultsAs (Mac, v) e = mac.faults v e
FaultsAs (Encrypt, v) e = encrypt.faults v e

-- COSE_Sign1 / COSE_Mac0 / COSE_Encrypt0, and if `lists` is true COSE_Sign / COSE_Mac / COSE_Encrypt, under its own tag.
-- An item without such a tag is a message of the form `plain`. The outermost layer may also be under tag 61 on top of
-- its own tag. This shape is never written.
abbrev pub layer : Bool → Form → Bool → Shape LayerView
layer lists plain outermost = record {
  describes = λ v l. DescribesAs (message_in lists plain (layer_item lists outermost v)) l;
  image = λ l. None;
  faults = λ v e. FaultsAs (message_in lists plain (layer_item lists outermost v)) e;
}

-- Returns true if the bytes begin with a tag, whose major type is 6 (RFC 8949, section 3.1).
abbrev pub begins_with_tag : List ℕ → Bool
begins_with_tag [] = false
begins_with_tag (b ∷ bs) = b / 32 == 6
