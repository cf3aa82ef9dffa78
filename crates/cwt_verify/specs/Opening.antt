-- A layer that is opened by keys.
use Rattle.std.specs.Prelude.{◌≡◌, ◌≤◌, ◌<◌, ℕ, List, [], length, Result, Ok, Err, Option, Some, None, Vec}
use Rattle.std.specs.Global.{Global}
use Rattle.coset.specs.Calls.{IsStructure}
use Rattle.coset.specs.CoseError.{CoseError}
use Rattle.coset.specs.Encoding.{HasNoImage}
use Rattle.coset.specs.Encrypt.{encrypt_structure_of}
use Rattle.coset.specs.Encrypt0.{encrypt0_structure}
use Rattle.coset.specs.Headers.{HeaderView, ProtectedView}
use Rattle.coset.specs.Item.{Item}
use Rattle.coset.specs.Mac.{mac_structure_of}
use Rattle.coset.specs.Mac0.{mac0_structure}
use Rattle.coset.specs.Recipient.{RecipientView}
use Rattle.coset.specs.Sign.{SignView}
use Rattle.coset.specs.Sign1.{sign1_structure}
use Rattle.coset.specs.Views.{header_view, protected_view}
use Rattle.cwt_keys.specs.Keys.{KeysView, Name, name_view}
use Rattle.cwt_keys.specs.Sealed.{SealView}
use Rattle.cwt_keys.specs.declared.form.Form.{Form}
use Rattle.cwt_keys.specs.declared.form.Form.TheVariants.{Sign1, Mac0, Encrypt0, Mac, Encrypt}
use Rattle.cwt_verify.specs.Layers.{LayerView, signed, macced, encrypted, signed_by, macced_for, encrypted_for}
use Rattle.cwt_verify.specs.Layers.{PartView, whole, by_signature, for_recipient, part_view, attached, form_of, protected_of, recipients_in, unprotected_of}
use Rattle.cwt_verify.specs.Policy.{PolicyView}
use Rattle.cwt_verify.specs.Recipients.{only_direct}
use Rattle.cwt_verify.specs.Signatures.{MAX_SIGNATURES, IsFirst, IsLast, LacksStructure, RefusesParts}
use Rattle.cwt_verify.specs.declared.error.LayerError.{LayerError}
use Rattle.cwt_verify.specs.declared.error.LayerError.TheVariants.{Message, Recipients, NoPayload, NoSignature, TooManySignatures, Keys}
use Rattle.cwt_verify.specs.declared.layer.OpenedLayer.{OpenedLayer}
use Rattle.cwt_verify.specs.declared.layer.VerifiedLayer.{VerifiedLayer}

-- ---- one question to the keys: all forms but the list of signatures

-- The layer carries some content `c`, and the structure for it has the bytes `t`. `R` holds for both.
abbrev pub Carries : Option (List ℕ) → (List ℕ → Option Item) → (List ℕ → List ℕ → Type 0) → Type 0
Carries carried structure R = (c t : List ℕ) × (carried ≡ Some c) × IsStructure (structure c) t × R c t

-- The keys receive this part of the layer. `R` holds for the content that the layer carries, and for the parts that the
-- keys receive. `external_aad` is empty in the structure (RFC 8152, sections 4.4, 6.3 and 5.3).
abbrev pub Receives : LayerView → PartView → (List ℕ → SealView → Type 0) → Type 0
Receives (signed m) whole R =
    Carries m.payload (sign1_structure m [])
    (λ c t. R c (record { form = Sign1; protected = m.protected; unprotected = m.unprotected; proof = m.signature; structure = t; recipient = None }))
Receives (macced m) whole R =
    Carries m.payload (mac0_structure m [])
    (λ c t. R c (record { form = Mac0; protected = m.protected; unprotected = m.unprotected; proof = m.tag; structure = t; recipient = None }))
Receives (encrypted m) whole R =
    Carries m.ciphertext (λ c. encrypt0_structure m [])
    (λ c t. R c (record { form = Encrypt0; protected = m.protected; unprotected = m.unprotected; proof = c; structure = t; recipient = None }))
Receives (macced_for m) (for_recipient r) R =
    (only_direct m.recipients ≡ Some r)
    × Carries m.payload (mac_structure_of m [])
    (λ c t. R c (record { form = Mac; protected = m.protected; unprotected = m.unprotected; proof = m.tag; structure = t; recipient = Some r.unprotected }))
Receives (encrypted_for m) (for_recipient r) R =
    (only_direct m.recipients ≡ Some r)
    × Carries m.ciphertext (λ c. encrypt_structure_of m [])
    (λ c t. R c (record { form = Encrypt; protected = m.protected; unprotected = m.unprotected; proof = c; structure = t; recipient = Some r.unprotected }))
Receives l x R = ⊥

-- The keys accept the parts `s` of a layer that carries `c`, for the issuer of this name. The layer's content `p` is `c`
-- itself, or the decrypted plaintext.
abbrev pub Accept : {E : Type 0} → KeysView E → LayerView → List ℕ → Name → List ℕ → SealView → Type 0
Accept k (encrypted m) p n c s = k.decrypts s p n
Accept k (encrypted_for m) p n c s = k.decrypts s p n
Accept k l p n c s = k.accepts s n × (p ≡ c)

-- ---- the layer

-- The message carries the content `c`, and at most sixteen signatures.
abbrev pub CarriesFew : SignView → List ℕ → Type 0
CarriesFew m c = (m.payload ≡ Some c) × (length m.signatures ≤ MAX_SIGNATURES)

-- The keys accept this part of the layer for the issuer of this name, and `content` is the layer's content. Of a list of
-- signatures, it is the first one that the policy admits and the keys accept. There are at most sixteen.
abbrev pub HasContent : {E : Type 0} → KeysView E → PolicyView → LayerView → List ℕ → PartView → Name → Type 0
HasContent k p (signed_by m) content (by_signature s) n = CarriesFew m content × IsFirst k p m.protected content m.signatures s n
HasContent k p l content x n = Receives l x (λ c s. Accept k l content n c s)

-- The layer has a list of recipients, but not exactly one that is `direct`.
abbrev pub LacksRecipient : Option (List RecipientView) → Type 0
LacksRecipient None = ⊥
LacksRecipient (Some rs) = only_direct rs ≡ None

-- The layer has a recipient, if its form has a list of them.
abbrev pub HasRecipient : Option (List RecipientView) → Type 0
HasRecipient None = Unit {0}
HasRecipient (Some rs) = (r : RecipientView) × (only_direct rs ≡ Some r)

-- The list of signatures is empty, and the message carries a payload.
abbrev pub LacksSignature : LayerView → Type 0
LacksSignature (signed_by m) = (c : List ℕ) × (m.payload ≡ Some c) × (m.signatures ≡ [])
LacksSignature l = ⊥

-- The list of signatures is too long, and the message carries a payload.
abbrev pub HasManySignatures : LayerView → Type 0
HasManySignatures (signed_by m) = (c : List ℕ) × (m.payload ≡ Some c) × (MAX_SIGNATURES < length m.signatures)
HasManySignatures l = ⊥

-- Each of the signatures is refused, the last one for this reason.
abbrev pub RefusesLast : {E : Type 0} → KeysView E → PolicyView → LayerView → LayerError E → Type 0
RefusesLast k p (signed_by m) e = (c : List ℕ) × CarriesFew m c × IsLast k p m.protected c m.signatures e
RefusesLast k p l e = ⊥

-- Asked about exactly this layer, or about its last signature, the keys may return the error `e`. `id` is the key
-- identifier of the layer, or of that signature.
abbrev pub Refuses : {E : Type 0} → KeysView E → PolicyView → LayerView → Vec ℕ Global → E → Type 0
Refuses k p (signed_by m) id e = RefusesLast k p (signed_by m) (Keys id e)
Refuses k p (macced_for m) id e = (r : RecipientView) × Receives (macced_for m) (for_recipient r) (λ c s. RefusesParts k.not_accepted id e s)
Refuses k p (encrypted m) id e = Receives (encrypted m) whole (λ c s. RefusesParts k.not_decrypted id e s)
Refuses k p (encrypted_for m) id e = (r : RecipientView) × Receives (encrypted_for m) (for_recipient r) (λ c s. RefusesParts k.not_decrypted id e s)
Refuses k p l id e = Receives l whole (λ c s. RefusesParts k.not_accepted id e s)

-- The reason why a layer isn't opened whose headers the policy admits.
abbrev pub RefusesContent : {E : Type 0} → KeysView E → PolicyView → LayerView → LayerError E → Type 0
RefusesContent k p l Recipients = LacksRecipient (recipients_in l)
RefusesContent k p l NoPayload = HasRecipient (recipients_in l) × (attached l ≡ None)
RefusesContent k p l NoSignature = LacksSignature l
RefusesContent k p l TooManySignatures = HasManySignatures l
RefusesContent k p l (Keys id e) = Refuses k p l id e
RefusesContent k p l (Message e) = ⊥
RefusesContent k p l e = RefusesLast k p l e

-- There is no structure for the content `c`, or an allocation failed.
abbrev pub LacksImage : LayerView → List ℕ → CoseError → Type 0
LacksImage (signed m) c e = HasNoImage (sign1_structure m [] c) e
LacksImage (macced m) c e = HasNoImage (mac0_structure m [] c) e
LacksImage (encrypted m) c e = HasNoImage (encrypt0_structure m []) e
LacksImage (signed_by m) c e = (length m.signatures ≤ MAX_SIGNATURES) × LacksStructure m.protected c m.signatures e
LacksImage (macced_for m) c e = HasNoImage (mac_structure_of m [] c) e
LacksImage (encrypted_for m) c e = HasNoImage (encrypt_structure_of m []) e

-- There is no structure for what the layer carries, or an allocation failed.
abbrev pub HasNoStructure : LayerView → CoseError → Type 0
HasNoStructure l e = (c : List ℕ) × (attached l ≡ Some c) × LacksImage l c e

-- ---- results

-- The view of a layer that the keys accepted: its form, its headers, the accepted part, and the name of the issuer.
pub record VerifiedView : Type 0 where
  pub form : Form
  pub protected : ProtectedView
  pub unprotected : HeaderView
  pub part : PartView
  pub issuer : Name

abbrev pub verified_view : VerifiedLayer → VerifiedView
verified_view v = record {
  form = v.form;
  protected = protected_view v.protected;
  unprotected = header_view v.unprotected;
  part = part_view v.part;
  issuer = name_view v.issuer;
}

-- The layer, the part of it that a key accepted, and the name of the key's issuer.
abbrev pub seen : LayerView × (PartView × Name) → VerifiedView
seen x = record { form = form_of x.0; protected = protected_of x.0; unprotected = unprotected_of x.0; part = x.1.0; issuer = x.1.1 }

-- The result of opening a layer: the layer and its content if the keys accept it, or the reason why it isn't opened.
abbrev pub Opens : {E : Type 0} → KeysView E → PolicyView → LayerView → Result OpenedLayer (LayerError E) → Type 0
Opens k p l (Ok o) =
    HasContent k p l o.content.items (part_view o.verified.part) (name_view o.verified.issuer)
    × (verified_view o.verified ≡ seen (l, (part_view o.verified.part, name_view o.verified.issuer)))
Opens k p l (Err (Message e)) = HasNoStructure l e
Opens k p l (Err e) = RefusesContent k p l e
