-- Reading one layer.
use Rattle.std.specs.Prelude.{IsErrAnd}
use Rattle.std.proofs.Common.{◌≡◌, ◌∙◌, ◌++◌, ◌∷◌, [], List, ℕ, Bool, None, Result, Ok, Err, sym, ap, subst, inl, inr}
use Rattle.coset.specs.Results.{AllocatesForItems, IsOnlyItem, ReadsSlice, RefusesSlice}
use Rattle.coset.specs.AsWritten.{WhenRead}
use Rattle.coset.specs.CoseError.{CoseError}
use Rattle.coset.specs.CoseError.TheVariants.{OutOfMemory}
use Rattle.coset.specs.EncStructure.{Encrypts}
use Rattle.coset.specs.Encrypt.{encrypt, encrypt_laws}
use Rattle.coset.specs.Encrypt0.{encrypt0, encrypt0_laws}
use Rattle.coset.specs.Errors.{UnlessMemory}
use Rattle.coset.specs.Item.{Item}
use Rattle.coset.specs.Headers.{SignatureView}
use Rattle.coset_codec.specs.Lists.{EachHas}
use Rattle.coset.specs.Mac.{mac, mac_laws}
use Rattle.coset.specs.Mac0.{mac0, mac0_laws}
use Rattle.coset.specs.MacContext.TheVariants as mac_of
use Rattle.coset.specs.EncryptionContext.TheVariants as enc_of
use Rattle.coset.specs.MacStructure.{Authenticates}
use Rattle.coset.specs.Sign.{EachSigns, SignView, sign, sign_laws, signer_structure}
use Rattle.coset.specs.Sign1.{sign1, sign1_laws, sign1_structure}
use Rattle.coset.specs.Structures.{EncryptsAll, Macs}
use Rattle.cwt_keys.specs.declared.form.Form.{Form}
use Rattle.cwt_keys.specs.declared.form.Form.TheVariants.{Sign1, Mac0, Encrypt0, Sign, Mac, Encrypt}
use Rattle.cwt_verify.specs.Admission.{ChecksHeaders, IsAdmitted}
use Rattle.cwt_verify.specs.Layers.{DescribesAs, FaultsAs, LayerView, encrypted, encrypted_for, headers_of, layer, layer_item, layer_view, macced, macced_for}
use Rattle.cwt_verify.specs.Layers.{message_in, part_view, signed, signed_by}
use Rattle.cwt_keys.specs.Keys.{KeysView, name_view}
use Rattle.coset.specs.Results.{Describes}
use Rattle.cwt_verify.specs.Opening.{HasNoStructure, Opens}
use Rattle.cwt_verify.specs.Policy.{PolicyView}
use Rattle.cwt_verify.specs.Walk.{OpensOne, RefusesLayer, layer_by}
use Rattle.cwt_verify.specs.declared.error.LayerError.{LayerError}
use Rattle.cwt_verify.specs.declared.error.LayerError.TheVariants as reason
use Rattle.cwt_verify.specs.declared.layer.Layer.{Layer}
use Rattle.cwt_verify.specs.declared.layer.OpenedLayer.{OpenedLayer}

-- If `P` holds for `Err e`, it holds for any result equal to `Err e`.
pub passed_on : {A X : Type 0} (P : Result A X → Type 0) (r : Result A X) (e : X) → IsErrAnd r (λ x. x ≡ e) → P (Err e) → P r
passed_on P (Ok x) e is h = absurd is
passed_on P (Err x) e is h = subst (λ y. P (Err y)) (sym is) h

-- A message that was read always has the structures for its signatures, its MAC or its ciphertext.
pub record HaveStructures : Type 0 where
  pub sign1 : (external_aad payload : List ℕ) → WhenRead sign1 (λ m. sign1_structure m external_aad payload ≡ None → ⊥)
  pub mac0 : WhenRead mac0 (λ m. Authenticates m.protected)
  pub encrypt0 : WhenRead encrypt0 (λ m. Encrypts m.protected)
  pub sign : WhenRead sign EachSigns
  pub mac : WhenRead mac Macs
  pub encrypt : WhenRead encrypt EncryptsAll

-- The signature has a structure in this message.
abbrev Signs : SignView → SignatureView → Type 0
Signs m s = (external_aad payload : List ℕ) → signer_structure m s external_aad payload ≡ None → ⊥

each-at : {A : Type 0} (P : A → Type 0) (xs : List A) (x : A) (ys : List A) → EachHas P (xs ++ x ∷ ys) → P x
each-at P [] x ys h = h.0
each-at P (y ∷ xs) x ys h = each-at P xs x ys h.1

pub lacks : HaveStructures → (x : Form × Item) (l : LayerView) (e : CoseError) → DescribesAs x l → HasNoStructure l e → (e ≡ OutOfMemory → ⊥) → ⊥
lacks laws (Sign1, v) (signed m) e d h n = laws.sign1 [] h.0 v m d (h.2 n).1
lacks laws (Sign1, v) (macced m) e d h n = absurd d
lacks laws (Sign1, v) (encrypted m) e d h n = absurd d
lacks laws (Sign1, v) (signed_by m) e d h n = absurd d
lacks laws (Sign1, v) (macced_for m) e d h n = absurd d
lacks laws (Sign1, v) (encrypted_for m) e d h n = absurd d
lacks laws (Mac0, v) (macced m) e d h n = laws.mac0 v m d mac_of.CoseMac0 [] h.0 (h.2 n).1
lacks laws (Mac0, v) (signed m) e d h n = absurd d
lacks laws (Mac0, v) (encrypted m) e d h n = absurd d
lacks laws (Mac0, v) (signed_by m) e d h n = absurd d
lacks laws (Mac0, v) (macced_for m) e d h n = absurd d
lacks laws (Mac0, v) (encrypted_for m) e d h n = absurd d
lacks laws (Encrypt0, v) (encrypted m) e d h n = laws.encrypt0 v m d enc_of.CoseEncrypt0 [] (h.2 n).1
lacks laws (Encrypt0, v) (signed m) e d h n = absurd d
lacks laws (Encrypt0, v) (macced m) e d h n = absurd d
lacks laws (Encrypt0, v) (signed_by m) e d h n = absurd d
lacks laws (Encrypt0, v) (macced_for m) e d h n = absurd d
lacks laws (Encrypt0, v) (encrypted_for m) e d h n = absurd d
lacks laws (Sign, v) (signed_by m) e d h n =
    let one = h.2.1 in
    each-at (Signs m) one.before one.lacking one.after (subst (EachHas (Signs m)) one.are (laws.sign v m d)) [] h.0 (one.no_image n).1
lacks laws (Sign, v) (signed m) e d h n = absurd d
lacks laws (Sign, v) (macced m) e d h n = absurd d
lacks laws (Sign, v) (encrypted m) e d h n = absurd d
lacks laws (Sign, v) (macced_for m) e d h n = absurd d
lacks laws (Sign, v) (encrypted_for m) e d h n = absurd d
lacks laws (Mac, v) (macced_for m) e d h n = (laws.mac v m d).0 mac_of.CoseMac [] h.0 (h.2 n).1
lacks laws (Mac, v) (signed m) e d h n = absurd d
lacks laws (Mac, v) (macced m) e d h n = absurd d
lacks laws (Mac, v) (encrypted m) e d h n = absurd d
lacks laws (Mac, v) (signed_by m) e d h n = absurd d
lacks laws (Mac, v) (encrypted_for m) e d h n = absurd d
lacks laws (Encrypt, v) (encrypted_for m) e d h n = (laws.encrypt v m d).0 enc_of.CoseEncrypt [] (h.2 n).1
lacks laws (Encrypt, v) (signed m) e d h n = absurd d
lacks laws (Encrypt, v) (macced m) e d h n = absurd d
lacks laws (Encrypt, v) (encrypted m) e d h n = absurd d
lacks laws (Encrypt, v) (signed_by m) e d h n = absurd d
lacks laws (Encrypt, v) (macced_for m) e d h n = absurd d

-- An item that describes a layer has no fault.
as_sound : (x : Form × Item) (l : LayerView) (e : CoseError) → DescribesAs x l → FaultsAs x e → ⊥
as_sound (Sign1, v) (signed m) e d f = sign1_laws.sound v m e d f
as_sound (Sign1, v) (macced m) e d f = absurd d
as_sound (Sign1, v) (encrypted m) e d f = absurd d
as_sound (Sign1, v) (signed_by m) e d f = absurd d
as_sound (Sign1, v) (macced_for m) e d f = absurd d
as_sound (Sign1, v) (encrypted_for m) e d f = absurd d
as_sound (Mac0, v) (macced m) e d f = mac0_laws.sound v m e d f
as_sound (Mac0, v) (signed m) e d f = absurd d
as_sound (Mac0, v) (encrypted m) e d f = absurd d
as_sound (Mac0, v) (signed_by m) e d f = absurd d
as_sound (Mac0, v) (macced_for m) e d f = absurd d
as_sound (Mac0, v) (encrypted_for m) e d f = absurd d
as_sound (Encrypt0, v) (encrypted m) e d f = encrypt0_laws.sound v m e d f
as_sound (Encrypt0, v) (signed m) e d f = absurd d
as_sound (Encrypt0, v) (macced m) e d f = absurd d
as_sound (Encrypt0, v) (signed_by m) e d f = absurd d
as_sound (Encrypt0, v) (macced_for m) e d f = absurd d
as_sound (Encrypt0, v) (encrypted_for m) e d f = absurd d
as_sound (Sign, v) (signed_by m) e d f = sign_laws.sound v m e d f
as_sound (Sign, v) (signed m) e d f = absurd d
as_sound (Sign, v) (macced m) e d f = absurd d
as_sound (Sign, v) (encrypted m) e d f = absurd d
as_sound (Sign, v) (macced_for m) e d f = absurd d
as_sound (Sign, v) (encrypted_for m) e d f = absurd d
as_sound (Mac, v) (macced_for m) e d f = mac_laws.sound v m e d f
as_sound (Mac, v) (signed m) e d f = absurd d
as_sound (Mac, v) (macced m) e d f = absurd d
as_sound (Mac, v) (encrypted m) e d f = absurd d
as_sound (Mac, v) (signed_by m) e d f = absurd d
as_sound (Mac, v) (encrypted_for m) e d f = absurd d
as_sound (Encrypt, v) (encrypted_for m) e d f = encrypt_laws.sound v m e d f
as_sound (Encrypt, v) (signed m) e d f = absurd d
as_sound (Encrypt, v) (macced m) e d f = absurd d
as_sound (Encrypt, v) (encrypted m) e d f = absurd d
as_sound (Encrypt, v) (signed_by m) e d f = absurd d
as_sound (Encrypt, v) (macced_for m) e d f = absurd d

-- The result for bytes that are one item `v`, if the message `m` in it has a fault.
pub unread :
    (lists : Bool) (plain : Form) (outermost : Bool) (r : Result Layer CoseError) {s : List ℕ} {v u m : Item} {f g : Form} {e : CoseError} → IsOnlyItem s v
    → u ≡ layer_item lists outermost v → (f, m) ≡ message_in lists plain u → f ≡ g → UnlessMemory e (FaultsAs (g, m)) → IsErrAnd r (λ x. x ≡ e)
    → ReadsSlice (layer lists plain outermost) layer_view s r × RefusesSlice (layer lists plain outermost) s r
unread lists plain outermost r {s = s} {v = v} {m = m} {e = e} only layered is form h gives =
    let fault : UnlessMemory e (FaultsAs (message_in lists plain (layer_item lists outermost v))) =
    λ n. subst (λ y. FaultsAs y e) (is ∙ ap (message_in lists plain) layered) (subst (λ x. FaultsAs (x, m) e) (sym form) (h n)) in (
      passed_on (ReadsSlice (layer lists plain outermost) layer_view s) r e gives (λ n. inr (inr (v, only.0, fault n))),
      passed_on (RefusesSlice (layer lists plain outermost) s) r e gives
          (λ n l d. as_sound (message_in lists plain (layer_item lists outermost v)) l e
          (subst (λ w. DescribesAs (message_in lists plain (layer_item lists outermost w)) l) (only.1 d.0 d.1) d.2) (fault n)),
    )

-- If memory runs out for bytes that are one item, it does so for an item.
pub in_item : {s : List ℕ} {v : Item} → IsOnlyItem s v → (r : Result Layer CoseError) → AllocatesForItems s r
in_item only (Ok x) = tt
in_item {v = v} only (Err e) = λ is. (v, only.0)

module _ {E : Type 0} (k : KeysView E) (p : PolicyView) where
  -- The reason against a layer whose headers the policy doesn't admit.
  pub turned_away : (outermost : Bool) (q : List ℕ) (l : LayerView) (e : LayerError E) → Describes (layer_by p outermost) q l
      → ChecksHeaders p (headers_of l) (Err e) → RefusesLayer k p outermost q e
  turned_away outermost q l (reason.Message e) d h = ((λ n. absurd (n h)), λ is. (d.0, d.1))
  turned_away outermost q l reason.Headers d h = (l, d, inl h)
  turned_away outermost q l (reason.Algorithm n) d h = (l, d, inl h)
  turned_away outermost q l reason.Critical d h = (l, d, inl h)
  turned_away outermost q l reason.Recipients d h = absurd h
  turned_away outermost q l reason.NoPayload d h = absurd h
  turned_away outermost q l reason.NoSignature d h = absurd h
  turned_away outermost q l reason.TooManySignatures d h = absurd h
  turned_away outermost q l (reason.Keys id e) d h = absurd h

  -- The result for a layer whose headers the policy admits.
  pub opened : HaveStructures → (outermost : Bool) (q : List ℕ) (l : LayerView) (r : Result OpenedLayer (LayerError E))
      → Describes (layer_by p outermost) q l → IsAdmitted p (headers_of l) → Opens k p l r → OpensOne k p outermost q r
  opened laws outermost q l (Ok o) d a h = ((l, (part_view o.verified.part, name_view o.verified.issuer)), (d, a, h.0), h.1)
  opened laws outermost q l (Err (reason.Message e)) d a h = (
    (λ n. absurd (lacks laws (message_in p.accept_lists p.untagged_form (layer_item p.accept_lists outermost d.0)) l e d.2 h n)),
    λ is. (d.0, d.1),
  )
  opened laws outermost q l (Err reason.Headers) d a h = (l, d, inr (a, h))
  opened laws outermost q l (Err (reason.Algorithm n)) d a h = (l, d, inr (a, h))
  opened laws outermost q l (Err reason.Critical) d a h = (l, d, inr (a, h))
  opened laws outermost q l (Err reason.Recipients) d a h = (l, d, inr (a, h))
  opened laws outermost q l (Err reason.NoPayload) d a h = (l, d, inr (a, h))
  opened laws outermost q l (Err reason.NoSignature) d a h = (l, d, inr (a, h))
  opened laws outermost q l (Err reason.TooManySignatures) d a h = (l, d, inr (a, h))
  opened laws outermost q l (Err (reason.Keys id e)) d a h = (l, d, inr (a, h))
