-- A list of signatures, of which the keys must accept one (RFC 9052, section 4.1).
use Rattle.std.specs.Prelude.{◌≡◌, ◌++◌, ℕ, List, [], ◌∷◌, All, Bool, true, false, Option, Some, None, Result, Ok, Err, Vec}
use Rattle.std.specs.Borrow.{Bor}
use Rattle.std.specs.Global.{Global}
use Rattle.coset.specs.Calls.{IsStructure}
use Rattle.coset.specs.CoseError.{CoseError}
use Rattle.coset.specs.CoseSignature.{CoseSignature}
use Rattle.coset.specs.Encoding.{HasNoImage}
use Rattle.coset.specs.Headers.{ProtectedView, SignatureView}
use Rattle.coset.specs.Item.{Item}
use Rattle.coset.specs.SignatureContext.TheVariants as context
use Rattle.coset.specs.Signed.{signed_item}
use Rattle.coset.specs.Views.{signature_view}
use Rattle.cwt_keys.specs.Keys.{KeysView, Name, name_view}
use Rattle.cwt_keys.specs.Sealed.{SealView, key_id_of}
use Rattle.cwt_keys.specs.declared.form.Form.TheVariants.{Sign}
use Rattle.cwt_verify.specs.Admission.{IsAdmitted, RefusesHeaders, signature_headers}
use Rattle.cwt_verify.specs.Policy.{PolicyView}
use Rattle.cwt_verify.specs.declared.error.LayerError.{LayerError}
use Rattle.cwt_verify.specs.declared.error.LayerError.TheVariants.{Message, NoSignature, Keys}

-- The greatest number of signatures in a list.
abbrev pub MAX_SIGNATURES : ℕ
MAX_SIGNATURES = 16

-- ---- one signature of a message that has this protected header and carries the content `c`

-- The structure that the signature signs, if `external_aad` is empty (RFC 8152, section 4.4).
abbrev pub signature_item : ProtectedView → List ℕ → SignatureView → Option Item
signature_item body c s = signed_item context.CoseSignature body (Some s.protected) [] c

-- The parts that keys receive, if the structure has the bytes `t`.
abbrev pub signature_seal : SignatureView → List ℕ → SealView
signature_seal s t = record {
  form = Sign;
  protected = s.protected;
  unprotected = s.unprotected;
  proof = s.signature;
  structure = t;
  recipient = None;
}

-- There is a structure, and `R` holds for the parts that keys receive.
abbrev pub ReceivesSignature : ProtectedView → List ℕ → SignatureView → (SealView → Type 0) → Type 0
ReceivesSignature body c s R = (t : List ℕ) × IsStructure (signature_item body c s) t × R (signature_seal s t)

-- The keys may return the error `e` for the parts `x`, and `id` is the key identifier that these name.
abbrev pub RefusesParts : {E : Type 0} → (SealView → E → Type 0) → Vec ℕ Global → E → SealView → Type 0
RefusesParts refuses id e x = (id.items ≡ key_id_of x) × refuses x e

-- The policy admits the signature, and the keys accept it for the issuer of this name.
abbrev pub AcceptsSignature : {E : Type 0} → KeysView E → PolicyView → ProtectedView → List ℕ → Name → SignatureView → Type 0
AcceptsSignature k p body c n s = IsAdmitted p (signature_headers s) × ReceivesSignature body c s (λ x. k.accepts x n)

-- The first reason against the signature: that of the policy, or if the policy admits it, that of the keys.
abbrev pub RefusesSignature : {E : Type 0} → KeysView E → PolicyView → ProtectedView → List ℕ → SignatureView → LayerError E → Type 0
RefusesSignature k p body c s (Keys id e) = IsAdmitted p (signature_headers s) × ReceivesSignature body c s (RefusesParts k.not_accepted id e)
RefusesSignature k p body c s e = RefusesHeaders p (signature_headers s) e

-- ---- all signatures

-- Each of the signatures is refused.
abbrev pub AreAllRefused : {E : Type 0} → KeysView E → PolicyView → ProtectedView → List ℕ → List SignatureView → Type 0
AreAllRefused {E} k p body c ss = All (λ s. (e : LayerError E) × RefusesSignature k p body c s e) ss

-- The signature `s` is one of these, and is accepted for the issuer of this name. Each one before it is refused.
pub record IsFirst {E : Type 0} (k : KeysView E) (p : PolicyView) (body : ProtectedView) (c : List ℕ) (ss : List SignatureView) (s : SignatureView)
    (n : Name) : Type 0 where
  pub before : List SignatureView
  pub after : List SignatureView
  pub are : ss ≡ before ++ s ∷ after
  pub refused : AreAllRefused k p body c before
  pub accepted : AcceptsSignature k p body c n s

-- There are signatures, and each is refused, the last one for this reason.
pub record IsLast {E : Type 0} (k : KeysView E) (p : PolicyView) (body : ProtectedView) (c : List ℕ) (ss : List SignatureView) (e : LayerError E) : Type 0
  where
    pub before : List SignatureView
    pub last : SignatureView
    pub are : ss ≡ before ++ last ∷ []
    pub refused : AreAllRefused k p body c before
    pub last_refused : RefusesSignature k p body c last e

-- One of the signatures has no structure, or an allocation failed.
pub record LacksStructure (body : ProtectedView) (c : List ℕ) (ss : List SignatureView) (e : CoseError) : Type 0 where
  pub before : List SignatureView
  pub lacking : SignatureView
  pub after : List SignatureView
  pub are : ss ≡ before ++ lacking ∷ after
  pub no_image : HasNoImage (signature_item body c lacking) e

-- ---- results

-- Returns true if the reason is that there is no structure, or that an allocation failed.
abbrev pub is_message : {E : Type 0} → LayerError E → Bool
is_message (Message e) = true
is_message e = false

-- The result of trying one signature.
abbrev pub TriesSignature :
    {E : Type 0}
    → KeysView E
    → PolicyView
    → ProtectedView
    → List ℕ
    → SignatureView
    → Result (CoseSignature × Option (Bor (List ℕ))) (LayerError E)
    → Type 0
TriesSignature k p body c s (Ok x) = (signature_view x.0 ≡ s) × AcceptsSignature k p body c (name_view x.1) s
TriesSignature k p body c s (Err (Message e)) = HasNoImage (signature_item body c s) e
TriesSignature k p body c s (Err e) = RefusesSignature k p body c s e

-- The reason why none of these signatures is accepted.
abbrev pub RefusesSignatures : {E : Type 0} → KeysView E → PolicyView → ProtectedView → List ℕ → List SignatureView → LayerError E → Type 0
RefusesSignatures k p body c ss NoSignature = ss ≡ []
RefusesSignatures k p body c ss e = IsLast k p body c ss e

-- The result of trying all of them, in order.
abbrev pub FindsSignature :
    {E : Type 0}
    → KeysView E
    → PolicyView
    → ProtectedView
    → List ℕ
    → List SignatureView
    → Result (CoseSignature × Option (Bor (List ℕ))) (LayerError E)
    → Type 0
FindsSignature k p body c ss (Ok x) = IsFirst k p body c ss (signature_view x.0) (name_view x.1)
FindsSignature k p body c ss (Err (Message e)) = LacksStructure body c ss e
FindsSignature k p body c ss (Err e) = RefusesSignatures k p body c ss e
