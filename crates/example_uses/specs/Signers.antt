-- Messages with several signers (RFC 8152, section 4.1).
use Rattle.std.specs.Prelude.{◌≡◌, ◌⊎◌, ℕ, List, [], ◌∷◌, Bool, Option, Some, None, Result, Ok, Err, Vec}
use Rattle.std.specs.List.{find}
use Rattle.std.specs.Global.{Global}
use Rattle.coset_codec.specs.Results.{Describes, IsRefused}
use Rattle.coset_codec.specs.Encoding.{HasNoImage}
use Rattle.coset_codec.specs.ReadAgain.{IsWritten}
use Rattle.coset_codec.specs.declared.error.CallError.{CallError}
use Rattle.coset_codec.specs.declared.error.CallError.TheVariants.{Coset, Caller}
use Rattle.coset_codec.specs.declared.error.CoseError.{CoseError}
use Rattle.coset_label.specs.LabelData.{RegisteredLabelView}
use Rattle.coset_core.specs.Built.{with_algorithm, with_key_id}
use Rattle.coset_core.specs.Contents.{empty_signature}
use Rattle.coset_core.specs.Headers.{SignatureView, empty_header}
use Rattle.coset_core.specs.Messages.{unread}
use Rattle.coset_sign.specs.Sign.{SignView, empty_sign, sign, sign_view, signed_with, signer_attached}
use Rattle.coset_sign.specs.declared.sign.CoseSign.{CoseSign}
use Rattle.example_uses.specs.Asked.{Asker, Declines, Maker, Makes, Says}
use Rattle.example_uses.specs.HeaderParts.{one_names_key}

-- ---- signing

-- A signature without its bytes. Its protected header names the algorithm, its unprotected header the key.
abbrev pub signer : RegisteredLabelView → List ℕ → SignatureView
signer a key_id = record empty_signature { protected = unread (with_algorithm a empty_header); unprotected = with_key_id key_id empty_header }

-- A message with this payload and these signatures.
abbrev pub signed_by : List ℕ → List SignatureView → SignView
signed_by payload signatures = record empty_sign { payload = Some payload; signatures = signatures }

-- The bytes are a message with this payload and two signatures, which f and h made.
abbrev pub IsSignedByTwo :
    {F H E : Type 0} → Maker F E → F → Maker H E → H → List ℕ → List ℕ → SignatureView → SignatureView → List ℕ → Type 0
IsSignedByTwo g f k h external_aad payload first second b =
    (s : List ℕ)
    × (t : List ℕ)
    × IsWritten sign (signed_by payload (signed_with s first ∷ signed_with t second ∷ [])) b
    × Makes g f (signer_attached (signed_by payload []) first external_aad) s
    × Makes k h (signer_attached (signed_by payload []) second external_aad) t

-- Why no such message is made, unless e is `OutOfMemory`. A header repeats a label, so that a signer has no structure,
-- or the message with some signatures has no encoding.
abbrev pub IsUnsigned : List ℕ → List ℕ → SignatureView → SignatureView → CoseError → Type 0
IsUnsigned external_aad payload first second e =
    HasNoImage (signer_attached (signed_by payload []) first external_aad) e
    ⊎ HasNoImage (signer_attached (signed_by payload []) second external_aad) e
    ⊎ ((s : List ℕ) × (t : List ℕ) × HasNoImage (sign.image (signed_by payload (signed_with s first ∷ signed_with t second ∷ []))) e)

-- The result of making such a message: its bytes, the error of f or h, or why there is none.
abbrev pub SignsByTwo :
    {F H E : Type 0} → Maker F E → F → Maker H E → H → List ℕ → List ℕ → SignatureView → SignatureView → Result (Vec ℕ Global) (CallError E) → Type 0
SignsByTwo g f k h external_aad payload first second (Ok b) = IsSignedByTwo g f k h external_aad payload first second b.items
SignsByTwo g f k h external_aad payload first second (Err (Caller e)) =
    Declines g f (signer_attached (signed_by payload []) first external_aad) e
    ⊎ Declines k h (signer_attached (signed_by payload []) second external_aad) e
SignsByTwo g f k h external_aad payload first second (Err (Coset e)) = IsUnsigned external_aad payload first second e

-- ---- verifying

-- The headers of the signature name this key.
abbrev pub is_by : List ℕ → SignatureView → Bool
is_by key_id s = one_names_key key_id s.protected s.unprotected

-- The first signature whose headers name this key.
abbrev pub signature_by : List ℕ → List SignatureView → Option SignatureView
signature_by key_id = find (is_by key_id)

-- f returns this result for the message's first signature whose headers name this key, and its structure.
abbrev pub AnswersBy : {F E : Type 0} → Asker F (Unit {0}) E → F → List ℕ → List ℕ → SignView → Result (Unit {0}) E → Type 0
AnswersBy g f key_id external_aad m answer =
    (s : SignatureView) × (signature_by key_id m.signatures ≡ Some s) × Says g f s.signature (signer_attached m s external_aad) answer

-- The result of verifying b: the message, if f accepts that signature. The error is `absent` if no signature names the
-- key, or the one of f. Otherwise b is no message with signatures.
abbrev pub VerifiesBy : {F E : Type 0} → Asker F (Unit {0}) E → F → List ℕ → List ℕ → E → List ℕ → Result CoseSign (CallError E) → Type 0
VerifiesBy g f key_id external_aad absent b (Ok m) = Describes sign b (sign_view m) × AnswersBy g f key_id external_aad (sign_view m) (Ok tt)
VerifiesBy g f key_id external_aad absent b (Err (Caller e)) =
    (m : SignView)
    × Describes sign b m
    × (((signature_by key_id m.signatures ≡ None) × (e ≡ absent)) ⊎ AnswersBy g f key_id external_aad m (Err e))
VerifiesBy g f key_id external_aad absent b (Err (Coset e)) = IsRefused sign b e
