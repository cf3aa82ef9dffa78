-- Countersignatures of version 2 of a message with one signature (RFC 9338).
use Rattle.std.specs.Prelude.{◌≡◌, ◌⊎◌, ℕ, List, [], ◌∷◌, Option, Some, None, Result, Ok, Err, Vec}
use Rattle.std.specs.Global.{Global}
use Rattle.coset_value.specs.Item.{Item}
use Rattle.coset_codec.specs.Results.{Describes, IsRefused}
use Rattle.coset_codec.specs.Encoding.{HasNoImage}
use Rattle.coset_codec.specs.Errors.{IsUnexpected}
use Rattle.coset_codec.specs.ReadAgain.{IsWritten}
use Rattle.coset_codec.specs.declared.error.CallError.{CallError}
use Rattle.coset_codec.specs.declared.error.CallError.TheVariants.{Coset, Caller}
use Rattle.coset_codec.specs.declared.error.CoseError.{CoseError}
use Rattle.coset_core.specs.Built.{push_countersignature_v2}
use Rattle.coset_core.specs.HeaderMap.{each_of}
use Rattle.coset_core.specs.Headers.{SignatureView, countersignatures_in}
use Rattle.coset_core.specs.Views.{countersignature_view}
use Rattle.coset_core.specs.declared.countersignature.CoseCountersignature.{CoseCountersignature}
use Rattle.coset_sign.specs.Countersigned.{countersigned_item}
use Rattle.coset_sign.specs.Sign.{signed_with}
use Rattle.coset_sign.specs.Sign1.{Sign1View, sign1, sign1_view}
use Rattle.coset_sign.specs.declared.sign1.CoseSign1.{CoseSign1}
use Rattle.example_uses.specs.Asked.{Asker, Declines, Maker, Makes, Says}
use Rattle.example_uses.specs.Signers.{signature_by}

-- The structure of a countersignature of the message with the payload p. The message's signature is its other field
-- (RFC 9338, section 3.3).
abbrev pub countersigned : Sign1View → SignatureView → List ℕ → List ℕ → Option Item
countersigned m c external_aad p = countersigned_item m.protected (Some c.protected) external_aad p (m.signature ∷ [])

-- ---- making one

-- f made s from the structure of a countersignature with the headers of c.
abbrev pub IsCountersignedBy : {F E : Type 0} → Maker F E → F → Sign1View → SignatureView → List ℕ → List ℕ → Type 0
IsCountersignedBy g f m c external_aad s = (p : List ℕ) × (m.payload ≡ Some p) × Makes g f (countersigned m c external_aad p) s

-- f refused that structure with the error e.
abbrev pub IsNotCountersignedBy : {F E : Type 0} → Maker F E → F → Sign1View → SignatureView → List ℕ → E → Type 0
IsNotCountersignedBy g f m c external_aad e = (p : List ℕ) × (m.payload ≡ Some p) × Declines g f (countersigned m c external_aad p) e

-- Why there is no structure. The message has no payload, or a header repeats a label, or e is `OutOfMemory`.
abbrev pub HasNoneToCountersign : Sign1View → SignatureView → List ℕ → CoseError → Type 0
HasNoneToCountersign m c external_aad e =
    ((m.payload ≡ None) × IsUnexpected e) ⊎ ((p : List ℕ) × (m.payload ≡ Some p) × HasNoImage (countersigned m c external_aad p) e)

-- The result of making a countersignature with the headers of c. It has the bytes that f made. The error is the one of
-- f, or says why there is no structure.
abbrev pub MakesCountersignature :
    {F E : Type 0} → Maker F E → F → Sign1View → SignatureView → List ℕ → Result CoseCountersignature (CallError E) → Type 0
MakesCountersignature g f m c external_aad (Ok made) =
    (s : List ℕ) × (countersignature_view made ≡ signed_with s c) × IsCountersignedBy g f m c external_aad s
MakesCountersignature g f m c external_aad (Err (Caller e)) = IsNotCountersignedBy g f m c external_aad e
MakesCountersignature g f m c external_aad (Err (Coset e)) = HasNoneToCountersign m c external_aad e

-- The message with one more countersignature in its unprotected header.
abbrev pub and_countersignature : SignatureView → Sign1View → Sign1View
and_countersignature c m = record m { unprotected = push_countersignature_v2 c m.unprotected }

-- The result of countersigning the message b: the message with one more countersignature, which f made. The error may
-- be the one of f. Otherwise b is no message with one signature, or there is no structure or no encoding.
abbrev pub Countersigns : {F E : Type 0} → Maker F E → F → SignatureView → List ℕ → List ℕ → Result (Vec ℕ Global) (CallError E) → Type 0
Countersigns g f c external_aad b (Ok made) =
    (m : Sign1View)
    × (s : List ℕ)
    × Describes sign1 b m
    × IsCountersignedBy g f m c external_aad s
    × IsWritten sign1 (and_countersignature (signed_with s c) m) made.items
Countersigns g f c external_aad b (Err (Caller e)) = (m : Sign1View) × Describes sign1 b m × IsNotCountersignedBy g f m c external_aad e
Countersigns g f c external_aad b (Err (Coset e)) =
    IsRefused sign1 b e
    ⊎ ((m : Sign1View)
    × (s : List ℕ)
    × Describes sign1 b m
    × (HasNoneToCountersign m c external_aad e ⊎ HasNoImage (sign1.image (and_countersignature (signed_with s c) m)) e))

-- ---- verifying one

-- The first countersignature in the message's unprotected header whose headers name this key.
abbrev pub countersignature_by : List ℕ → Sign1View → Option SignatureView
countersignature_by key_id m = signature_by key_id (each_of (countersignatures_in m.unprotected))

-- f returns this result for that countersignature and its structure.
abbrev pub AnswersCountersigned : {F E : Type 0} → Asker F (Unit {0}) E → F → List ℕ → List ℕ → Sign1View → Result (Unit {0}) E → Type 0
AnswersCountersigned g f key_id external_aad m answer =
    (c : SignatureView)
    × (p : List ℕ)
    × (countersignature_by key_id m ≡ Some c)
    × (m.payload ≡ Some p)
    × Says g f c.signature (countersigned m c external_aad p) answer

-- The result of verifying a countersignature of the message b: the message, if f accepts the countersignature. The
-- error is `absent` if none names the key, or the one of f. Otherwise b is no message with one signature, or has no
-- payload.
abbrev pub VerifiesCountersigned : {F E : Type 0} → Asker F (Unit {0}) E → F → List ℕ → List ℕ → E → List ℕ → Result CoseSign1 (CallError E) → Type 0
VerifiesCountersigned g f key_id external_aad absent b (Ok m) =
    Describes sign1 b (sign1_view m) × AnswersCountersigned g f key_id external_aad (sign1_view m) (Ok tt)
VerifiesCountersigned g f key_id external_aad absent b (Err (Caller e)) =
    (m : Sign1View)
    × Describes sign1 b m
    × (((countersignature_by key_id m ≡ None) × (e ≡ absent)) ⊎ AnswersCountersigned g f key_id external_aad m (Err e))
VerifiesCountersigned g f key_id external_aad absent b (Err (Coset e)) =
    IsRefused sign1 b e ⊎ ((m : Sign1View) × Describes sign1 b m × (m.payload ≡ None) × IsUnexpected e)
