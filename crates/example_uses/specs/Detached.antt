-- A message with one signature whose payload is detached (RFC 8152, section 4.1).
use Rattle.std.specs.Prelude.{◌≡◌, ◌≢◌, ◌⊎◌, ℕ, List, None, Result, Ok, Err, Vec}
use Rattle.std.specs.Global.{Global}
use Rattle.coset_codec.specs.Results.{Describes, IsRefused}
use Rattle.coset_codec.specs.Errors.{IsUnexpected}
use Rattle.coset_codec.specs.ReadAgain.{IsWritten}
use Rattle.coset_codec.specs.declared.error.CallError.{CallError}
use Rattle.coset_codec.specs.declared.error.CallError.TheVariants.{Coset, Caller}
use Rattle.coset_codec.specs.declared.error.CoseError.TheVariants.{OutOfMemory}
use Rattle.coset_label.specs.LabelData.{RegisteredLabelView}
use Rattle.coset_core.specs.Built.{with_algorithm}
use Rattle.coset_core.specs.Headers.{empty_header}
use Rattle.coset_core.specs.Messages.{unread}
use Rattle.coset_sign.specs.Sign1.{Sign1View, empty_sign1, sign1, sign1_view, sign1_structure, with_signature}
use Rattle.coset_sign.specs.declared.sign1.CoseSign1.{CoseSign1}
use Rattle.example_uses.specs.Asked.{Asker, Declines, Maker, Makes, Says}

-- A message without a payload and with this algorithm in its protected header, before it is signed.
abbrev pub apart : RegisteredLabelView → Sign1View
apart a = record empty_sign1 { protected = unread (with_algorithm a empty_header) }

-- The bytes are such a message. Its signature is what f made from its structure over the payload.
abbrev pub IsSignedApart : {F E : Type 0} → Maker F E → F → RegisteredLabelView → List ℕ → List ℕ → List ℕ → Type 0
IsSignedApart g f a external_aad payload b =
    (s : List ℕ) × IsWritten sign1 (with_signature s (apart a)) b × Makes g f (sign1_structure (apart a) external_aad payload) s

-- The result of making such a message: its bytes, the error of f, or `OutOfMemory`.
abbrev pub SignsApart : {F E : Type 0} → Maker F E → F → RegisteredLabelView → List ℕ → List ℕ → Result (Vec ℕ Global) (CallError E) → Type 0
SignsApart g f a external_aad payload (Ok b) = IsSignedApart g f a external_aad payload b.items
SignsApart g f a external_aad payload (Err (Caller e)) = Declines g f (sign1_structure (apart a) external_aad payload) e
SignsApart g f a external_aad payload (Err (Coset e)) = e ≡ OutOfMemory

-- The message has no payload, and f returns this result for its signature and its structure over the given payload.
abbrev pub AnswersApart : {F E : Type 0} → Asker F (Unit {0}) E → F → List ℕ → List ℕ → Sign1View → Result (Unit {0}) E → Type 0
AnswersApart g f external_aad payload m answer = (m.payload ≡ None) × Says g f m.signature (sign1_structure m external_aad payload) answer

-- The result of verifying b: the message, if f accepts it, or the error of f. Otherwise b is no message with one
-- signature, or has a payload.
abbrev pub VerifiesApart : {F E : Type 0} → Asker F (Unit {0}) E → F → List ℕ → List ℕ → List ℕ → Result CoseSign1 (CallError E) → Type 0
VerifiesApart g f external_aad payload b (Ok m) = Describes sign1 b (sign1_view m) × AnswersApart g f external_aad payload (sign1_view m) (Ok tt)
VerifiesApart g f external_aad payload b (Err (Caller e)) = (m : Sign1View) × Describes sign1 b m × AnswersApart g f external_aad payload m (Err e)
VerifiesApart g f external_aad payload b (Err (Coset e)) =
    IsRefused sign1 b e ⊎ ((m : Sign1View) × Describes sign1 b m × (m.payload ≢ None) × IsUnexpected e)
