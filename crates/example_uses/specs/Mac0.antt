-- Messages with a MAC for receivers that know the key (RFC 8152, section 6.2).
use Rattle.std.specs.Prelude.{◌≡◌, ◌⊎◌, ℕ, List, Some, None, Result, Ok, Err, Vec}
use Rattle.std.specs.Global.{Global}
use Rattle.coset_codec.specs.Results.{Describes, IsRefused}
use Rattle.coset_codec.specs.ReadAgain.{IsWritten}
use Rattle.coset_codec.specs.declared.error.CallError.{CallError}
use Rattle.coset_codec.specs.declared.error.CallError.TheVariants.{Coset, Caller}
use Rattle.coset_codec.specs.declared.error.CoseError.TheVariants.{OutOfMemory}
use Rattle.coset_label.specs.LabelData.{RegisteredLabelView}
use Rattle.coset_core.specs.Built.{with_algorithm}
use Rattle.coset_core.specs.Headers.{empty_header}
use Rattle.coset_core.specs.Messages.{unread}
use Rattle.coset_msg.specs.Mac0.{Mac0View, empty_mac0, mac0, mac0_view, mac0_structure, with_tag}
use Rattle.coset_msg.specs.declared.mac0.CoseMac0.{CoseMac0}
use Rattle.example_uses.specs.Asked.{Asker, Declines, Maker, Makes, Says}

-- A message with this algorithm in its protected header and this payload, before it has a MAC.
abbrev pub untagged : RegisteredLabelView → List ℕ → Mac0View
untagged a payload = record empty_mac0 { protected = unread (with_algorithm a empty_header); payload = Some payload }

-- The bytes are such a message, with the MAC that f made from its structure.
abbrev pub IsMacAlone : {F E : Type 0} → Maker F E → F → RegisteredLabelView → List ℕ → List ℕ → List ℕ → Type 0
IsMacAlone g f a external_aad payload b =
    (t : List ℕ)
    × IsWritten mac0 (with_tag t (untagged a payload)) b
    × Makes g f (mac0_structure (untagged a payload) external_aad payload) t

-- The result of making such a message: its bytes, the error of f, or `OutOfMemory`.
abbrev pub MacsAlone : {F E : Type 0} → Maker F E → F → RegisteredLabelView → List ℕ → List ℕ → Result (Vec ℕ Global) (CallError E) → Type 0
MacsAlone g f a external_aad payload (Ok b) = IsMacAlone g f a external_aad payload b.items
MacsAlone g f a external_aad payload (Err (Caller e)) = Declines g f (mac0_structure (untagged a payload) external_aad payload) e
MacsAlone g f a external_aad payload (Err (Coset e)) = e ≡ OutOfMemory

-- The message has a payload, and f returns this result for its MAC and its structure.
abbrev pub AnswersAlone : {F E : Type 0} → Asker F (Unit {0}) E → F → List ℕ → Mac0View → Result (Unit {0}) E → Type 0
AnswersAlone g f external_aad m answer = (p : List ℕ) × (m.payload ≡ Some p) × Says g f m.tag (mac0_structure m external_aad p) answer

-- The result of verifying b: the message, if f accepts its MAC. The error is `absent` if the message has no payload, or
-- the one of f. Otherwise b is no message with a MAC.
abbrev pub VerifiesAlone : {F E : Type 0} → Asker F (Unit {0}) E → F → List ℕ → E → List ℕ → Result CoseMac0 (CallError E) → Type 0
VerifiesAlone g f external_aad absent b (Ok m) = Describes mac0 b (mac0_view m) × AnswersAlone g f external_aad (mac0_view m) (Ok tt)
VerifiesAlone g f external_aad absent b (Err (Caller e)) =
    (m : Mac0View) × Describes mac0 b m × (((m.payload ≡ None) × (e ≡ absent)) ⊎ AnswersAlone g f external_aad m (Err e))
VerifiesAlone g f external_aad absent b (Err (Coset e)) = IsRefused mac0 b e
