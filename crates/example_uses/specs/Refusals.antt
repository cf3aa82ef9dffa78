-- The errors of calls with a caller's key. Each call may also return `OutOfMemory`, which these definitions leave out
-- for errors of the library.
use Rattle.std.specs.Prelude.{◌≡◌, ◌⊎◌, ◌++◌, ℕ, List, Option, Some, None}
use Rattle.coset_value.specs.Item.{Item}
use Rattle.coset_codec.specs.Results.{Describes, IsRefused}
use Rattle.coset_codec.specs.Encoding.{HasNoImage}
use Rattle.coset_codec.specs.Errors.{IsUnexpected}
use Rattle.coset_codec.specs.ReadAgain.{IsWritten}
use Rattle.coset_codec.specs.declared.error.CallError.{CallError}
use Rattle.coset_codec.specs.declared.error.CallError.TheVariants.{Coset, Caller}
use Rattle.coset_codec.specs.declared.error.CoseError.{CoseError}
use Rattle.coset_codec.specs.declared.error.CoseError.TheVariants.{OutOfMemory}
use Rattle.coset_label.specs.LabelData.{RegisteredLabelView}
use Rattle.coset_core.specs.Built.{with_algorithm}
use Rattle.coset_core.specs.Headers.{HeaderView, empty_header}
use Rattle.coset_core.specs.Messages.{unread}
use Rattle.coset_claims.specs.Claims.{ClaimsView, claims}
use Rattle.coset_core.specs.Calls.{IsStructure}
use Rattle.coset_sign.specs.Sign1.{Sign1View, empty_sign1, sign1, sign1_attached, with_signature}
use Rattle.coset_msg.specs.Encrypt0.{Encrypt0View, encrypt0, encrypt0_structure}
use Rattle.example_uses.specs.Exchange.{IsSent, IsVerified}
use Rattle.example_uses.specs.declared.cipher.Refused.{Refused}
use Rattle.example_uses.specs.declared.cipher.Refused.TheVariants as keys
use Rattle.example_uses.specs.declared.exchange.Lost.{Lost}
use Rattle.example_uses.specs.declared.exchange.Lost.TheVariants.{NotSent, NotArrived, NotVerified}

-- ---- verifying

-- Why b isn't verified. It is no message with one signature, or its signature isn't accepted for its structure.
abbrev pub IsNotVerified : (List ℕ → List ℕ → Type 0) → List ℕ → List ℕ → CallError Refused → Type 0
IsNotVerified accepts external_aad b (Coset e) = IsRefused sign1 b e
IsNotVerified accepts external_aad b (Caller r) =
    (m : Sign1View) × (t : List ℕ) × Describes sign1 b m × IsStructure (sign1_attached m external_aad) t × (accepts t m.signature → ⊥) × (r ≡ keys.Rejected)

-- There are no claims in a payload: it is absent, or its bytes are refused as claims.
abbrev pub HoldsNoClaims : Option (List ℕ) → CoseError → Type 0
HoldsNoClaims None e = IsUnexpected e
HoldsNoClaims (Some payload) e = IsRefused claims payload e

-- Why b has no verified claims. It isn't verified, or it is, and its payload has no claims.
abbrev pub AreNotVerified : (List ℕ → List ℕ → Type 0) → List ℕ → List ℕ → CallError Refused → Type 0
AreNotVerified accepts external_aad b (Coset e) =
    IsRefused sign1 b e ⊎ ((m : Sign1View) × IsVerified accepts external_aad b m × HoldsNoClaims m.payload e)
AreNotVerified accepts external_aad b (Caller r) = IsNotVerified accepts external_aad b (Caller r)

-- ---- signing

-- The message with this protected header and this payload, before it is signed.
abbrev pub unsigned : HeaderView → List ℕ → Sign1View
unsigned h payload = record empty_sign1 { protected = unread h; payload = Some payload }

-- Why such a message isn't sent. The header repeats a label, so that there is no structure. Or the encoding with some
-- signature can't be read. Or the key refuses the structure. `refuses t r`: the key refuses the bytes t with the error
-- r.
abbrev pub IsNotSent : (List ℕ → Refused → Type 0) → List ℕ → HeaderView → List ℕ → CallError Refused → Type 0
IsNotSent refuses external_aad h payload (Coset e) =
    HasNoImage (sign1_attached (unsigned h payload) external_aad) e
    ⊎ ((s : List ℕ) × (b : List ℕ) × IsWritten sign1 (with_signature s (unsigned h payload)) b × IsRefused sign1 b e)
IsNotSent refuses external_aad h payload (Caller r) = (t : List ℕ) × IsStructure (sign1_attached (unsigned h payload) external_aad) t × refuses t r

-- The claims are written, and their encoding can't be read.
abbrev pub AreUnreadable : ClaimsView → CoseError → Type 0
AreUnreadable c e = (payload : List ℕ) × IsWritten claims c payload × IsRefused claims payload e

-- Why a token of these claims isn't issued, whose protected header names the algorithm a. An allocation failed, or the
-- claims can't be read, or the key refuses the structure.
abbrev pub IsNotIssued : (List ℕ → Refused → Type 0) → List ℕ → RegisteredLabelView → ClaimsView → CallError Refused → Type 0
IsNotIssued refuses external_aad a c (Coset e) = (e ≡ OutOfMemory) ⊎ AreUnreadable c e
IsNotIssued refuses external_aad a c (Caller r) =
    (payload : List ℕ) × (t : List ℕ) × IsWritten claims c payload
    × IsStructure (sign1_attached (unsigned (with_algorithm a empty_header) payload) external_aad) t × refuses t r

-- Why a message isn't verified. It isn't sent, or it is lost on its way, or an allocation failed at the receiver.
-- `loses b`: the channel may lose b.
abbrev pub IsLost : (List ℕ → List ℕ → Type 0) → (List ℕ → Refused → Type 0) → (List ℕ → Type 0) → List ℕ → HeaderView → List ℕ → Lost → Type 0
IsLost signs refuses loses external_aad h payload (NotSent e) = IsNotSent refuses external_aad h payload e
IsLost signs refuses loses external_aad h payload NotArrived = (b : List ℕ) × IsSent signs external_aad payload b × loses b
IsLost signs refuses loses external_aad h payload (NotVerified e) = e ≡ Coset OutOfMemory

-- ---- decrypting

-- There is no plaintext. The ciphertext is absent, or the key refuses it with its structure.
abbrev pub IsNotOpened : (List ℕ → List ℕ → Refused → Type 0) → Option (List ℕ) → Option Item → Refused → Type 0
IsNotOpened refuses None structure r = r ≡ keys.Rejected
IsNotOpened refuses (Some ciphertext) structure r = (aad : List ℕ) × IsStructure structure aad × refuses ciphertext aad r

-- Why b isn't decrypted. It is no encrypted message, or there is no plaintext for its ciphertext.
abbrev pub IsNotDecrypted : (List ℕ → List ℕ → Refused → Type 0) → List ℕ → List ℕ → CallError Refused → Type 0
IsNotDecrypted refuses external_aad b (Coset e) = IsRefused encrypt0 b e
IsNotDecrypted refuses external_aad b (Caller r) =
    (m : Encrypt0View) × Describes encrypt0 b m × IsNotOpened refuses m.ciphertext (encrypt0_structure m external_aad) r

-- The ciphertext isn't these additional authenticated data followed by a plaintext, unless the error is `OutOfMemory`.
abbrev pub IsNotBehind : List ℕ → List ℕ → Refused → Type 0
IsNotBehind aad ciphertext r = (r ≡ keys.OutOfMemory → ⊥) → (plaintext : List ℕ) → ciphertext ≡ aad ++ plaintext → ⊥
