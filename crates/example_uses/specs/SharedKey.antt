-- Messages with a MAC by a key that the two sides share (RFC 8152, sections 6.1, 12.1 and 12.1.1).
use Rattle.std.specs.Prelude.{◌≡◌, ◌⊎◌, ◌&&◌, ℕ, List, [], ◌∷◌, Bool, true, false, Some, None, Result, Ok, Err, Vec}
use Rattle.std.specs.List.{list_any}
use Rattle.std.specs.Global.{Global}
use Rattle.coset_iana.specs.Algorithm as algorithms
use Rattle.coset_iana.specs.declared.algorithms.Algorithm.TheVariants.{Direct}
use Rattle.coset_codec.specs.Results.{Describes, IsRefused}
use Rattle.coset_codec.specs.ReadAgain.{IsWritten}
use Rattle.coset_codec.specs.declared.error.CallError.{CallError}
use Rattle.coset_codec.specs.declared.error.CallError.TheVariants.{Coset, Caller}
use Rattle.coset_codec.specs.declared.error.CoseError.TheVariants.{OutOfMemory}
use Rattle.coset_label.specs.LabelData.{RegisteredLabelView, assigned}
use Rattle.coset_core.specs.Built.{with_algorithm, with_key_id}
use Rattle.coset_core.specs.Headers.{empty_header}
use Rattle.coset_core.specs.Messages.{unread}
use Rattle.coset_recipient.specs.Mac.{MacView, empty_mac, mac, mac_view, mac_structure_of, with_tag}
use Rattle.coset_recipient.specs.Recipient.{RecipientView, empty_recipient}
use Rattle.coset_recipient.specs.declared.mac.CoseMac.{CoseMac}
use Rattle.example_uses.specs.Asked.{Asker, Declines, Maker, Makes, Says}
use Rattle.example_uses.specs.HeaderParts.{has_algorithm, names_key}

-- The algorithm "direct": the shared key is used as it is.
abbrev pub direct : RegisteredLabelView
direct = assigned (algorithms.number Direct)

-- [h'', {1: direct, 4: key_id}, h'']: a recipient that shares this key.
abbrev pub direct_to : List ℕ → RecipientView
direct_to key_id = record empty_recipient { unprotected = with_key_id key_id (with_algorithm direct empty_header); ciphertext = Some [] }

-- A message with this algorithm in its protected header, this payload and this one recipient, before it has a MAC.
abbrev pub shared_with : RegisteredLabelView → List ℕ → List ℕ → MacView
shared_with a key_id payload = record empty_mac {
  protected = unread (with_algorithm a empty_header);
  payload = Some payload;
  recipients = direct_to key_id ∷ [];
}

-- The bytes are such a message, with the MAC that f made from its structure.
abbrev pub IsMacFor : {F E : Type 0} → Maker F E → F → RegisteredLabelView → List ℕ → List ℕ → List ℕ → List ℕ → Type 0
IsMacFor g f a key_id external_aad payload b =
    (t : List ℕ)
    × IsWritten mac (with_tag t (shared_with a key_id payload)) b
    × Makes g f (mac_structure_of (shared_with a key_id payload) external_aad payload) t

-- The result of making such a message: its bytes, the error of f, or `OutOfMemory`.
abbrev pub MacsFor : {F E : Type 0} → Maker F E → F → RegisteredLabelView → List ℕ → List ℕ → List ℕ → Result (Vec ℕ Global) (CallError E) → Type 0
MacsFor g f a key_id external_aad payload (Ok b) = IsMacFor g f a key_id external_aad payload b.items
MacsFor g f a key_id external_aad payload (Err (Caller e)) = Declines g f (mac_structure_of (shared_with a key_id payload) external_aad payload) e
MacsFor g f a key_id external_aad payload (Err (Coset e)) = e ≡ OutOfMemory

-- The recipient's unprotected header names the algorithm "direct" and this key.
abbrev pub is_direct_to : List ℕ → RecipientView → Bool
is_direct_to key_id r = has_algorithm direct r.unprotected && names_key key_id r.unprotected

-- One of the message's recipients shares this key, the message has a payload, and f returns this result for its MAC and
-- its structure.
abbrev pub AnswersFor : {F E : Type 0} → Asker F (Unit {0}) E → F → List ℕ → List ℕ → MacView → Result (Unit {0}) E → Type 0
AnswersFor g f key_id external_aad m answer =
    (p : List ℕ)
    × (m.payload ≡ Some p)
    × (list_any (is_direct_to key_id) m.recipients ≡ true)
    × Says g f m.tag (mac_structure_of m external_aad p) answer

-- The result of verifying b: the message, if f accepts its MAC. The error is `absent` if the message has no payload or
-- no recipient shares the key, or the one of f. Otherwise b is no message with a MAC and recipients.
abbrev pub VerifiesFor : {F E : Type 0} → Asker F (Unit {0}) E → F → List ℕ → List ℕ → E → List ℕ → Result CoseMac (CallError E) → Type 0
VerifiesFor g f key_id external_aad absent b (Ok m) = Describes mac b (mac_view m) × AnswersFor g f key_id external_aad (mac_view m) (Ok tt)
VerifiesFor g f key_id external_aad absent b (Err (Caller e)) =
    (m : MacView)
    × Describes mac b m
    × ((((m.payload ≡ None) ⊎ (list_any (is_direct_to key_id) m.recipients ≡ false)) × (e ≡ absent))
    ⊎ AnswersFor g f key_id external_aad m (Err e))
VerifiesFor g f key_id external_aad absent b (Err (Coset e)) = IsRefused mac b e
