-- Encrypted keys (RFC 8747, sections 3.3 and 7.2.2).
use Rattle.std.specs.Prelude.{◌==◌, ℕ, List, Option, Some, None, Bool, true, false, if◌then◌else◌}
use Rattle.std.specs.Option.{option_map_or}
use Rattle.coset.specs.CoseError.{CoseError}
use Rattle.coset.specs.Encrypt.{EncryptView, encrypt, encrypt_view}
use Rattle.coset.specs.Encrypt0.{Encrypt0View, encrypt0, encrypt0_view}
use Rattle.coset.specs.Item.{Item, items_count}
use Rattle.coset.specs.Parts.{as_array, as_tag}
use Rattle.coset.specs.Shape.{Shape}
use Rattle.cwt_confirm.specs.declared.encrypted.EncryptedKey.{EncryptedKey}
use Rattle.cwt_confirm.specs.declared.encrypted.EncryptedKey.TheVariants as keys

-- The view of an encrypted key: a message with recipients, or one without.
pub data EncryptedView : Type 0 where
  encrypt_of : EncryptView → EncryptedView
  encrypt0_of : Encrypt0View → EncryptedView

abbrev pub encrypted_view : EncryptedKey → EncryptedView
encrypted_view (keys.Encrypt m) = encrypt_of (encrypt_view m)
encrypted_view (keys.Encrypt0 m) = encrypt0_of (encrypt0_view m)

abbrev pub ciphertext_of : EncryptedView → Option (List ℕ)
ciphertext_of (encrypt_of m) = m.ciphertext
ciphertext_of (encrypt0_of m) = m.ciphertext

-- Returns true if the item is an array of four elements, as COSE_Encrypt is (RFC 8152, section 5.1).
abbrev pub has_four : Item → Bool
has_four v = option_map_or (λ vs. items_count vs == 4) (as_array v) false

-- The item of the message, and true if it must be COSE_Encrypt. Tag 96 says so, and tag 16 says that it must be
-- COSE_Encrypt0 (RFC 8152, section 2).
abbrev pub by_tag : Item → Option (ℕ × Item) → Bool × Item
by_tag v None = (has_four v, v)
by_tag v (Some t) = if t.0 == 96 then (true, t.1) else (if t.0 == 16 then (false, t.1) else (false, v))

abbrev pub message_in : Item → Bool × Item
message_in v = by_tag v (as_tag v)

-- The item is this message.
abbrev pub DescribesAs : Bool × Item → EncryptedView → Type 0
DescribesAs (true, v) (encrypt_of m) = encrypt.describes v m
DescribesAs (false, v) (encrypt0_of m) = encrypt0.describes v m
DescribesAs x m = ⊥

-- The faults of the item as such a message.
abbrev pub FaultsAs : Bool × Item → CoseError → Type 0
FaultsAs (true, v) e = encrypt.faults v e
FaultsAs (false, v) e = encrypt0.faults v e

-- COSE_Encrypt / COSE_Encrypt0, plain or under its tag. This shape is never written.
abbrev pub encrypted_key : Shape EncryptedView
encrypted_key = record {
  describes = λ v m. DescribesAs (message_in v) m;
  image = λ m. None;
  faults = λ v e. FaultsAs (message_in v) e;
}
