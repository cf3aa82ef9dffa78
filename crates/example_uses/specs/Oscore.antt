-- The `external_aad` of OSCORE requests (RFC 8613), and plaintexts of encrypted messages (RFC 8152, section 5.3).
use Rattle.std.specs.Prelude.{◌≡◌, ℕ, ℤ, pos, List, [], Some}
use Rattle.coset_value.specs.Item.{Item, integer, bytes, array, no_items, item}
use Rattle.coset_codec.specs.Results.{Describes}
use Rattle.coset_core.specs.Calls.{IsStructure}
use Rattle.coset_msg.specs.Encrypt0.{Encrypt0View, encrypt0, encrypt0_structure}

-- The `external_aad` of a request (RFC 8613, section 5.4): version 1, a list of the one algorithm, the requester's
-- identifier, its Partial IV, and no options.
abbrev pub request_aad : ℤ → List ℕ → List ℕ → Item
request_aad algorithm kid piv =
    let algorithms = array (item (integer algorithm) no_items) in
    array (item (integer (pos 1)) (item algorithms (item (bytes kid) (item (bytes piv) (item (bytes []) no_items)))))

-- The bytes are a message whose ciphertext decrypts to p, with its structure with `external_aad`.
pub record IsDecrypted (decrypts : List ℕ → List ℕ → List ℕ → Type 0) (external_aad b p : List ℕ) : Type 0 where
  pub message : Encrypt0View
  pub read : Describes encrypt0 b message
  pub ciphertext : List ℕ
  pub carried : message.ciphertext ≡ Some ciphertext
  pub decrypted : (t : List ℕ) × IsStructure (encrypt0_structure message external_aad) t × decrypts ciphertext t p
