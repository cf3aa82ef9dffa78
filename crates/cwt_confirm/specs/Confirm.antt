-- The confirmation claim of a token (RFC 8747, section 3).
use Rattle.std.specs.Prelude.{◌≡◌, ◌≢◌, ◌==◌, ◌&&◌, ◌||◌, not, ℕ, pos, List, [], ◌∷◌, length, Option, Some, None, Bool, true, false, Result, Ok, Err, ⊤}
use Rattle.std.specs.Borrow.{Bor}
use Rattle.std.specs.Cmp.Lexicographic.{pointwise}
use Rattle.std.specs.Map.{lookup}
use Rattle.coset.specs.Claims.{ClaimsView, same_label}
use Rattle.coset.specs.CoseError.{CoseError}
use Rattle.coset.specs.CoseError.TheVariants as faults
use Rattle.coset.specs.CoseKey.{CoseKey}
use Rattle.coset.specs.Item.{Item, Pairs, bytes}
use Rattle.coset.specs.Keys.{KeyView, key, key_view}
use Rattle.coset.specs.LabelData.{assigned}
use Rattle.coset.specs.Parts.{as_map}
use Rattle.coset_iana.specs.CwtClaimName as claim_names
use Rattle.coset_iana.specs.declared.claims.CwtClaimName.{CwtClaimName}
use Rattle.coset_iana.specs.declared.claims.CwtClaimName.TheVariants.{Cnf}
use Rattle.cwt_verify.specs.Claims.{first_true}
use Rattle.cwt_verify.specs.Verify.{TokenView}
use Rattle.cwt_confirm.specs.Concealed.{conceal_cnf}
use Rattle.cwt_confirm.specs.Encrypted.{ciphertext_of, encrypted_key, encrypted_view}
use Rattle.cwt_confirm.specs.KeyMembers.{is_complete, is_private, is_symmetric}
use Rattle.cwt_confirm.specs.Members.{has_distinct_labels, member}
use Rattle.cwt_confirm.specs.declared.confirmed.Confirmation.{Confirmation}
use Rattle.cwt_confirm.specs.declared.confirmed.Confirmation.TheVariants as confirmed
use Rattle.cwt_confirm.specs.declared.encrypted.EncryptedKey.{EncryptedKey}
use Rattle.cwt_confirm.specs.declared.error.ConfirmationError.{ConfirmationError}
use Rattle.cwt_confirm.specs.declared.error.ConfirmationError.TheVariants as error

-- The error for a key that can't be read.
abbrev pub unread : CoseError → ConfirmationError
unread faults.OutOfMemory = error.OutOfMemory
unread e = error.Malformed e

-- ---- a key in the clear

-- Returns true if the key has no identifier, or no other than this one, if there is one.
abbrev pub may_be : Option (List ℕ) → KeyView → Bool
may_be None k = true
may_be (Some kid) k = length k.key_id == 0 || pointwise ◌==◌ k.key_id kid

-- The reasons against a key in the value of COSE_Key, in order, each with true if it applies (RFC 8747, section 3.2).
-- `concealed` is true if only those who decrypt the token can read the claim, and `kid` is the identifier in the claim.
abbrev pub key_reasons : Bool → Option (List ℕ) → KeyView → List (Bool × ConfirmationError)
key_reasons concealed kid k =
    (not (is_complete k), error.Incomplete)
    ∷ (is_private k, error.PrivateKey)
    ∷ (is_symmetric k && not concealed, error.KeyInTheClear)
    ∷ (not (may_be kid k), error.AnotherKeyId)
    ∷ []

-- The result for the value of COSE_Key: the key, or the first reason against it.
abbrev pub ReadsKey : Bool → Option (List ℕ) → Item → Result CoseKey ConfirmationError → Type 0
ReadsKey concealed kid v (Ok k) = key.describes v (key_view k) × (first_true (key_reasons concealed kid (key_view k)) ≡ None)
ReadsKey concealed kid v (Err error.OutOfMemory) = ⊤
ReadsKey concealed kid v (Err (error.Malformed e)) = key.faults v e
ReadsKey concealed kid v (Err e) = (k : KeyView) × key.describes v k × (first_true (key_reasons concealed kid k) ≡ Some e)

-- ---- an encrypted key

-- The result for the value of Encrypted_COSE_Key (RFC 8747, section 3.3).
abbrev pub ReadsEncrypted : Item → Result EncryptedKey ConfirmationError → Type 0
ReadsEncrypted v (Ok m) = encrypted_key.describes v (encrypted_view m) × (ciphertext_of (encrypted_view m) ≢ None)
ReadsEncrypted v (Err error.OutOfMemory) = ⊤
ReadsEncrypted v (Err (error.Malformed e)) = encrypted_key.faults v e
ReadsEncrypted v (Err error.NoCiphertext) = (m : EncryptedKey) × encrypted_key.describes v (encrypted_view m) × (ciphertext_of (encrypted_view m) ≡ None)
ReadsEncrypted v (Err e) = ⊥

-- ---- the members

-- The value of `kid`: absent, an identifier, or another item (RFC 8747, section 3.4).
pub data Identifier : Type 0 where
  absent : Identifier
  named : List ℕ → Identifier
  malformed : Identifier

abbrev pub identifier_of : Option Item → Identifier
identifier_of None = absent
identifier_of (Some (bytes (b ∷ bs))) = named (b ∷ bs)
identifier_of (Some v) = malformed

-- The result of reading an identifier.
abbrev pub ReadsIdentifier : Identifier → Result (Option (Bor (List ℕ))) ConfirmationError → Type 0
ReadsIdentifier absent r = r ≡ Ok None
ReadsIdentifier (named s) (Ok (Some b)) = b.now ≡ s
ReadsIdentifier malformed r = r ≡ Err error.KeyId
ReadsIdentifier x r = ⊥

-- What the members represent: one key, by the values of COSE_Key, Encrypted_COSE_Key and kid (RFC 8747, section 3.1).
-- Otherwise the reason against them.
pub data Choice : Type 0 where
  clear : Item → Option (List ℕ) → Choice
  encrypted : Item → Choice
  identified : List ℕ → Choice
  refused : ConfirmationError → Choice

abbrev pub choose : Option Item → Option Item → Identifier → Choice
choose (Some v) (Some w) kid = refused error.SeveralKeys
choose k e malformed = refused error.KeyId
choose (Some v) None absent = clear v None
choose (Some v) None (named s) = clear v (Some s)
choose None (Some w) kid = encrypted w
choose None None (named s) = identified s
choose None None absent = refused error.NoKey

-- The labels of the members (RFC 8747, section 3.1, table 1).
abbrev pub chosen : Pairs → Choice
chosen ps = choose (member (pos 1) ps) (member (pos 2) ps) (identifier_of (member (pos 3) ps))

-- The result for what the members represent.
abbrev pub ReadsChoice : Bool → Choice → Result Confirmation ConfirmationError → Type 0
ReadsChoice concealed (clear v kid) (Ok (confirmed.Key k)) = ReadsKey concealed kid v (Ok k)
ReadsChoice concealed (clear v kid) (Err e) = ReadsKey concealed kid v (Err e)
ReadsChoice concealed (encrypted v) (Ok (confirmed.EncryptedKey m)) = ReadsEncrypted v (Ok m)
ReadsChoice concealed (encrypted v) (Err e) = ReadsEncrypted v (Err e)
ReadsChoice concealed (identified s) (Ok (confirmed.KeyId b)) = b.items ≡ s
ReadsChoice concealed (identified s) (Err e) = e ≡ error.OutOfMemory
ReadsChoice concealed (refused e) r = r ≡ Err e
ReadsChoice concealed c (Ok x) = ⊥

-- ---- the claim

-- The result for the pairs of the claim's map, of which this is the test of distinct labels. Checking the labels may fail
-- for want of memory.
abbrev pub ReadsPairs : Bool → Pairs → Bool → Result Confirmation ConfirmationError → Type 0
ReadsPairs concealed ps distinct (Err error.OutOfMemory) = ⊤
ReadsPairs concealed ps true r = ReadsChoice concealed (chosen ps) r
ReadsPairs concealed ps false r = r ≡ Err error.RepeatedLabel

-- The result for the value of the claim, with its pairs if it is a map.
abbrev pub ReadsMap : Bool → Option Pairs → Result Confirmation ConfirmationError → Type 0
ReadsMap concealed None r = r ≡ Err error.NotAMap
ReadsMap concealed (Some ps) r = ReadsPairs concealed ps (has_distinct_labels ps) r

abbrev pub ReadsClaim : Bool → Item → Result Confirmation ConfirmationError → Type 0
ReadsClaim concealed v r = ReadsMap concealed (as_map v) r

-- The value of the claim of this name.
abbrev pub claim_of : CwtClaimName → ClaimsView → Option Item
claim_of name c = lookup (same_label (assigned (claim_names.number name))) c.rest

-- The result for the value of the claim cnf, if the token has it.
abbrev pub Confirms : Bool → Option Item → Result (Option Confirmation) ConfirmationError → Type 0
Confirms concealed None r = r ≡ Ok None
Confirms concealed (Some v) (Ok None) = ⊥
Confirms concealed (Some v) (Ok (Some c)) = ReadsClaim concealed v (Ok c)
Confirms concealed (Some v) (Err e) = ReadsClaim concealed v (Err e)

-- The result of reading the confirmation of a token.
abbrev pub ReadsConfirmation : TokenView → Result (Option Confirmation) ConfirmationError → Type 0
ReadsConfirmation t r = Confirms (conceal_cnf t.layers) (claim_of Cnf t.known.claims) r
