-- The texts of the reasons.
use Rattle.std.specs.Prelude.{ℕ, List, codes, Option, Some}
use Rattle.std.specs.Fmt.{◌++?◌}
use Rattle.coset.specs.Errors.{error_text}
use Rattle.cwt_confirm.specs.declared.error.ConfirmationError.{ConfirmationError}
use Rattle.cwt_confirm.specs.declared.error.ConfirmationError.TheVariants as confirmation
use Rattle.cwt_confirm.specs.declared.nonce.NonceError.{NonceError}
use Rattle.cwt_confirm.specs.declared.nonce.NonceError.TheVariants as nonce

-- The text of a reason against a confirmation claim.
abbrev pub confirmation_error_text : ConfirmationError → Option (List ℕ)
confirmation_error_text confirmation.OutOfMemory = Some (codes "out of memory")
confirmation_error_text confirmation.NotAMap = Some (codes "the confirmation is no map")
confirmation_error_text confirmation.RepeatedLabel = Some (codes "a label is repeated")
confirmation_error_text confirmation.SeveralKeys = Some (codes "several keys")
confirmation_error_text confirmation.KeyId = Some (codes "not a key identifier")
confirmation_error_text confirmation.NoKey = Some (codes "no key")
confirmation_error_text (confirmation.Malformed e) = Some (codes "not a key: ") ++? error_text e
confirmation_error_text confirmation.Incomplete = Some (codes "the key is incomplete")
confirmation_error_text confirmation.PrivateKey = Some (codes "the key is private")
confirmation_error_text confirmation.KeyInTheClear = Some (codes "a symmetric key in the clear")
confirmation_error_text confirmation.AnotherKeyId = Some (codes "the key has another identifier")
confirmation_error_text confirmation.NoCiphertext = Some (codes "the encrypted key has no ciphertext")

-- The text of a reason against nonces.
abbrev pub nonce_error_text : NonceError → Option (List ℕ)
nonce_error_text nonce.OutOfMemory = Some (codes "out of memory")
nonce_error_text nonce.NotNonces = Some (codes "not nonces of 8 to 64 bytes")
