-- The texts of the reasons.
use Rattle.std.specs.Prelude.{ℕ, List, codes, Option, Some}
use Rattle.cwt_ring.specs.declared.error.KeyError.{KeyError}
use Rattle.cwt_ring.specs.declared.error.KeyError.TheVariants.{NoKey, Cipher, TooManyKeys}

-- The text of a reason. For the ciphers' own error, `text` gives it.
abbrev pub key_error_text : {E : Type 0} → (E → Option (List ℕ)) → KeyError E → Option (List ℕ)
key_error_text text NoKey = Some (codes "no key fits")
key_error_text text (Cipher e) = text e
key_error_text text TooManyKeys = Some (codes "too many keys fit")
