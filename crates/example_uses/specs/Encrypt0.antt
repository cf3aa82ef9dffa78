-- Encrypted messages for receivers that know the key (RFC 8152, section 5.2).
use Rattle.std.specs.Prelude.{◌≡◌, ℕ, List, Result, Ok, Err, Vec}
use Rattle.std.specs.Global.{Global}
use Rattle.coset_codec.specs.ReadAgain.{IsWritten}
use Rattle.coset_codec.specs.declared.error.CallError.{CallError}
use Rattle.coset_codec.specs.declared.error.CallError.TheVariants.{Coset, Caller}
use Rattle.coset_codec.specs.declared.error.CoseError.TheVariants.{OutOfMemory}
use Rattle.coset_label.specs.LabelData.{RegisteredLabelView}
use Rattle.coset_core.specs.Built.{with_algorithm, with_iv}
use Rattle.coset_core.specs.Headers.{empty_header}
use Rattle.coset_core.specs.Messages.{unread}
use Rattle.coset_msg.specs.Encrypt0.{Encrypt0View, empty_encrypt0, encrypt0, encrypt0_structure, with_ciphertext}
use Rattle.example_uses.specs.Asked.{Asker, MakesOf, Says}

-- A message with this algorithm in its protected and this initialization vector in its unprotected header, not
-- encrypted.
abbrev pub unsealed : RegisteredLabelView → List ℕ → Encrypt0View
unsealed a iv = record empty_encrypt0 { protected = unread (with_algorithm a empty_header); unprotected = with_iv iv empty_header }

-- The result of encrypting it: its bytes with what f made from the plaintext, the error of f, or `OutOfMemory`.
abbrev pub EncryptsAlone :
    {F E : Type 0} → Asker F (Vec ℕ Global) E → F → RegisteredLabelView → List ℕ → List ℕ → List ℕ → Result (Vec ℕ Global) (CallError E) → Type 0
EncryptsAlone g f a iv external_aad plaintext (Ok b) =
    (c : List ℕ)
    × IsWritten encrypt0 (with_ciphertext c (unsealed a iv)) b.items
    × MakesOf g f plaintext (encrypt0_structure (unsealed a iv) external_aad) c
EncryptsAlone g f a iv external_aad plaintext (Err (Caller e)) = Says g f plaintext (encrypt0_structure (unsealed a iv) external_aad) (Err e)
EncryptsAlone g f a iv external_aad plaintext (Err (Coset e)) = e ≡ OutOfMemory
