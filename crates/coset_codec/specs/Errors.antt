-- The texts of errors, and definitions about errors for contracts.
use Rattle.std.specs.Prelude.{◌≡◌, ℕ, List, ◌++◌, codes, Option, Some, None, Result, Ok, Err, ⊤}
use Rattle.coset_cbor.specs.declared.de.Error as decoding
use Rattle.coset_codec.specs.declared.error.CallError.{CallError}
use Rattle.coset_codec.specs.declared.error.CallError.TheVariants.{Coset, Caller}
use Rattle.coset_codec.specs.declared.error.CoseError.{CoseError}
use Rattle.coset_codec.specs.declared.error.ErrorStored.{ErrorStored}
use Rattle.coset_codec.specs.declared.error.CoseError.TheVariants.{DecodeFailed, DuplicateMapKey, EncodeFailed, ExtraneousData, OutOfRangeIntegerValue}
use Rattle.coset_codec.specs.declared.error.CoseError.TheVariants.{UnexpectedItem, UnregisteredIanaValue, UnregisteredIanaNonPrivateValue, OutOfMemory}

-- The text of an error. For a failed decoding, contracts say nothing about the text; tests show it.
abbrev pub error_text : CoseError → Option (List ℕ)
error_text (DecodeFailed e) = None
error_text DuplicateMapKey = Some (codes "duplicate map key")
error_text EncodeFailed = Some (codes "encode CBOR failure")
error_text ExtraneousData = Some (codes "extraneous data in CBOR input")
error_text OutOfRangeIntegerValue = Some (codes "out of range integer value")
error_text (UnexpectedItem got want) = Some (codes "got " ++ got.now ++ codes ", expected " ++ want.now)
error_text UnregisteredIanaValue = Some (codes "expected recognized IANA value")
error_text UnregisteredIanaNonPrivateValue = Some (codes "expected value in IANA or private use range")
error_text OutOfMemory = Some (codes "out of memory")

-- The text of an error of a call that takes a closure. This is the text of the error inside, and `text` gives it for
-- the closure's error.
abbrev pub call_error_text : {E : Type 0} → (E → Option (List ℕ)) → CallError E → Option (List ℕ)
call_error_text text (Coset e) = error_text e
call_error_text text (Caller e) = text e

-- An item is not as its place requires.
abbrev pub IsUnexpected : CoseError → Type 0
IsUnexpected (UnexpectedItem got want) = ⊤
IsUnexpected e = ⊥

-- The error for a failed decoding. `Io` becomes the end of the input, whatever the reader's own error is. `OutOfMemory`
-- stays `OutOfMemory`.
abbrev pub decode_failure : {T : Type 0} → decoding.Error T → CoseError
decode_failure (decoding.TheVariants.Io x) = DecodeFailed (decoding.TheVariants.Io (record {}))
decode_failure (decoding.TheVariants.Syntax n) = DecodeFailed (decoding.TheVariants.Syntax n)
decode_failure (decoding.TheVariants.Semantic n s) = DecodeFailed (decoding.TheVariants.Semantic n s)
decode_failure decoding.TheVariants.RecursionLimitExceeded = DecodeFailed decoding.TheVariants.RecursionLimitExceeded
decode_failure decoding.TheVariants.OutOfMemory = OutOfMemory

-- The error meets a condition, unless it is `OutOfMemory`.
abbrev pub UnlessMemory : CoseError → (CoseError → Type 0) → Type 0
UnlessMemory e stands = (e ≡ OutOfMemory → ⊥) → stands e

-- The result of a call that fills places: `made` of its value, or the error e in its place.
abbrev pub made_in_place : {T A : Type 0} → (A → T) → CoseError → Result A ErrorStored → Result T CoseError
made_in_place made e (Ok x) = Ok (made x)
made_in_place made e (Err r) = Err e

-- The result of a call that stores its error: the value, or the error e in its place.
abbrev pub stored : {T : Type 0} → CoseError → Result T ErrorStored → Result T CoseError
stored e (Ok x) = Ok x
stored e (Err r) = Err e
