-- The statuses of refusals.
use Rattle.coset.specs.EndOfFile.{EndOfFile}
use Rattle.coset.specs.Error.{Error}
use Rattle.coset.specs.Error.TheVariants as decoding
use Rattle.coset.specs.CoseError.{CoseError}
use Rattle.coset.specs.CoseError.TheVariants as cose
use Rattle.ffi_query.specs.declared.refusal.Refusal as refusals
use Rattle.ffi_query.specs.declared.refusal.Refusal.TheVariants as refused
use Rattle.ffi_query.specs.declared.refusal.Status.{Status}
use Rattle.ffi_query.specs.declared.refusal.Status.TheVariants.{Short, Memory, Ends, Malformed, Deep, Extraneous, Unexpected, Duplicate, OutOfRange}
use Rattle.ffi_query.specs.declared.refusal.Status.TheVariants.{Unregistered, NotPrivate, Absent, WrongType, Empty, Misuse}

-- The status of a CBOR decoding error.
abbrev pub decoding_status : Error EndOfFile → Status
decoding_status (decoding.Io x) = Ends
decoding_status (decoding.Syntax n) = Malformed
decoding_status (decoding.Semantic n t) = Malformed
decoding_status decoding.RecursionLimitExceeded = Deep
decoding_status decoding.OutOfMemory = Memory

-- The status of an error.
abbrev pub cose_status : CoseError → Status
cose_status (cose.DecodeFailed e) = decoding_status e
cose_status cose.DuplicateMapKey = Duplicate
cose_status cose.EncodeFailed = Unexpected
cose_status cose.ExtraneousData = Extraneous
cose_status cose.OutOfRangeIntegerValue = OutOfRange
cose_status (cose.UnexpectedItem got want) = Unexpected
cose_status cose.UnregisteredIanaValue = Unregistered
cose_status cose.UnregisteredIanaNonPrivateValue = NotPrivate
cose_status cose.OutOfMemory = Memory

-- The status of a refusal.
abbrev pub refusal_status : refusals.Refusal → Status
refusal_status (refused.Short n) = Short
refusal_status refused.Absent = Absent
refusal_status refused.WrongType = WrongType
refusal_status refused.Empty = Empty
refusal_status refused.Misuse = Misuse
refusal_status (refused.Cose e) = cose_status e
