-- Errors that say the same.
use Rattle.std.specs.Prelude.{◌≡◌, ⊤}
use Rattle.coset.specs.CoseError.{CoseError}
use Rattle.coset.specs.CoseError.TheVariants.{DecodeFailed, DuplicateMapKey, ExtraneousData, OutOfRangeIntegerValue, UnexpectedItem}
use Rattle.coset.specs.CoseError.TheVariants.{UnregisteredIanaValue, UnregisteredIanaNonPrivateValue}
use Rattle.coset.specs.EndOfFile.{EndOfFile}
use Rattle.coset.specs.Error as decoding

-- Both name the same fault of CBOR, at the same offset if they have one.
abbrev pub AreAlikeInCbor : decoding.Error EndOfFile → decoding.Error EndOfFile → Type 0
AreAlikeInCbor (decoding.TheVariants.Io x) (decoding.TheVariants.Io y) = ⊤
AreAlikeInCbor (decoding.TheVariants.Syntax i) (decoding.TheVariants.Syntax j) = i ≡ j
AreAlikeInCbor (decoding.TheVariants.Semantic i s) (decoding.TheVariants.Semantic j t) = i ≡ j
AreAlikeInCbor decoding.TheVariants.RecursionLimitExceeded decoding.TheVariants.RecursionLimitExceeded = ⊤
AreAlikeInCbor d e = ⊥

-- Both errors say the same of the same bytes.
abbrev pub AreAlike : CoseError → CoseError → Type 0
AreAlike (DecodeFailed d) (DecodeFailed e) = AreAlikeInCbor d e
AreAlike (UnexpectedItem got want) (UnexpectedItem found asked) = (got.now ≡ found.now) × (want.now ≡ asked.now)
AreAlike DuplicateMapKey DuplicateMapKey = ⊤
AreAlike ExtraneousData ExtraneousData = ⊤
AreAlike OutOfRangeIntegerValue OutOfRangeIntegerValue = ⊤
AreAlike UnregisteredIanaValue UnregisteredIanaValue = ⊤
AreAlike UnregisteredIanaNonPrivateValue UnregisteredIanaNonPrivateValue = ⊤
AreAlike d e = ⊥
