-- The text of each refusal.
use Rattle.std.specs.Prelude.{ℕ, List, [], ◌++◌, codes, Some, None}
use Rattle.std.specs.Option.{unwrap_or}
use Rattle.std.specs.Fmt.{decimal}
use Rattle.coset.specs.EndOfFile.{EndOfFile}
use Rattle.coset.specs.Error.{Error}
use Rattle.coset.specs.Error.TheVariants as errors
use Rattle.coset.specs.CoseError.{CoseError}
use Rattle.coset.specs.CoseError.TheVariants as cose
use Rattle.coset.specs.Errors.{error_text}
use Rattle.hex.specs.declared.error.FromHexError.{FromHexError}
use Rattle.hex.specs.declared.error.FromHexError.TheVariants as hex_errors
use Rattle.coset_show.specs.declared.refusal.Refusal.{Refusal}
use Rattle.coset_show.specs.declared.refusal.Refusal.TheVariants.{Unreadable, NotHexadecimal, Cose}

-- The text of an error of the CBOR reader.
abbrev pub fault_text : Error EndOfFile → List ℕ
fault_text (errors.Io x) = codes "Io(EndOfFile)"
fault_text (errors.Syntax at) = codes "Syntax(" ++ decimal at ++ codes ")"
fault_text (errors.Semantic None text) = codes "Semantic(None, \"" ++ text.now ++ codes "\")"
fault_text (errors.Semantic (Some at) text) = codes "Semantic(Some(" ++ decimal at ++ codes "), \"" ++ text.now ++ codes "\")"
fault_text errors.RecursionLimitExceeded = codes "RecursionLimitExceeded"
fault_text errors.OutOfMemory = codes "OutOfMemory"

-- The text of an error. Errors of the CBOR reader have a prefix, and every other error has a text of its own.
abbrev pub cose_text : CoseError → List ℕ
cose_text (cose.DecodeFailed error) = codes "decode CBOR failure: " ++ fault_text error
cose_text error = unwrap_or (error_text error) []

abbrev pub refusal_text : Refusal → List ℕ
refusal_text Unreadable = codes "input cannot be read"
refusal_text NotHexadecimal = codes "input is not hexadecimal"
refusal_text (Cose error) = cose_text error

-- An allocation failed.
abbrev pub no_memory : Refusal
no_memory = Cose cose.OutOfMemory

-- The refusal for an error of the hexadecimal decoder.
abbrev pub hex_refusal_of : FromHexError → Refusal
hex_refusal_of (hex_errors.InvalidHexCharacter c index) = NotHexadecimal
hex_refusal_of hex_errors.OddLength = NotHexadecimal
hex_refusal_of hex_errors.InvalidStringLength = NotHexadecimal
hex_refusal_of hex_errors.OutOfMemory = no_memory
