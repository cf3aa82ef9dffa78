-- Heads at the start of bytes (RFC 8949, section 3). The high three bits of the initial byte are the major type. The
-- low five are the additional information, which announces the argument.
use Rattle.std.specs.Prelude.{◌≡◌, ◌+◌, ◌*◌, ◌⊎◌, ℕ, List, [], ◌∷◌, ◌++◌, length, Option, Some, None, ◌==◌, if◌then◌else◌}
use Rattle.coset_cbor.specs.Faults.{HasReservedInfo, LacksArgument}
use Rattle.coset_cbor.specs.Grammar.{IsHead}
use Rattle.coset_cbor.specs.Heads.{major_type_number}
use Rattle.coset_cbor.specs.Reading.{argument_from, number_of}
use Rattle.coset_cbor.specs.declared.de.EndOfFile.{EndOfFile}
use Rattle.coset_cbor.specs.declared.de.Error.{Error}
use Rattle.coset_cbor.specs.declared.de.Error.TheVariants as errors
use Rattle.coset_cbor.specs.declared.head.Head.{Head}

-- How many bytes the argument takes after the initial byte, by the additional information.
abbrev pub width_of : ℕ → ℕ
width_of info = if info == 24 then 1 else (if info == 25 then 2 else (if info == 26 then 4 else (if info == 27 then 8 else 0)))

-- The argument, or `None` if there is none.
abbrev pub head_number : Head → Option ℕ
head_number h = number_of (argument_from h.info h.number)

-- The initial byte: the major type in the high three bits, the additional information in the low five.
abbrev pub initial_byte : Head → ℕ
initial_byte h = 32 * major_type_number h.major_type + h.info

-- f is a head of major type m with that argument. Without an argument, f is an initial byte with additional information
-- 31, for an indefinite length or the break.
abbrev pub IsHeadOf : ℕ → Option ℕ → List ℕ → Type 0
IsHeadOf m (Some n) f = IsHead m n f
IsHeadOf m None f = f ≡ (32 * m + 31) ∷ []

-- b begins with the head h, and s follows it.
pub record BeginsWithHead (b : List ℕ) (h : Head) (s : List ℕ) : Type 0 where
  pub argument : List ℕ
  pub parts : b ≡ (initial_byte h ∷ argument) ++ s
  pub width : length argument ≡ width_of h.info
  pub is_head : IsHeadOf (major_type_number h.major_type) (head_number h) (initial_byte h ∷ argument)

-- The bytes end before the head does.
abbrev pub EndsInHead : List ℕ → Type 0
EndsInHead b = (b ≡ []) ⊎ LacksArgument b

-- The error says why b begins with no head: the bytes end too early, or the additional information is reserved.
abbrev pub HasNoHead : List ℕ → Error EndOfFile → Type 0
HasNoHead b (errors.Io x) = EndsInHead b
HasNoHead b (errors.Syntax i) = (i ≡ 0) × HasReservedInfo b
HasNoHead b (errors.Semantic o s) = ⊥
HasNoHead b errors.RecursionLimitExceeded = ⊥
HasNoHead b errors.OutOfMemory = ⊥
