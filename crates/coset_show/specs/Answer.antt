-- The output and the exit status of the program.
use Rattle.std.specs.Prelude.{◌≡◌, ◌⊎◌, ◌||◌, ◌==◌, not, ℕ, Bool, List, ◌++◌, filter, codes, Ok}
use Rattle.hex.specs.Hex.{decode_of}
use Rattle.coset.specs.CoseError.TheVariants.{OutOfMemory}
use Rattle.coset_show.specs.declared.kind.Kind.{Kind}
use Rattle.coset_show.specs.declared.refusal.Refusal.{Refusal}
use Rattle.coset_show.specs.declared.refusal.Refusal.TheVariants.{Unreadable, NotHexadecimal, Cose}
use Rattle.coset_show.specs.Refusal.{refusal_text}
use Rattle.coset_show.specs.Show.{line}
use Rattle.coset_show.specs.Kind.{ShowsBytes, RefusesBytes}

-- Tab, line feed, carriage return and space.
abbrev pub is_space : ℕ → Bool
is_space c = (c == 9) || (c == 10) || (c == 13) || (c == 32)

abbrev pub without_space : List ℕ → List ℕ
without_space input = filter (λ c. not (is_space c)) input

-- The input is b in hexadecimal, apart from white space.
abbrev pub IsHexadecimalOf : List ℕ → List ℕ → Type 0
IsHexadecimalOf input b = decode_of (without_space input) ≡ Ok b

-- The input isn't hexadecimal, or an allocation failed.
abbrev pub RefusesHexadecimal : List ℕ → Refusal → Type 0
RefusesHexadecimal input NotHexadecimal = (b : List ℕ) → IsHexadecimalOf input b → ⊥
RefusesHexadecimal input (Cose error) = error ≡ OutOfMemory
RefusesHexadecimal input Unreadable = ⊥

-- The refusal is true of the input.
abbrev pub RefusesInput : Kind → List ℕ → Refusal → Type 0
RefusesInput kind input refusal = RefusesHexadecimal input refusal ⊎ ((b : List ℕ) × IsHexadecimalOf input b × RefusesBytes kind b refusal)

-- The lines show the bytes that the input spells.
abbrev pub ShowsInput : Kind → List ℕ → List ℕ → Type 0
ShowsInput kind input lines = (b : List ℕ) × IsHexadecimalOf input b × ShowsBytes kind b lines

-- The line for a refusal.
abbrev pub refusal_line : Refusal → List ℕ
refusal_line refusal = line (codes "error: " ++ refusal_text refusal)

-- The output and the exit status for an input that was read to its end.
abbrev pub AnswersInput : Kind → List ℕ → List ℕ → ℕ → Type 0
AnswersInput kind input lines status =
    (ShowsInput kind input lines × (status ≡ 0))
    ⊎ ((refusal : Refusal) × RefusesInput kind input refusal × (lines ≡ refusal_line refusal) × (status ≡ 1))

-- The output for a kind that isn't known.
abbrev pub usage_line : List ℕ
usage_line = line (codes "usage: coset_show KIND")
