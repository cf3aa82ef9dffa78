-- The bytes of an input.
use Rattle.std.specs.Prelude.{◌≡◌, ◌==◌, ◌&&◌, ◌||◌, ◌⊎◌, nat_le, not, ℕ, List, Bool, true, false, EachIndex, slice_index, IsUtf8}
use Rattle.tool_notation.specs.Encoding.{IsSequence}
use Rattle.tool_spelled.specs.Spelled.{Reads}
use Rattle.tool_spelled.specs.declared.framed.Spelling.{Spelling}

-- The input spells the bytes.
pub record IsSpelled (input bytes : List ℕ) : Type 0 where
  pub spelling : Spelling
  pub reads : Reads spelling input bytes

-- A character of a text: white space, or a byte that is no control character.
abbrev pub is_shown : ℕ → Bool
is_shown c = c == 9 || c == 10 || c == 12 || c == 13 || (nat_le 32 c && not (c == 127))

-- A mark of notation that hexadecimal and base64 don't have: `"`, `#`, `(`, `.`, `<`, `[`, `{`.
abbrev pub is_mark : ℕ → Bool
is_mark c = c == 34 || c == 35 || c == 40 || c == 46 || c == 60 || c == 91 || c == 123

-- The input may be diagnostic notation: UTF-8 with a mark, and without control characters other than white space.
pub record MayBeNotation (input : List ℕ) : Type 0 where
  pub utf8 : IsUtf8 input
  pub shown : EachIndex input (λ k. is_shown (slice_index input k) ≡ true)
  pub marked : EachIndex input (λ k. is_mark (slice_index input k) ≡ false) → ⊥

-- The bytes are those that the input spells. For an input that may be notation, or is said to be, they are some well-formed items.
abbrev pub Means : Bool → List ℕ → List ℕ → Type 0
Means false input bytes = IsSpelled input bytes ⊎ (MayBeNotation input × IsSequence bytes)
Means true input bytes = IsUtf8 input × IsSequence bytes
