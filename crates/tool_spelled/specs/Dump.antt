-- Dumps: lines of an offset, bytes, and a text beside them.
use Rattle.std.specs.Prelude.{◌≡◌, ◌==◌, ◌||◌, ◌<◌, ◌+◌, if◌then◌else◌}
use Rattle.std.specs.Prelude.{ℕ, List, [], ◌∷◌, ◌++◌, Bool, true, Some, length}
use Rattle.tool_spelled.specs.Number.{number}
use Rattle.tool_spelled.specs.Pieces.{ArePieces}
use Rattle.tool_spelled.specs.declared.dump.Line.{Line}
use Rattle.tool_spelled.specs.declared.pieces.Format.TheVariants.{Hexadecimal}

-- White space, which may be before an offset.
abbrev pub is_blank : ℕ → Bool
is_blank c = c == 9 || c == 10 || c == 12 || c == 13 || c == 32

-- The text after the first line break.
abbrev pub after_line : List ℕ → List ℕ
after_line [] = []
after_line (c ∷ rest) = if c == 10 then rest else after_line rest

-- The digits of this radix are the offset.
abbrev pub IsAt : ℕ → ℕ → List ℕ → Type 0
IsAt radix offset digits = (0 < length digits) × (number radix 0 digits ≡ Some offset)

-- The text is a dump of the bytes from this offset on. Each line is its offset, bytes in hexadecimal, and a text beside them.
pub data IsDump (radix : ℕ) : ℕ → List ℕ → List ℕ → Type 0 where
  ends : (n : ℕ) → IsDump radix n [] []
  blank : (n c : ℕ) (text bytes : List ℕ) → is_blank c ≡ true → IsDump radix n text bytes → IsDump radix n (c ∷ text) bytes
  line :
      (n : ℕ) (offset fields side rest bytes more : List ℕ) → IsAt radix n offset → ArePieces Hexadecimal fields bytes
      → after_line ((fields ++ side) ++ rest) ≡ rest → IsDump radix (n + length bytes) rest more → IsDump radix n (offset ++ ((fields ++ side) ++ rest)) (bytes ++ more)

-- If the rest is a dump from the offset after these bytes on, the text is a dump of these bytes and the others.
abbrev pub BeginsDump : ℕ → ℕ → List ℕ → List ℕ → List ℕ → Type 0
BeginsDump radix n text bytes rest =
    ((more : List ℕ) → IsDump radix (n + length bytes) rest more → IsDump radix n text (bytes ++ more)) × (length rest < length text)

-- The parts of the first line, and the text after it.
pub record IsLine (text : List ℕ) (l : Line) : Type 0 where
  pub parts : text ≡ l.offset.now ++ ((l.fields.now ++ l.side.now) ++ l.rest.now)
  pub behind : after_line ((l.fields.now ++ l.side.now) ++ l.rest.now) ≡ l.rest.now
  pub shorter : 0 < length text → length l.rest.now < length text
