-- Texts that consist of pieces. Each piece stands for one byte, or for none.
use Rattle.std.specs.Prelude.{◌≡◌, ◌==◌, ◌&&◌, ◌||◌, ◌<◌, ◌≤◌, ◌+◌, ◌⊎◌, not, nat_le, if◌then◌else◌}
use Rattle.std.specs.Prelude.{ℕ, Bool, true, List, [], ◌∷◌, ◌++◌, length, Option, Some, None}
use Rattle.tool_spelled.specs.Hexadecimal.{IsByte, IsHexadecimal, is_between}
use Rattle.tool_spelled.specs.Number.{number}
use Rattle.tool_spelled.specs.declared.pieces.Format.{Format}
use Rattle.tool_spelled.specs.declared.pieces.Format.TheVariants as formats
use Rattle.tool_spelled.specs.declared.pieces.Next.{Next}
use Rattle.tool_spelled.specs.declared.pieces.Next.TheVariants as next

-- ---- arrays

-- The characters between elements: white space and a comma.
abbrev pub is_gap : ℕ → Bool
is_gap c = c == 9 || c == 10 || c == 12 || c == 13 || c == 32 || c == 44

-- The text is empty or begins with such a character.
abbrev pub begins_with_gap : List ℕ → Bool
begins_with_gap [] = true
begins_with_gap (c ∷ rest) = is_gap c

-- The word without a suffix `u8`.
abbrev pub IsWithoutSuffix : List ℕ → List ℕ → Type 0
IsWithoutSuffix word digits = (word ≡ digits) ⊎ (word ≡ digits ++ (117 ∷ 56 ∷ []))

-- The digits are the number, in decimal or in hexadecimal after `0x`.
pub data IsNumber : List ℕ → ℕ → Type 0 where
  decimal : (v : ℕ) (digits : List ℕ) → 0 < length digits → number 10 0 digits ≡ Some v → IsNumber digits v
  hexadecimal :
      (x v : ℕ) (digits : List ℕ) → (x == 120 || x == 88) ≡ true → 0 < length digits → number 16 0 digits ≡ Some v
      → IsNumber (48 ∷ x ∷ digits) v

-- The word is an element with this value.
pub record IsElement (word : List ℕ) (v : ℕ) : Type 0 where
  pub digits : List ℕ
  pub suffixed : IsWithoutSuffix word digits
  pub is_number : IsNumber digits v

-- ---- literals of bytes

-- Printable ASCII, except for a backslash.
abbrev pub is_plain : ℕ → Bool
is_plain c = (nat_le 32 c && nat_le c 126) && not (c == 92)

-- The byte of the character after a backslash: of `n`, `r`, `t`, a backslash, and quotes.
abbrev pub escape : ℕ → Option ℕ
escape c = if c == 110 then Some 10 else if c == 114 then Some 13 else if c == 116 then Some 9 else if c == 92 || c == 39 || c == 34 then Some c else None

-- A character for itself, an escape, or `\x` with two digits.
pub data IsLiteral : List ℕ → ℕ → Type 0 where
  plain : (c : ℕ) → is_plain c ≡ true → IsLiteral (c ∷ []) c
  escaped : (c v : ℕ) → escape c ≡ Some v → IsLiteral (92 ∷ c ∷ []) v
  coded : (x y v : ℕ) → IsByte x y v → IsLiteral (92 ∷ 120 ∷ x ∷ y ∷ []) v

-- ---- percent-encoding

-- The characters that stand for themselves: printable ASCII, except for `"#%+<>\^`{|}`.
abbrev pub is_of_url : ℕ → Bool
is_of_url c = nat_le 33 c && nat_le c 126
    && not (c == 34 || c == 35 || c == 37 || c == 43 || c == 60 || c == 62 || c == 92 || c == 94 || c == 96)
    && not (c == 123 || c == 124 || c == 125)

-- A character for itself, or `%` with two digits.
pub data IsPercent : List ℕ → ℕ → Type 0 where
  unescaped : (c : ℕ) → is_of_url c ≡ true → IsPercent (c ∷ []) c
  percent : (x y v : ℕ) → IsByte x y v → IsPercent (37 ∷ x ∷ y ∷ []) v

-- ---- all of these

-- The piece, which is before this rest, stands for the byte.
abbrev pub IsPiece : Format → List ℕ → ℕ → List ℕ → Type 0
IsPiece formats.Hexadecimal piece v rest = IsHexadecimal piece v
IsPiece formats.Array piece v rest = IsElement piece v × (begins_with_gap rest ≡ true)
IsPiece formats.Literal piece v rest = IsLiteral piece v
IsPiece formats.Percent piece v rest = IsPercent piece v

-- The character may be between pieces.
abbrev pub IsGap : Format → ℕ → Type 0
IsGap formats.Hexadecimal c = is_between c ≡ true
IsGap formats.Array c = is_gap c ≡ true
IsGap formats.Literal c = ⊥
IsGap formats.Percent c = ⊥

-- The text consists of pieces that stand for the bytes, and of characters between them.
pub data ArePieces (f : Format) : List ℕ → List ℕ → Type 0 where
  ends : ArePieces f [] []
  gap : (c : ℕ) (t b : List ℕ) → IsGap f c → ArePieces f t b → ArePieces f (c ∷ t) b
  piece : (p t b : List ℕ) (v : ℕ) → IsPiece f p v t → ArePieces f t b → ArePieces f (p ++ t) (v ∷ b)

-- The first piece or gap of a text.
abbrev pub IsFirstPiece : Format → List ℕ → Next → Type 0
IsFirstPiece f text next.End = text ≡ []
IsFirstPiece f text (next.Between rest) = (c : ℕ) × (text ≡ c ∷ rest.now) × IsGap f c
IsFirstPiece f text (next.Byte v rest) = (p : List ℕ) × (text ≡ p ++ rest.now) × IsPiece f p v rest.now × (0 < length p)
IsFirstPiece f text (next.Misspelled n) = n ≤ length text

-- The byte of an escape whose backslash is before the text, and the offset of a fault from the backslash.
abbrev pub IsEscape : List ℕ → Next → Type 0
IsEscape text (next.Byte v rest) = (p : List ℕ) × (92 ∷ text ≡ p ++ rest.now) × IsLiteral p v × (0 < length p)
IsEscape text (next.Misspelled n) = n ≤ length text + 1
IsEscape text n = ⊥
