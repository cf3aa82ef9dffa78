-- Bytes in base64 and base64url (RFC 4648, sections 4 and 5).
use Rattle.std.specs.Prelude.{◌≡◌, ◌==◌, ◌&&◌, ◌||◌, ◌+◌, ◌-◌, ◌*◌, ◌/◌, ◌%◌, nat_le, if◌then◌else◌, ℕ, List, [], ◌∷◌, ◌++◌, Bool, true}
use Rattle.std.specs.Prelude.{Option, Some, None, option_map}

-- The characters that may be between digits: white space.
abbrev pub is_break : ℕ → Bool
is_break c = c == 9 || c == 10 || c == 12 || c == 13 || c == 32

-- The number of a digit: of `A` to `Z`, `a` to `z`, `0` to `9`, and `+` or `-`, `/` or `_`.
abbrev pub digit_number : ℕ → Option ℕ
digit_number c =
    if nat_le 65 c && nat_le c 90 then Some (c - 65)
    else if nat_le 97 c && nat_le c 122 then Some (c - 97 + 26)
    else if nat_le 48 c && nat_le c 57 then Some (c - 48 + 52)
    else if c == 43 || c == 45 then Some 62
    else if c == 47 || c == 95 then Some 63
    else None

-- The numbers of the digits of a text, in order.
pub data AreDigits : List ℕ → List ℕ → Type 0 where
  ends : AreDigits [] []
  between : (c : ℕ) (t n : List ℕ) → is_break c ≡ true → AreDigits t n → AreDigits (c ∷ t) n
  digit : (c v : ℕ) (t n : List ℕ) → digit_number c ≡ Some v → AreDigits t n → AreDigits (c ∷ t) (v ∷ n)

-- The bytes of a group of four digits of six bits each.
abbrev pub first_byte : ℕ → ℕ → ℕ
first_byte a b = a % 64 * 4 + b / 16 % 4

abbrev pub second_byte : ℕ → ℕ → ℕ
second_byte b c = b % 16 * 16 + c / 4 % 16

abbrev pub third_byte : ℕ → ℕ → ℕ
third_byte c d = c % 4 * 64 + d % 64

-- The bytes of digits with these numbers, in groups of four. The last group may have two or three digits.
abbrev pub bytes_of : List ℕ → Option (List ℕ)
bytes_of [] = Some []
bytes_of (a ∷ []) = None
bytes_of (a ∷ b ∷ []) = Some (first_byte a b ∷ [])
bytes_of (a ∷ b ∷ c ∷ []) = Some (first_byte a b ∷ second_byte b c ∷ [])
bytes_of (a ∷ b ∷ c ∷ d ∷ rest) = option_map (λ bytes. first_byte a b ∷ second_byte b c ∷ third_byte c d ∷ bytes) (bytes_of rest)

-- At most two signs `=`.
pub data IsPadding : List ℕ → Type 0 where
  none : IsPadding []
  one : IsPadding (61 ∷ [])
  two : IsPadding (61 ∷ 61 ∷ [])

-- The text spells the bytes.
pub record IsBase64 (text bytes : List ℕ) : Type 0 where
  pub digits : List ℕ
  pub padding : List ℕ
  pub parts : text ≡ digits ++ padding
  pub padded : IsPadding padding
  pub numbers : List ℕ
  pub are : AreDigits digits numbers
  pub spelled : bytes_of numbers ≡ Some bytes
