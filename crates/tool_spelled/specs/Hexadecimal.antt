-- Bytes in hexadecimal (RFC 4648, section 8).
use Rattle.std.specs.Prelude.{◌≡◌, ◌==◌, ◌&&◌, ◌||◌, ◌<◌, ◌≤◌, ◌+◌, ◌*◌, ◌⊎◌}
use Rattle.std.specs.Prelude.{ℕ, List, [], ◌∷◌, Bool, true, length}
use Rattle.std.specs.Char.{digit_value}
use Rattle.tool_spelled.specs.declared.pieces.Next.{Next}
use Rattle.tool_spelled.specs.declared.pieces.Next.TheVariants as next

-- The characters that may be between bytes: white space, a comma, a colon.
abbrev pub is_between : ℕ → Bool
is_between c = c == 9 || c == 10 || c == 12 || c == 13 || c == 32 || c == 44 || c == 58

-- `0x` and `\x`, with `x` in either case.
abbrev pub is_prefix : ℕ → ℕ → Bool
is_prefix c x = (c == 48 || c == 92) && (x == 120 || x == 88)

-- The byte of two digits of either case.
abbrev pub IsByte : ℕ → ℕ → ℕ → Type 0
IsByte x y v = (digit_value x < 16) × (digit_value y < 16) × (v ≡ digit_value x * 16 + digit_value y)

-- Two digits, which a prefix may precede.
pub data IsHexadecimal : List ℕ → ℕ → Type 0 where
  digits : (x y v : ℕ) → IsByte x y v → IsHexadecimal (x ∷ y ∷ []) v
  prefixed : (c p x y v : ℕ) → is_prefix c p ≡ true → IsByte x y v → IsHexadecimal (c ∷ p ∷ x ∷ y ∷ []) v

-- The rest is the text, or the text after a prefix.
abbrev pub IsBehindPrefix : List ℕ → List ℕ → Type 0
IsBehindPrefix text rest = (rest ≡ text) ⊎ ((c : ℕ) × (p : ℕ) × (text ≡ c ∷ p ∷ rest) × (is_prefix c p ≡ true))

-- The next piece of a text is a byte without a prefix.
abbrev pub BeginsWithByte : List ℕ → Next → Type 0
BeginsWithByte text (next.Byte v rest) = (x : ℕ) × (y : ℕ) × (text ≡ x ∷ y ∷ rest.now) × IsByte x y v
BeginsWithByte text (next.Misspelled n) = n ≤ length text
BeginsWithByte text n = ⊥
