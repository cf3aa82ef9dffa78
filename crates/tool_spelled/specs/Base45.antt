-- Base45 (RFC 9285).
use Rattle.std.specs.Prelude.{◌≡◌, ◌==◌, ◌&&◌, nat_le, nat_lt, if◌then◌else◌, ◌+◌, ◌-◌, ◌*◌, ◌/◌, ◌%◌, ℕ, List, [], ◌∷◌}
use Rattle.std.specs.Prelude.{Option, Some, None, option_map}

-- The number of a digit: of `0` to `9`, `A` to `Z`, and a space and the signs `$%*+-./:`.
abbrev pub digit_number : ℕ → Option ℕ
digit_number c =
    if nat_le 48 c && nat_le c 57 then Some (c - 48)
    else if nat_le 65 c && nat_le c 90 then Some (c - 65 + 10)
    else if c == 32 then Some 36
    else if c == 36 then Some 37
    else if c == 37 then Some 38
    else if c == 42 then Some 39
    else if c == 43 then Some 40
    else if c == 45 then Some 41
    else if c == 46 then Some 42
    else if c == 47 then Some 43
    else if c == 58 then Some 44
    else None

-- The number if it is below the limit.
abbrev pub below : ℕ → ℕ → Option ℕ
below limit n = if nat_lt n limit then Some n else None

abbrev pub of_two : Option ℕ → Option ℕ → Option ℕ
of_two (Some c) (Some d) = below 256 (c + d * 45)
of_two c d = None

-- The byte of two digits.
abbrev pub two : ℕ → ℕ → Option ℕ
two c d = of_two (digit_number c) (digit_number d)

abbrev pub of_three : Option ℕ → Option ℕ → Option ℕ → Option ℕ
of_three (Some c) (Some d) (Some e) = below 65536 (c + d * 45 + e * 2025)
of_three c d e = None

-- The number of three digits.
abbrev pub three : ℕ → ℕ → ℕ → Option ℕ
three c d e = of_three (digit_number c) (digit_number d) (digit_number e)

-- The two bytes of a number, before other bytes.
abbrev pub two_bytes : Option ℕ → Option (List ℕ) → Option (List ℕ)
two_bytes (Some n) (Some bytes) = Some (n / 256 ∷ n % 256 ∷ bytes)
two_bytes n bytes = None

-- The bytes of a text: two for each three digits, and one for two digits at the end.
abbrev pub base45 : List ℕ → Option (List ℕ)
base45 [] = Some []
base45 (c ∷ []) = None
base45 (c ∷ d ∷ []) = option_map (λ byte. byte ∷ []) (two c d)
base45 (c ∷ d ∷ e ∷ rest) = two_bytes (three c d e) (base45 rest)

-- The text begins with three digits of this number.
abbrev pub IsGroup : List ℕ → ℕ → List ℕ → Type 0
IsGroup text n rest = (c : ℕ) × (d : ℕ) × (e : ℕ) × (text ≡ c ∷ d ∷ e ∷ rest) × (three c d e ≡ Some n)
