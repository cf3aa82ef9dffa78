-- Numbers.
use Rattle.std.specs.Prelude.{◌+◌, ◌*◌, nat_lt, if◌then◌else◌, ℕ, List, [], ◌∷◌, Option, Some, None}
use Rattle.std.specs.Char.{digit_value}

-- The number that the digits write in this radix, after digits that write so_far.
abbrev pub number : ℕ → ℕ → List ℕ → Option ℕ
number radix so_far [] = Some so_far
number radix so_far (d ∷ rest) = if nat_lt (digit_value d) radix then number radix (so_far * radix + digit_value d) rest else None
