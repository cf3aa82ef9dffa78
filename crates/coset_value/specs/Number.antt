-- Binary floats as numbers (IEEE 754, section 3.4).
use Rattle.std.specs.Prelude.{◌≡◌, ◌==◌, ◌+◌, ◌*◌, ◌/◌, ◌%◌, ◌^◌, ℕ, zero, suc, nat_le, Bool, Option, Some, None, if◌then◌else◌}
use Rattle.std.specs.Float.Ieee as ieee
use lib.Ieee.Exact.{HasValue}
use Rattle.coset_value.specs.Item.{Bits, half, single, double}

-- A binary format: how many fractions and how many exponents its bits distinguish. 2 ^ scale times its least positive
-- number is 1.
pub record Format : Type 0 where
  pub fractions : ℕ
  pub exponents : ℕ
  pub scale : ℕ

-- A number: its sign and its magnitude in units. 2 ^ scale units make 1.
pub record Number : Type 0 where
  pub is_negative : Bool
  pub units : ℕ
  pub scale : ℕ

-- The magnitude, in units, of an exponent and a fraction. With exponent 0 it is the fraction itself. With a larger
-- exponent, a 1 bit stands before the fraction, and each step above exponent 1 doubles the result.
abbrev pub units_of : ℕ → ℕ → ℕ → ℕ
units_of fractions zero f = f
units_of fractions (suc e) f = (fractions + f) * 2 ^ e

-- The number with this sign, exponent and fraction. `None` if the exponent is the greatest, as in infinities and NaNs.
abbrev pub number_of : Format → Bool → ℕ → ℕ → Option Number
number_of m s e f = if e + 1 == m.exponents then None else Some (record { is_negative = s; units = units_of m.fractions e f; scale = m.scale })

-- The number encoded in the bits: the sign, the exponent and the fraction, in this order from the highest bit.
abbrev pub number_in : Format → ℕ → Option Number
number_in m n = let upper = n / m.fractions in number_of m (nat_le m.exponents upper) (upper % m.exponents) (n % m.fractions)

abbrev pub half_format : Format
half_format = record { fractions = 2 ^ 10; exponents = 2 ^ 5; scale = 24 }

abbrev pub single_format : Format
single_format = record { fractions = 2 ^ 23; exponents = 2 ^ 8; scale = 149 }

abbrev pub double_format : Format
double_format = record { fractions = 2 ^ 52; exponents = 2 ^ 11; scale = 1074 }

abbrev pub number : Bits → Option Number
number (half n) = number_in half_format n
number (single n) = number_in single_format n
number (double n) = number_in double_format n

-- ---- as doubles

-- The float with this sign and fraction and the greatest exponent: an infinity if the fraction is 0, else NaN.
abbrev pub special_of : Bool → ℕ → ieee.Float
special_of s f = if f == 0 then ieee.inf s else ieee.nan

abbrev pub special_in : Format → ℕ → ieee.Float
special_in m n = special_of (nat_le m.exponents (n / m.fractions)) (n % m.fractions)

abbrev pub special : Bits → ieee.Float
special (half n) = special_in half_format n
special (single n) = special_in single_format n
special (double n) = special_in double_format n

-- The double d is exactly the number x, with its sign. If there is no number, d is the infinity or NaN s.
abbrev pub IsExactly : ieee.Float → Option Number → ieee.Float → Type 0
IsExactly s (Some x) d = HasValue d x.is_negative x.units (2 ^ x.scale)
IsExactly s None d = d ≡ s

-- The double d is the half with this sign, exponent and fraction.
abbrev pub IsHalf : Bool → ℕ → ℕ → ieee.Float → Type 0
IsHalf s e f d = IsExactly (special_of s f) (number_of half_format s e f) d

-- The double d is the float x.
abbrev pub IsDouble : Bits → ieee.Float → Type 0
IsDouble x d = IsExactly (special x) (number x) d
