-- The views of the code's numbers and formats, in the types of `Number`.
use Rattle.std.specs.Prelude.{◌*◌, ◌^◌, ◌<◌}
use Rattle.coset_value.specs.Number as numbers
use Rattle.coset_claims.specs.declared.number.Format.{Format}
use Rattle.coset_claims.specs.declared.number.Number.{Number}

abbrev pub number_view : Number → numbers.Number
number_view x = record { is_negative = x.is_negative; units = x.significand * 2 ^ x.exponent; scale = x.scale }

abbrev pub format_view : Format → numbers.Format
format_view m = record { fractions = m.fractions; exponents = m.exponents; scale = m.scale }

-- A format with at least one fraction and one exponent, and with few enough of both.
pub record IsFormat (m : Format) : Type 0 where
  pub some_fractions : 0 < m.fractions
  pub few_fractions : m.fractions < 2 ^ 53
  pub some_exponents : 0 < m.exponents
  pub few_exponents : m.exponents < 2 ^ 12
