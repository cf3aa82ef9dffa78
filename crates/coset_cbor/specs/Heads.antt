-- Heads as contracts see them, apart from their bytes (RFC 8949, section 3).
use Rattle.std.specs.Prelude.{◌≡◌, ◌<◌, ◌≤◌, ◌^◌, ℕ}
use Rattle.coset_cbor.specs.declared.head.MajorType.{MajorType}
use Rattle.coset_cbor.specs.declared.head.MajorType.TheVariants as major_types

-- The number of a major type, from 0 on (RFC 8949, section 3.1).
abbrev pub major_type_number : MajorType → ℕ
major_type_number major_types.Unsigned = 0
major_type_number major_types.Negative = 1
major_type_number major_types.Bytes = 2
major_type_number major_types.Text = 3
major_type_number major_types.Array = 4
major_type_number major_types.Map = 5
major_type_number major_types.Tag = 6
major_type_number major_types.Simple = 7

-- Only contracts of private functions cite the rest of this file.

-- An argument by its place: within the initial byte, or in one, two, four or eight bytes after it. `Indefinite` means
-- that there is no argument.
pub data Argument : Type 0 where
  Within One Two Four Eight : ℕ → Argument
  Indefinite : Argument

pub record HeadView : Type 0 where
  pub major_type : MajorType
  pub argument : Argument

-- n can be the number of a head with this additional information. Below 24, n is the information itself. At 25 and 26,
-- n has at most 16 and 32 bits. From 28 on, only 31 is possible.
pub record Fits (info n : ℕ) : Type 0 where
  pub low : info < 24 → n ≡ info
  pub two : info ≡ 25 → n < 2 ^ 16
  pub four : info ≡ 26 → n < 2 ^ 32
  pub none : 28 ≤ info → info ≡ 31
