-- The range of numbers that is left to private use.
use Rattle.std.specs.Prelude.{ℤ, int_lt, Bool}
use Rattle.coset_iana.specs.Registry.{minus}

-- The numbers below -65536 (RFC 8152, sections 16.2, 16.4 and 16.8; RFC 8392, section 9.1).
abbrev pub is_private_use : ℤ → Bool
is_private_use i = int_lt i (minus 65536)
