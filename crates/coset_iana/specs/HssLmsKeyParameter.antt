-- The numbers and names of the labels of HSS/LMS keys (RFC 8778).
use Rattle.std.specs.Prelude.{ℕ, ℤ, List, codes}
use Rattle.coset_iana.specs.Registry.{minus}
use Rattle.coset_iana.specs.declared.key_parameters.HssLmsKeyParameter.{HssLmsKeyParameter}
use Rattle.coset_iana.specs.declared.key_parameters.HssLmsKeyParameter.TheVariants.{Pub}

abbrev pub number : HssLmsKeyParameter → ℤ
number Pub = minus 1

-- Its name, as IANA's registry "COSE Key Type Parameters" spells it.
abbrev pub name : HssLmsKeyParameter → List ℕ
name Pub = codes "pub"
