-- The numbers and names of the labels of keys with two coordinates (RFC 8152, section 13.1.1).
use Rattle.std.specs.Prelude.{ℕ, ℤ, List, codes}
use Rattle.coset_iana.specs.Registry.{minus}
use Rattle.coset_iana.specs.declared.key_parameters.Ec2KeyParameter.{Ec2KeyParameter}
use Rattle.coset_iana.specs.declared.key_parameters.Ec2KeyParameter.TheVariants.{Crv, X, Y, D}

abbrev pub number : Ec2KeyParameter → ℤ
number Crv = minus 1
number X = minus 2
number Y = minus 3
number D = minus 4

-- The name of each, as IANA's registry "COSE Key Type Parameters" spells it.
abbrev pub name : Ec2KeyParameter → List ℕ
name Crv = codes "crv"
name X = codes "x"
name Y = codes "y"
name D = codes "d"
