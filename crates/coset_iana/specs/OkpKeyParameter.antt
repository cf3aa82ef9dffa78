-- The numbers and names of the labels of octet key pairs (RFC 8152, section 13.2).
use Rattle.std.specs.Prelude.{ℕ, ℤ, List, codes}
use Rattle.coset_iana.specs.Registry.{minus}
use Rattle.coset_iana.specs.declared.key_parameters.OkpKeyParameter.{OkpKeyParameter}
use Rattle.coset_iana.specs.declared.key_parameters.OkpKeyParameter.TheVariants.{Crv, X, D}

abbrev pub number : OkpKeyParameter → ℤ
number Crv = minus 1
number X = minus 2
number D = minus 4

-- The name of each, as IANA's registry "COSE Key Type Parameters" spells it.
abbrev pub name : OkpKeyParameter → List ℕ
name Crv = codes "crv"
name X = codes "x"
name D = codes "d"
