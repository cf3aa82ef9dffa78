-- The numbers and names of the labels of algorithm key pairs.
use Rattle.std.specs.Prelude.{ℕ, ℤ, List, codes}
use Rattle.coset_iana.specs.Registry.{minus}
use Rattle.coset_iana.specs.declared.key_parameters.AkpKeyParameter.{AkpKeyParameter}
use Rattle.coset_iana.specs.declared.key_parameters.AkpKeyParameter.TheVariants.{Pub, Priv}

abbrev pub number : AkpKeyParameter → ℤ
number Pub = minus 1
number Priv = minus 2

-- The name of each, as IANA's registry "COSE Key Type Parameters" spells it.
abbrev pub name : AkpKeyParameter → List ℕ
name Pub = codes "pub"
name Priv = codes "priv"
