-- The numbers and names of the labels of symmetric keys (RFC 8152, section 13.3).
use Rattle.std.specs.Prelude.{ℕ, ℤ, List, codes}
use Rattle.coset_iana.specs.Registry.{minus}
use Rattle.coset_iana.specs.declared.key_parameters.SymmetricKeyParameter.{SymmetricKeyParameter}
use Rattle.coset_iana.specs.declared.key_parameters.SymmetricKeyParameter.TheVariants.{K}

abbrev pub number : SymmetricKeyParameter → ℤ
number K = minus 1

-- Its name, as IANA's registry "COSE Key Type Parameters" spells it.
abbrev pub name : SymmetricKeyParameter → List ℕ
name K = codes "k"
