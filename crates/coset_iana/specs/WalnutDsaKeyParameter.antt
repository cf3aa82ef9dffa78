-- The numbers and names of the labels of WalnutDSA keys (RFC 9021).
use Rattle.std.specs.Prelude.{ℕ, ℤ, List, codes}
use Rattle.coset_iana.specs.Registry.{minus}
use Rattle.coset_iana.specs.declared.key_parameters.WalnutDsaKeyParameter.{WalnutDsaKeyParameter}
use Rattle.coset_iana.specs.declared.key_parameters.WalnutDsaKeyParameter.TheVariants.{N, Q, TValues, Matrix1, Permutation1, Matrix2}

abbrev pub number : WalnutDsaKeyParameter → ℤ
number N = minus 1
number Q = minus 2
number TValues = minus 3
number Matrix1 = minus 4
number Permutation1 = minus 5
number Matrix2 = minus 6

-- The name of each, as IANA's registry "COSE Key Type Parameters" spells it.
abbrev pub name : WalnutDsaKeyParameter → List ℕ
name N = codes "N"
name Q = codes "q"
name TValues = codes "t-values"
name Matrix1 = codes "matrix 1"
name Permutation1 = codes "permutation 1"
name Matrix2 = codes "matrix 2"
