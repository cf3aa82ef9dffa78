-- The numbers and names of the labels of RSA keys (RFC 8230, section 4).
use Rattle.std.specs.Prelude.{ℕ, ℤ, List, codes}
use Rattle.coset_iana.specs.Registry.{minus}
use Rattle.coset_iana.specs.declared.key_parameters.RsaKeyParameter.{RsaKeyParameter}
use Rattle.coset_iana.specs.declared.key_parameters.RsaKeyParameter.TheVariants.{N, E, D, P, Q, DP, DQ, QInv, Other, RI, DI, TI}

abbrev pub number : RsaKeyParameter → ℤ
number N = minus 1
number E = minus 2
number D = minus 3
number P = minus 4
number Q = minus 5
number DP = minus 6
number DQ = minus 7
number QInv = minus 8
number Other = minus 9
number RI = minus 10
number DI = minus 11
number TI = minus 12

-- The name of each, as IANA's registry "COSE Key Type Parameters" spells it.
abbrev pub name : RsaKeyParameter → List ℕ
name N = codes "n"
name E = codes "e"
name D = codes "d"
name P = codes "p"
name Q = codes "q"
name DP = codes "dP"
name DQ = codes "dQ"
name QInv = codes "qInv"
name Other = codes "other"
name RI = codes "r_i"
name DI = codes "d_i"
name TI = codes "t_i"
