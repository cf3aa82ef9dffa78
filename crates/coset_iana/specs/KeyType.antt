-- The numbers and names of the key types (RFC 8152, sections 13 and 16.7).
use Rattle.std.specs.Prelude.{ℕ, ℤ, pos, List, codes}
use Rattle.coset_iana.specs.declared.keys.KeyType.{KeyType}
use Rattle.coset_iana.specs.declared.keys.KeyType.TheVariants.{Reserved, OKP, EC2, RSA, Symmetric, HSS_LMS, WalnutDSA, AKP}

abbrev pub number : KeyType → ℤ
number Reserved = pos 0
number OKP = pos 1
number EC2 = pos 2
number RSA = pos 3
number Symmetric = pos 4
number HSS_LMS = pos 5
number WalnutDSA = pos 6
number AKP = pos 7

-- The name of each, as IANA's registry "COSE Key Types" spells it.
abbrev pub name : KeyType → List ℕ
name Reserved = codes "Reserved"
name OKP = codes "OKP"
name EC2 = codes "EC2"
name RSA = codes "RSA"
name Symmetric = codes "Symmetric"
name HSS_LMS = codes "HSS-LMS"
name WalnutDSA = codes "WalnutDSA"
name AKP = codes "AKP"
