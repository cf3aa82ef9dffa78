-- The numbers and names of the labels of every key (RFC 8152, sections 7.1 and 16.5).
use Rattle.std.specs.Prelude.{ℕ, ℤ, pos, List, codes}
use Rattle.coset_iana.specs.declared.keys.KeyParameter.{KeyParameter}
use Rattle.coset_iana.specs.declared.keys.KeyParameter.TheVariants.{Reserved, Kty, Kid, Alg, KeyOps, BaseIv}

abbrev pub number : KeyParameter → ℤ
number Reserved = pos 0
number Kty = pos 1
number Kid = pos 2
number Alg = pos 3
number KeyOps = pos 4
number BaseIv = pos 5

-- The name of each, as IANA's registry "COSE Key Common Parameters" spells it.
abbrev pub name : KeyParameter → List ℕ
name Reserved = codes "Reserved"
name Kty = codes "kty"
name Kid = codes "kid"
name Alg = codes "alg"
name KeyOps = codes "key_ops"
name BaseIv = codes "Base IV"
