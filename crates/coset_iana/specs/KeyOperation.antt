-- The numbers and names of the key operations (RFC 8152, section 7.1, table 4).
use Rattle.std.specs.Prelude.{ℕ, ℤ, pos, List, codes}
use Rattle.coset_iana.specs.declared.keys.KeyOperation.{KeyOperation}
use Rattle.coset_iana.specs.declared.keys.KeyOperation.TheVariants.{Sign, Verify, Encrypt, Decrypt, WrapKey, UnwrapKey, DeriveKey, DeriveBits, MacCreate}
use Rattle.coset_iana.specs.declared.keys.KeyOperation.TheVariants.{MacVerify}

abbrev pub number : KeyOperation → ℤ
number Sign = pos 1
number Verify = pos 2
number Encrypt = pos 3
number Decrypt = pos 4
number WrapKey = pos 5
number UnwrapKey = pos 6
number DeriveKey = pos 7
number DeriveBits = pos 8
number MacCreate = pos 9
number MacVerify = pos 10

-- The name of each, as RFC 8152 spells it.
abbrev pub name : KeyOperation → List ℕ
name Sign = codes "sign"
name Verify = codes "verify"
name Encrypt = codes "encrypt"
name Decrypt = codes "decrypt"
name WrapKey = codes "wrap key"
name UnwrapKey = codes "unwrap key"
name DeriveKey = codes "derive key"
name DeriveBits = codes "derive bits"
name MacCreate = codes "MAC create"
name MacVerify = codes "MAC verify"
