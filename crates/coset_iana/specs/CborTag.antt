-- The numbers and names of the tags of COSE messages and tokens (RFC 8152, section 2; RFC 8392, section 6).
use Rattle.std.specs.Prelude.{ℕ, ℤ, pos, List, codes}
use Rattle.coset_iana.specs.declared.tags.CborTag.{CborTag}
use Rattle.coset_iana.specs.declared.tags.CborTag.TheVariants.{CoseEncrypt0, CoseMac0, CoseSign1, CoseCountersignature, Cwt, CoseEncrypt, CoseMac, CoseSign}

abbrev pub number : CborTag → ℤ
number CoseEncrypt0 = pos 16
number CoseMac0 = pos 17
number CoseSign1 = pos 18
number CoseCountersignature = pos 19
number Cwt = pos 61
number CoseEncrypt = pos 96
number CoseMac = pos 97
number CoseSign = pos 98

-- The name of each: its semantics in IANA's registry "CBOR Tags".
abbrev pub name : CborTag → List ℕ
name CoseEncrypt0 = codes "COSE Single Recipient Encrypted Data Object"
name CoseMac0 = codes "COSE Mac w/o Recipients Object"
name CoseSign1 = codes "COSE Single Signer Data Object"
name CoseCountersignature = codes "COSE standalone V2 countersignature"
name Cwt = codes "CBOR Web Token (CWT)"
name CoseEncrypt = codes "COSE Encrypted Data Object"
name CoseMac = codes "COSE MACed Data Object"
name CoseSign = codes "COSE Signed Data Object"
