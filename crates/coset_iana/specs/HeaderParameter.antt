-- The numbers and names of the header labels (RFC 8152, sections 3.1 and 16.2).
use Rattle.std.specs.Prelude.{ℕ, ℤ, pos, List, codes}
use Rattle.coset_iana.specs.declared.headers.HeaderParameter.{HeaderParameter}
use Rattle.coset_iana.specs.declared.headers.HeaderParameter.TheVariants.{Reserved, Alg, Crit, ContentType, Kid, Iv, PartialIv, CounterSignature}
use Rattle.coset_iana.specs.declared.headers.HeaderParameter.TheVariants.{CounterSignature0, KidContext, CounterSignatureV2, CounterSignature0V2, KeyCwt}
use Rattle.coset_iana.specs.declared.headers.HeaderParameter.TheVariants.{KeyCwtClaimsSet, CwtClaims, ObjectContentType, X5Bag, X5Chain, X5T, X5U, CuphNonce}
use Rattle.coset_iana.specs.declared.headers.HeaderParameter.TheVariants.{CuphOwnerPubKey}

abbrev pub number : HeaderParameter → ℤ
number Reserved = pos 0
number Alg = pos 1
number Crit = pos 2
number ContentType = pos 3
number Kid = pos 4
number Iv = pos 5
number PartialIv = pos 6
number CounterSignature = pos 7
number CounterSignature0 = pos 9
number KidContext = pos 10
number CounterSignatureV2 = pos 11
number CounterSignature0V2 = pos 12
number KeyCwt = pos 13
number KeyCwtClaimsSet = pos 14
number CwtClaims = pos 15
number ObjectContentType = pos 16
number X5Bag = pos 32
number X5Chain = pos 33
number X5T = pos 34
number X5U = pos 35
number CuphNonce = pos 256
number CuphOwnerPubKey = pos 257

-- The name of each, as IANA's registry "COSE Header Parameters" spells it.
abbrev pub name : HeaderParameter → List ℕ
name Reserved = codes "Reserved"
name Alg = codes "alg"
name Crit = codes "crit"
name ContentType = codes "content type"
name Kid = codes "kid"
name Iv = codes "IV"
name PartialIv = codes "Partial IV"
name CounterSignature = codes "counter signature"
name CounterSignature0 = codes "CounterSignature0"
name KidContext = codes "kid context"
name CounterSignatureV2 = codes "Countersignature version 2"
name CounterSignature0V2 = codes "Countersignature0 version 2"
name KeyCwt = codes "kcwt"
name KeyCwtClaimsSet = codes "kccs"
name CwtClaims = codes "CWT Claims"
name ObjectContentType = codes "typ"
name X5Bag = codes "x5bag"
name X5Chain = codes "x5chain"
name X5T = codes "x5t"
name X5U = codes "x5u"
name CuphNonce = codes "CUPHNonce"
name CuphOwnerPubKey = codes "CUPHOwnerPubKey"
