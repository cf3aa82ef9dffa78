-- The numbers and names of the header labels of recipients' algorithms (RFC 8152, section 16.3).
use Rattle.std.specs.Prelude.{ℕ, ℤ, List, codes}
use Rattle.coset_iana.specs.Registry.{minus}
use Rattle.coset_iana.specs.declared.headers.HeaderAlgorithmParameter.{HeaderAlgorithmParameter}
use Rattle.coset_iana.specs.declared.headers.HeaderAlgorithmParameter.TheVariants.{X5ChainSender, X5USender, X5TSender, PartyVOther, PartyVNonce}
use Rattle.coset_iana.specs.declared.headers.HeaderAlgorithmParameter.TheVariants.{PartyVIdentity, PartyUOther, PartyUNonce, PartyUIdentity, Salt, StaticKeyId}
use Rattle.coset_iana.specs.declared.headers.HeaderAlgorithmParameter.TheVariants.{StaticKey, EphemeralKey}

abbrev pub number : HeaderAlgorithmParameter → ℤ
number X5ChainSender = minus 29
number X5USender = minus 28
number X5TSender = minus 27
number PartyVOther = minus 26
number PartyVNonce = minus 25
number PartyVIdentity = minus 24
number PartyUOther = minus 23
number PartyUNonce = minus 22
number PartyUIdentity = minus 21
number Salt = minus 20
number StaticKeyId = minus 3
number StaticKey = minus 2
number EphemeralKey = minus 1

-- The name of each, as IANA's registry "COSE Header Algorithm Parameters" spells it.
abbrev pub name : HeaderAlgorithmParameter → List ℕ
name X5ChainSender = codes "x5chain-sender"
name X5USender = codes "x5u-sender"
name X5TSender = codes "x5t-sender"
name PartyVOther = codes "PartyV other"
name PartyVNonce = codes "PartyV nonce"
name PartyVIdentity = codes "PartyV identity"
name PartyUOther = codes "PartyU other"
name PartyUNonce = codes "PartyU nonce"
name PartyUIdentity = codes "PartyU identity"
name Salt = codes "salt"
name StaticKeyId = codes "static key id"
name StaticKey = codes "static key"
name EphemeralKey = codes "ephemeral key"
