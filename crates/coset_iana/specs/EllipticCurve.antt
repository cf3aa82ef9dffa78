-- The numbers and names of elliptic curves (RFC 8152, section 16.8).
use Rattle.std.specs.Prelude.{ℕ, ℤ, pos, List, codes}
use Rattle.coset_iana.specs.declared.keys.EllipticCurve.{EllipticCurve}
use Rattle.coset_iana.specs.declared.keys.EllipticCurve.TheVariants.{Reserved, P_256, P_384, P_521, X25519, X448, Ed25519, Ed448, Secp256k1, BrainpoolP256R1}
use Rattle.coset_iana.specs.declared.keys.EllipticCurve.TheVariants.{BrainpoolP320R1, BrainpoolP384R1, BrainpoolP512R1}

abbrev pub number : EllipticCurve → ℤ
number Reserved = pos 0
number P_256 = pos 1
number P_384 = pos 2
number P_521 = pos 3
number X25519 = pos 4
number X448 = pos 5
number Ed25519 = pos 6
number Ed448 = pos 7
number Secp256k1 = pos 8
number BrainpoolP256R1 = pos 256
number BrainpoolP320R1 = pos 257
number BrainpoolP384R1 = pos 258
number BrainpoolP512R1 = pos 259

-- The name of each, as IANA's registry "COSE Elliptic Curves" spells it.
abbrev pub name : EllipticCurve → List ℕ
name Reserved = codes "Reserved"
name P_256 = codes "P-256"
name P_384 = codes "P-384"
name P_521 = codes "P-521"
name X25519 = codes "X25519"
name X448 = codes "X448"
name Ed25519 = codes "Ed25519"
name Ed448 = codes "Ed448"
name Secp256k1 = codes "secp256k1"
name BrainpoolP256R1 = codes "brainpoolP256r1"
name BrainpoolP320R1 = codes "brainpoolP320r1"
name BrainpoolP384R1 = codes "brainpoolP384r1"
name BrainpoolP512R1 = codes "brainpoolP512r1"
