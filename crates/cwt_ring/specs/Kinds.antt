-- The keys that an algorithm takes: their type, and the members that the type defines.
use Rattle.std.specs.Prelude.{◌==◌, ◌&&◌, ◌||◌, ℕ, ℤ, pos, nat_le, nat_lt, List, [], ◌∷◌, length, Option, Some, None, Bool, false, not, int_lt, is_some}
use Rattle.std.specs.Option.{option_map_or}
use Rattle.std.specs.Ordering.{int_eq}
use Rattle.coset.specs.Keys.{KeyView}
use Rattle.coset.specs.LabelData.{number, same_label}
use Rattle.coset.specs.Registry.{minus}
use Rattle.coset_iana.specs.EllipticCurve as curves
use Rattle.coset_iana.specs.KeyType as kinds
use Rattle.coset_iana.specs.declared.keys.EllipticCurve.{EllipticCurve}
use Rattle.coset_iana.specs.declared.keys.EllipticCurve.TheVariants as curve
use Rattle.coset_iana.specs.declared.keys.KeyType.{KeyType}
use Rattle.coset_iana.specs.declared.keys.KeyType.TheVariants as kty
use Rattle.cwt_keys.specs.declared.table.KeyKind.{KeyKind}
use Rattle.cwt_keys.specs.declared.table.KeyKind.TheVariants.{NistCurve, Ec2, EdwardsCurve, Okp, Rsa, HssLms, WalnutDsa, Akp, Symmetric, SymmetricFrom}
use Rattle.cwt_ring.specs.Members.{array_of, bool_of, bytes_of, integer_of}

-- The key is of this type (RFC 9052, section 7.1).
abbrev pub has_type : KeyType → KeyView → Bool
has_type t k = same_label k.kty (number (kinds.number t))

-- ---- the types of members

abbrev pub is_byte_string : ℤ → KeyView → Bool
is_byte_string l k = is_some (bytes_of l k)

-- The member is a byte string that passes the test.
abbrev pub has_bytes : (List ℕ → Bool) → ℤ → KeyView → Bool
has_bytes test l k = option_map_or test (bytes_of l k) false

-- The member is a byte string of n bytes.
abbrev pub has_length : ℕ → ℤ → KeyView → Bool
has_length n l k = has_bytes (λ s. length s == n) l k

-- The member is a byte string of n bytes or more.
abbrev pub has_length_from : ℕ → ℤ → KeyView → Bool
has_length_from n l k = has_bytes (λ s. nat_le n (length s)) l k

-- The member is an unsigned integer.
abbrev pub is_unsigned : ℤ → KeyView → Bool
is_unsigned l k = option_map_or (λ i. not (int_lt i (pos 0))) (integer_of l k) false

abbrev pub is_array : ℤ → KeyView → Bool
is_array l k = is_some (array_of l k)

abbrev pub is_bool : ℤ → KeyView → Bool
is_bool l k = is_some (bool_of l k)

-- ---- elliptic curves: the labels are -1 for crv, -2 for x, -3 for y (RFC 9053, sections 7.1.1 and 7.2)

-- The curve is this one.
abbrev pub has_curve : EllipticCurve → KeyView → Bool
has_curve c k = option_map_or (int_eq (curves.number c)) (integer_of (minus 1) k) false

-- The length of a coordinate on a curve for EC2 keys, in bytes (RFC 9053, section 7.1; RFC 8812, section 3.1). `None`
-- for other curves.
abbrev pub coordinate_length : EllipticCurve → Option ℕ
coordinate_length curve.P_256 = Some 32
coordinate_length curve.P_384 = Some 48
coordinate_length curve.P_521 = Some 66
coordinate_length curve.Secp256k1 = Some 32
coordinate_length curve.BrainpoolP256R1 = Some 32
coordinate_length curve.BrainpoolP320R1 = Some 40
coordinate_length curve.BrainpoolP384R1 = Some 48
coordinate_length curve.BrainpoolP512R1 = Some 64
coordinate_length c = None

-- x has n bytes, and y as many; or y is a bool, the sign of a compressed point (RFC 9053, section 7.1.1).
abbrev pub has_point : ℕ → KeyView → Bool
has_point n k = has_length n (minus 2) k && (has_length n (minus 3) k || is_bool (minus 3) k)

-- A public EC2 key on this curve.
abbrev pub is_ec2 : EllipticCurve → KeyView → Bool
is_ec2 c k = option_map_or (λ n. has_type kty.EC2 k && has_curve c k && has_point n k) (coordinate_length c) false

-- The length of a public key on a curve for EdDSA, in bytes (RFC 9053, section 2.2; RFC 8032, sections 5.1.5 and 5.2.5).
-- `None` for other curves.
abbrev pub edwards_length : EllipticCurve → Option ℕ
edwards_length curve.Ed25519 = Some 32
edwards_length curve.Ed448 = Some 57
edwards_length c = None

-- A public OKP key on this curve.
abbrev pub is_okp : EllipticCurve → KeyView → Bool
is_okp c k = option_map_or (λ n. has_type kty.OKP k && has_curve c k && has_length n (minus 2) k) (edwards_length c) false

-- ---- the other types

-- The modulus, without leading zeros (RFC 8230, section 4), has at least 2048 bits (RFC 8230, section 6.1; RFC 8812, section 2).
abbrev pub is_modulus : List ℕ → Bool
is_modulus [] = false
is_modulus (b ∷ bs) = nat_lt 0 b && (nat_lt 256 (length (b ∷ bs)) || (length (b ∷ bs) == 256 && nat_le 128 b))

-- The exponent has no leading zeros (RFC 8230, section 4).
abbrev pub is_exponent : List ℕ → Bool
is_exponent [] = false
is_exponent (b ∷ bs) = nat_lt 0 b

-- A public RSA key: n and e (RFC 8230, section 4).
abbrev pub is_rsa : KeyView → Bool
is_rsa k = has_type kty.RSA k && has_bytes is_modulus (minus 1) k && has_bytes is_exponent (minus 2) k

-- The t-values, both matrices and the permutation of a WalnutDSA key (RFC 9021, section 6.3).
abbrev pub has_walnut_arrays : KeyView → Bool
has_walnut_arrays k = is_array (minus 3) k && is_array (minus 4) k && is_array (minus 5) k && is_array (minus 6) k

-- A public WalnutDSA key: N, q and the arrays (RFC 9021, sections 4 and 6.3).
abbrev pub is_walnut : KeyView → Bool
is_walnut k = has_type kty.WalnutDSA k && is_unsigned (minus 1) k && is_unsigned (minus 2) k && has_walnut_arrays k

-- ---- all types

-- The key is of this kind.
abbrev pub is_of_kind : KeyKind → KeyView → Bool
-- RFC 9053, section 2.1
is_of_kind NistCurve k = is_ec2 curve.P_256 k || is_ec2 curve.P_384 k || is_ec2 curve.P_521 k
is_of_kind (Ec2 c) k = is_ec2 c k
-- RFC 9053, section 2.2
is_of_kind EdwardsCurve k = is_okp curve.Ed25519 k || is_okp curve.Ed448 k
is_of_kind (Okp c) k = is_okp c k
is_of_kind Rsa k = is_rsa k
-- RFC 8778, sections 3 and 6.3: pub
is_of_kind HssLms k = has_type kty.HSS_LMS k && is_byte_string (minus 1) k
is_of_kind WalnutDsa k = is_walnut k
-- IANA's registry "COSE Key Type Parameters": pub
is_of_kind (Akp n) k = has_type kty.AKP k && has_length n (minus 1) k
-- RFC 9053, section 7.3: k
is_of_kind (Symmetric n) k = has_type kty.Symmetric k && has_length n (minus 1) k
is_of_kind (SymmetricFrom n) k = has_type kty.Symmetric k && has_length_from n (minus 1) k
