-- The lengths of signatures, for each kind of key.
use Rattle.std.specs.Prelude.{◌==◌, ◌&&◌, ◌||◌, ◌*◌, ℕ, List, length, Option, Bool, true, false}
use Rattle.std.specs.Option.{option_map_or}
use Rattle.coset.specs.Keys.{KeyView}
use Rattle.coset.specs.Registry.{minus}
use Rattle.coset_iana.specs.declared.keys.EllipticCurve.{EllipticCurve}
use Rattle.coset_iana.specs.declared.keys.EllipticCurve.TheVariants as curve
use Rattle.cwt_keys.specs.declared.table.KeyKind.{KeyKind}
use Rattle.cwt_keys.specs.declared.table.KeyKind.TheVariants.{NistCurve, Ec2, EdwardsCurve, Okp, Rsa}
use Rattle.cwt_ring.specs.Kinds.{coordinate_length, edwards_length, has_curve, has_length}

-- The signature has two parts of n bytes each: r and s.
abbrev pub has_parts : Option ℕ → List ℕ → Bool
has_parts n signature = option_map_or (λ m. length signature == 2 * m) n false

-- The key is on this curve, and r and s are as long as a coordinate.
abbrev pub is_ecdsa : EllipticCurve → KeyView → List ℕ → Bool
is_ecdsa c k signature = has_curve c k && has_parts (coordinate_length c) signature

-- The key is on this curve, and R and S are as long as a public key: 32 bytes for Ed25519, 57 for Ed448.
abbrev pub is_eddsa : EllipticCurve → KeyView → List ℕ → Bool
is_eddsa c k signature = has_curve c k && has_parts (edwards_length c) signature

-- The signature has a length that this kind of key gives. Kinds that aren't listed here give none.
abbrev pub has_signature_length : KeyKind → KeyView → List ℕ → Bool
-- RFC 9053, section 2.1
has_signature_length NistCurve k s = is_ecdsa curve.P_256 k s || is_ecdsa curve.P_384 k s || is_ecdsa curve.P_521 k s
-- RFC 9053, section 2.1; RFC 8812, section 3.2
has_signature_length (Ec2 c) k s = is_ecdsa c k s
-- RFC 9053, section 2.2; RFC 8032, sections 5.1.6 and 5.2.6
has_signature_length EdwardsCurve k s = is_eddsa curve.Ed25519 k s || is_eddsa curve.Ed448 k s
has_signature_length (Okp c) k s = is_eddsa c k s
-- the length of n: RFC 8017, sections 8.1.2 and 8.2.2, step 1
has_signature_length Rsa k s = has_length (length s) (minus 1) k
has_signature_length kind k s = true
