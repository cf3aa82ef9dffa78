-- The algorithms of layers: the form of each, the keys that it takes, and the lengths of its tag and nonce.
use Rattle.std.specs.Prelude.{ℕ, Option, Some, None, Bool, true, false, if◌then◌else◌}
use Rattle.coset_iana.specs.declared.algorithms.Algorithm.{Algorithm}
use Rattle.coset_iana.specs.declared.algorithms.Algorithm.TheVariants as a
use Rattle.coset_iana.specs.declared.keys.EllipticCurve.TheVariants as curve
use Rattle.cwt_keys.specs.declared.form.Form.TheVariants.{Sign1, Mac0, Encrypt0, Sign, Mac, Encrypt}
use Rattle.cwt_keys.specs.declared.form.Form.{Form}
use Rattle.cwt_keys.specs.declared.table.KeyKind.{KeyKind}
use Rattle.cwt_keys.specs.declared.table.KeyKind.TheVariants.{NistCurve, Ec2, EdwardsCurve, Okp, Rsa, HssLms, WalnutDsa, Akp, Symmetric, SymmetricFrom}
use Rattle.cwt_keys.specs.declared.table.Row.{Row}

-- A signature by such a key.
abbrev pub signature : KeyKind → Option Row
signature keys = Some (record { form = Sign1; keys = keys; tag = 0; nonce = 0 })

-- A MAC of this many bytes.
abbrev pub mac : KeyKind → ℕ → Option Row
mac keys tag = Some (record { form = Mac0; keys = keys; tag = tag; nonce = 0 })

-- A cipher with a key, a tag and a nonce of this many bytes.
abbrev pub cipher : ℕ → ℕ → ℕ → Option Row
cipher key tag nonce = Some (record { form = Encrypt0; keys = Symmetric key; tag = tag; nonce = nonce })

abbrev pub row_for : Algorithm → Option Row
-- RFC 9053, section 2.1: ECDSA
row_for a.ES256 = signature NistCurve
row_for a.ES384 = signature NistCurve
row_for a.ES512 = signature NistCurve
-- RFC 8812, section 3
row_for a.ES256K = signature (Ec2 curve.Secp256k1)
-- RFC 9864: ECDSA on one curve
row_for a.ESP256 = signature (Ec2 curve.P_256)
row_for a.ESP384 = signature (Ec2 curve.P_384)
row_for a.ESP512 = signature (Ec2 curve.P_521)
row_for a.ESB256 = signature (Ec2 curve.BrainpoolP256R1)
row_for a.ESB320 = signature (Ec2 curve.BrainpoolP320R1)
row_for a.ESB384 = signature (Ec2 curve.BrainpoolP384R1)
row_for a.ESB512 = signature (Ec2 curve.BrainpoolP512R1)
-- RFC 9053, section 2.2: EdDSA; RFC 9864: on one curve
row_for a.EdDSA = signature EdwardsCurve
row_for a.Ed25519 = signature (Okp curve.Ed25519)
row_for a.Ed448 = signature (Okp curve.Ed448)
-- RFC 8230, section 2: RSASSA-PSS; RFC 8812, section 2: RSASSA-PKCS1-v1_5
row_for a.PS256 = signature Rsa
row_for a.PS384 = signature Rsa
row_for a.PS512 = signature Rsa
row_for a.RS256 = signature Rsa
row_for a.RS384 = signature Rsa
row_for a.RS512 = signature Rsa
-- RFC 8778; RFC 9021; FIPS 204
row_for a.HSS_LMS = signature HssLms
row_for a.WalnutDSA = signature WalnutDsa
row_for a.ML_DSA_44 = signature (Akp 1312)
row_for a.ML_DSA_65 = signature (Akp 1952)
row_for a.ML_DSA_87 = signature (Akp 2592)
-- RFC 9053, section 3.1: HMAC
row_for a.HMAC_256_64 = mac (SymmetricFrom 32) 8
row_for a.HMAC_256_256 = mac (SymmetricFrom 32) 32
row_for a.HMAC_384_384 = mac (SymmetricFrom 48) 48
row_for a.HMAC_512_512 = mac (SymmetricFrom 64) 64
-- RFC 9053, section 3.2: AES-CBC-MAC
row_for a.AES_MAC_128_64 = mac (Symmetric 16) 8
row_for a.AES_MAC_256_64 = mac (Symmetric 32) 8
row_for a.AES_MAC_128_128 = mac (Symmetric 16) 16
row_for a.AES_MAC_256_128 = mac (Symmetric 32) 16
-- RFC 9053, section 4.1: AES-GCM
row_for a.A128GCM = cipher 16 16 12
row_for a.A192GCM = cipher 24 16 12
row_for a.A256GCM = cipher 32 16 12
-- RFC 9053, section 4.2: AES-CCM
row_for a.AES_CCM_16_64_128 = cipher 16 8 13
row_for a.AES_CCM_16_64_256 = cipher 32 8 13
row_for a.AES_CCM_64_64_128 = cipher 16 8 7
row_for a.AES_CCM_64_64_256 = cipher 32 8 7
row_for a.AES_CCM_16_128_128 = cipher 16 16 13
row_for a.AES_CCM_16_128_256 = cipher 32 16 13
row_for a.AES_CCM_64_128_128 = cipher 16 16 7
row_for a.AES_CCM_64_128_256 = cipher 32 16 7
-- RFC 9053, section 4.3
row_for a.ChaCha20Poly1305 = cipher 32 16 12
row_for a = None

-- The two forms are the same.
abbrev pub same_form : Form → Form → Bool
same_form Sign1 Sign1 = true
same_form Mac0 Mac0 = true
same_form Encrypt0 Encrypt0 = true
same_form Sign Sign = true
same_form Mac Mac = true
same_form Encrypt Encrypt = true
same_form f g = false

-- The form without a list that takes the same algorithms: one signature, a MAC, or a ciphertext, without recipients.
abbrev pub single_form : Form → Form
single_form Sign1 = Sign1
single_form Mac0 = Mac0
single_form Encrypt0 = Encrypt0
single_form Sign = Sign1
single_form Mac = Mac0
single_form Encrypt = Encrypt0

-- The row, if layers of this form take its algorithm. The rows' own forms are those without a list.
abbrev pub of_form : Form → Option Row → Option Row
of_form f None = None
of_form f (Some r) = if same_form (single_form f) r.form then Some r else None
