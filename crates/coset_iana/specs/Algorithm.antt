-- The numbers and names of algorithms (RFC 8152, section 16.4).
use Rattle.std.specs.Prelude.{ℕ, ℤ, pos, List, codes}
use Rattle.coset_iana.specs.Registry.{minus}
use Rattle.coset_iana.specs.declared.algorithms.Algorithm.{Algorithm}
use Rattle.coset_iana.specs.declared.algorithms.Algorithm.TheVariants.{RS1, AesCtr128, AesCtr192, AesCtr256, AesCbc128, AesCbc192, AesCbc256, ESB512, ESB384}
use Rattle.coset_iana.specs.declared.algorithms.Algorithm.TheVariants.{ESB320, ESB256, WalnutDSA, RS512, RS384, RS256, Ed448, ESP512, ESP384, ML_DSA_87}
use Rattle.coset_iana.specs.declared.algorithms.Algorithm.TheVariants.{ML_DSA_65, ML_DSA_44, ES256K, HSS_LMS, SHAKE256, SHA_512, SHA_384, RSAES_OAEP_SHA_512}
use Rattle.coset_iana.specs.declared.algorithms.Algorithm.TheVariants.{RSAES_OAEP_SHA_256, RSAES_OAEP_RFC_8017_default, PS512, PS384, PS256, ES512, ES384}
use Rattle.coset_iana.specs.declared.algorithms.Algorithm.TheVariants.{ECDH_SS_A256KW, ECDH_SS_A192KW, ECDH_SS_A128KW, ECDH_ES_A256KW, ECDH_ES_A192KW}
use Rattle.coset_iana.specs.declared.algorithms.Algorithm.TheVariants.{ECDH_ES_A128KW, ECDH_SS_HKDF_512, ECDH_SS_HKDF_256, ECDH_ES_HKDF_512, ECDH_ES_HKDF_256}
use Rattle.coset_iana.specs.declared.algorithms.Algorithm.TheVariants.{Ed25519, SHAKE128, SHA_512_256, SHA_256, SHA_256_64, SHA_1, Direct_HKDF_AES_256}
use Rattle.coset_iana.specs.declared.algorithms.Algorithm.TheVariants.{Direct_HKDF_AES_128, Direct_HKDF_SHA_512, Direct_HKDF_SHA_256, ESP256, EdDSA, ES256}
use Rattle.coset_iana.specs.declared.algorithms.Algorithm.TheVariants.{Direct, A256KW, A192KW, A128KW, Reserved, A128GCM, A192GCM, A256GCM, HMAC_256_64}
use Rattle.coset_iana.specs.declared.algorithms.Algorithm.TheVariants.{HMAC_256_256, HMAC_384_384, HMAC_512_512, AES_CCM_16_64_128, AES_CCM_16_64_256}
use Rattle.coset_iana.specs.declared.algorithms.Algorithm.TheVariants.{AES_CCM_64_64_128, AES_CCM_64_64_256, AES_MAC_128_64, AES_MAC_256_64, ChaCha20Poly1305}
use Rattle.coset_iana.specs.declared.algorithms.Algorithm.TheVariants.{AES_MAC_128_128, AES_MAC_256_128, AES_CCM_16_128_128, AES_CCM_16_128_256}
use Rattle.coset_iana.specs.declared.algorithms.Algorithm.TheVariants.{AES_CCM_64_128_128, AES_CCM_64_128_256, IV_GENERATION}

abbrev pub number : Algorithm → ℤ
number RS1 = minus 65535
number AesCtr128 = minus 65534
number AesCtr192 = minus 65533
number AesCtr256 = minus 65532
number AesCbc128 = minus 65531
number AesCbc192 = minus 65530
number AesCbc256 = minus 65529
number ESB512 = minus 268
number ESB384 = minus 267
number ESB320 = minus 266
number ESB256 = minus 265
number WalnutDSA = minus 260
number RS512 = minus 259
number RS384 = minus 258
number RS256 = minus 257
number Ed448 = minus 53
number ESP512 = minus 52
number ESP384 = minus 51
number ML_DSA_87 = minus 50
number ML_DSA_65 = minus 49
number ML_DSA_44 = minus 48
number ES256K = minus 47
number HSS_LMS = minus 46
number SHAKE256 = minus 45
number SHA_512 = minus 44
number SHA_384 = minus 43
number RSAES_OAEP_SHA_512 = minus 42
number RSAES_OAEP_SHA_256 = minus 41
number RSAES_OAEP_RFC_8017_default = minus 40
number PS512 = minus 39
number PS384 = minus 38
number PS256 = minus 37
number ES512 = minus 36
number ES384 = minus 35
number ECDH_SS_A256KW = minus 34
number ECDH_SS_A192KW = minus 33
number ECDH_SS_A128KW = minus 32
number ECDH_ES_A256KW = minus 31
number ECDH_ES_A192KW = minus 30
number ECDH_ES_A128KW = minus 29
number ECDH_SS_HKDF_512 = minus 28
number ECDH_SS_HKDF_256 = minus 27
number ECDH_ES_HKDF_512 = minus 26
number ECDH_ES_HKDF_256 = minus 25
number Ed25519 = minus 19
number SHAKE128 = minus 18
number SHA_512_256 = minus 17
number SHA_256 = minus 16
number SHA_256_64 = minus 15
number SHA_1 = minus 14
number Direct_HKDF_AES_256 = minus 13
number Direct_HKDF_AES_128 = minus 12
number Direct_HKDF_SHA_512 = minus 11
number Direct_HKDF_SHA_256 = minus 10
number ESP256 = minus 9
number EdDSA = minus 8
number ES256 = minus 7
number Direct = minus 6
number A256KW = minus 5
number A192KW = minus 4
number A128KW = minus 3
number Reserved = pos 0
number A128GCM = pos 1
number A192GCM = pos 2
number A256GCM = pos 3
number HMAC_256_64 = pos 4
number HMAC_256_256 = pos 5
number HMAC_384_384 = pos 6
number HMAC_512_512 = pos 7
number AES_CCM_16_64_128 = pos 10
number AES_CCM_16_64_256 = pos 11
number AES_CCM_64_64_128 = pos 12
number AES_CCM_64_64_256 = pos 13
number AES_MAC_128_64 = pos 14
number AES_MAC_256_64 = pos 15
number ChaCha20Poly1305 = pos 24
number AES_MAC_128_128 = pos 25
number AES_MAC_256_128 = pos 26
number AES_CCM_16_128_128 = pos 30
number AES_CCM_16_128_256 = pos 31
number AES_CCM_64_128_128 = pos 32
number AES_CCM_64_128_256 = pos 33
number IV_GENERATION = pos 34

-- The name of each, as IANA's registry "COSE Algorithms" spells it.
abbrev pub name : Algorithm → List ℕ
name RS1 = codes "RS1"
name AesCtr128 = codes "A128CTR"
name AesCtr192 = codes "A192CTR"
name AesCtr256 = codes "A256CTR"
name AesCbc128 = codes "A128CBC"
name AesCbc192 = codes "A192CBC"
name AesCbc256 = codes "A256CBC"
name ESB512 = codes "ESB512"
name ESB384 = codes "ESB384"
name ESB320 = codes "ESB320"
name ESB256 = codes "ESB256"
name WalnutDSA = codes "WalnutDSA"
name RS512 = codes "RS512"
name RS384 = codes "RS384"
name RS256 = codes "RS256"
name Ed448 = codes "Ed448"
name ESP512 = codes "ESP512"
name ESP384 = codes "ESP384"
name ML_DSA_87 = codes "ML-DSA-87"
name ML_DSA_65 = codes "ML-DSA-65"
name ML_DSA_44 = codes "ML-DSA-44"
name ES256K = codes "ES256K"
name HSS_LMS = codes "HSS-LMS"
name SHAKE256 = codes "SHAKE256"
name SHA_512 = codes "SHA-512"
name SHA_384 = codes "SHA-384"
name RSAES_OAEP_SHA_512 = codes "RSAES-OAEP w/ SHA-512"
name RSAES_OAEP_SHA_256 = codes "RSAES-OAEP w/ SHA-256"
name RSAES_OAEP_RFC_8017_default = codes "RSAES-OAEP w/ RFC 8017 default parameters"
name PS512 = codes "PS512"
name PS384 = codes "PS384"
name PS256 = codes "PS256"
name ES512 = codes "ES512"
name ES384 = codes "ES384"
name ECDH_SS_A256KW = codes "ECDH-SS + A256KW"
name ECDH_SS_A192KW = codes "ECDH-SS + A192KW"
name ECDH_SS_A128KW = codes "ECDH-SS + A128KW"
name ECDH_ES_A256KW = codes "ECDH-ES + A256KW"
name ECDH_ES_A192KW = codes "ECDH-ES + A192KW"
name ECDH_ES_A128KW = codes "ECDH-ES + A128KW"
name ECDH_SS_HKDF_512 = codes "ECDH-SS + HKDF-512"
name ECDH_SS_HKDF_256 = codes "ECDH-SS + HKDF-256"
name ECDH_ES_HKDF_512 = codes "ECDH-ES + HKDF-512"
name ECDH_ES_HKDF_256 = codes "ECDH-ES + HKDF-256"
name Ed25519 = codes "Ed25519"
name SHAKE128 = codes "SHAKE128"
name SHA_512_256 = codes "SHA-512/256"
name SHA_256 = codes "SHA-256"
name SHA_256_64 = codes "SHA-256/64"
name SHA_1 = codes "SHA-1"
name Direct_HKDF_AES_256 = codes "direct+HKDF-AES-256"
name Direct_HKDF_AES_128 = codes "direct+HKDF-AES-128"
name Direct_HKDF_SHA_512 = codes "direct+HKDF-SHA-512"
name Direct_HKDF_SHA_256 = codes "direct+HKDF-SHA-256"
name ESP256 = codes "ESP256"
name EdDSA = codes "EdDSA"
name ES256 = codes "ES256"
name Direct = codes "direct"
name A256KW = codes "A256KW"
name A192KW = codes "A192KW"
name A128KW = codes "A128KW"
name Reserved = codes "Reserved"
name A128GCM = codes "A128GCM"
name A192GCM = codes "A192GCM"
name A256GCM = codes "A256GCM"
name HMAC_256_64 = codes "HMAC 256/64"
name HMAC_256_256 = codes "HMAC 256/256"
name HMAC_384_384 = codes "HMAC 384/384"
name HMAC_512_512 = codes "HMAC 512/512"
name AES_CCM_16_64_128 = codes "AES-CCM-16-64-128"
name AES_CCM_16_64_256 = codes "AES-CCM-16-64-256"
name AES_CCM_64_64_128 = codes "AES-CCM-64-64-128"
name AES_CCM_64_64_256 = codes "AES-CCM-64-64-256"
name AES_MAC_128_64 = codes "AES-MAC 128/64"
name AES_MAC_256_64 = codes "AES-MAC 256/64"
name ChaCha20Poly1305 = codes "ChaCha20/Poly1305"
name AES_MAC_128_128 = codes "AES-MAC 128/128"
name AES_MAC_256_128 = codes "AES-MAC 256/128"
name AES_CCM_16_128_128 = codes "AES-CCM-16-128-128"
name AES_CCM_16_128_256 = codes "AES-CCM-16-128-256"
name AES_CCM_64_128_128 = codes "AES-CCM-64-128-128"
name AES_CCM_64_128_256 = codes "AES-CCM-64-128-256"
name IV_GENERATION = codes "IV-GENERATION"
