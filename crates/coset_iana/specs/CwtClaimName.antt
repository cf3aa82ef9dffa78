-- The numbers and names of claim names (RFC 8392, sections 3.1 and 9.1).
use Rattle.std.specs.Prelude.{ℕ, ℤ, pos, List, codes}
use Rattle.coset_iana.specs.Registry.{minus}
use Rattle.coset_iana.specs.declared.claims.CwtClaimName.{CwtClaimName}
use Rattle.coset_iana.specs.declared.claims.CwtClaimName.TheVariants.{GlobalPlatformComponents, Hcert, EuphNonce, EatMaroePrefix, EatFido, Reserved, Iss, Sub}
use Rattle.coset_iana.specs.declared.claims.CwtClaimName.TheVariants.{Aud, Exp, Nbf, Iat, Cti, Cnf, Scope, Nonce, AceProfile, CNonce, Exi, UEID, SUEIDs}
use Rattle.coset_iana.specs.declared.claims.CwtClaimName.TheVariants.{HardwareOemid, HardwareModel, HardwareVersion, Uptime, OemAuthorizedBoot, DebugStatus}
use Rattle.coset_iana.specs.declared.claims.CwtClaimName.TheVariants.{Location, EatProfile, SubmodulesSection, BootCount, BootSeed, DLoAs, SoftwareName}
use Rattle.coset_iana.specs.declared.claims.CwtClaimName.TheVariants.{SoftwareVersion, SoftwareManifests, Measurements, SoftwareMeasurementResults, IntendedUse}
use Rattle.coset_iana.specs.declared.claims.CwtClaimName.TheVariants.{Geohash, WmVersion, WmVendor, WmPatternLen, WmSegmentDuration, WmPattern, WmId, WmOpId}
use Rattle.coset_iana.specs.declared.claims.CwtClaimName.TheVariants.{WmKeyVer, CatReplay, CatPor, CatVersion, CatNetworkIp, CatUri, CatMethod, CatAlpn}
use Rattle.coset_iana.specs.declared.claims.CwtClaimName.TheVariants.{CatHeader, CatGeoIso3166, CatGeoCoord, CatGeoAlt, CatTlsPublicKey, CatIfData, CatDPoP}
use Rattle.coset_iana.specs.declared.claims.CwtClaimName.TheVariants.{CatIf, CatRenewal, PsaClientId, PsaSecurityLifecycle, PsaImplementationId}
use Rattle.coset_iana.specs.declared.claims.CwtClaimName.TheVariants.{PsaCertificationReference, PsaSoftwareComponents, PsaVerificationServiceIndicator}

abbrev pub number : CwtClaimName → ℤ
number GlobalPlatformComponents = minus 261
number Hcert = minus 260
number EuphNonce = minus 259
number EatMaroePrefix = minus 258
number EatFido = minus 257
number Reserved = pos 0
number Iss = pos 1
number Sub = pos 2
number Aud = pos 3
number Exp = pos 4
number Nbf = pos 5
number Iat = pos 6
number Cti = pos 7
number Cnf = pos 8
number Scope = pos 9
number Nonce = pos 10
number AceProfile = pos 38
number CNonce = pos 39
number Exi = pos 40
number UEID = pos 256
number SUEIDs = pos 257
number HardwareOemid = pos 258
number HardwareModel = pos 259
number HardwareVersion = pos 260
number Uptime = pos 261
number OemAuthorizedBoot = pos 262
number DebugStatus = pos 263
number Location = pos 264
number EatProfile = pos 265
number SubmodulesSection = pos 266
number BootCount = pos 267
number BootSeed = pos 268
number DLoAs = pos 269
number SoftwareName = pos 270
number SoftwareVersion = pos 271
number SoftwareManifests = pos 272
number Measurements = pos 273
number SoftwareMeasurementResults = pos 274
number IntendedUse = pos 275
number Geohash = pos 282
number WmVersion = pos 300
number WmVendor = pos 301
number WmPatternLen = pos 302
number WmSegmentDuration = pos 303
number WmPattern = pos 304
number WmId = pos 305
number WmOpId = pos 306
number WmKeyVer = pos 307
number CatReplay = pos 308
number CatPor = pos 309
number CatVersion = pos 310
number CatNetworkIp = pos 311
number CatUri = pos 312
number CatMethod = pos 313
number CatAlpn = pos 314
number CatHeader = pos 315
number CatGeoIso3166 = pos 316
number CatGeoCoord = pos 317
number CatGeoAlt = pos 318
number CatTlsPublicKey = pos 319
number CatIfData = pos 320
number CatDPoP = pos 321
number CatIf = pos 322
number CatRenewal = pos 323
number PsaClientId = pos 2394
number PsaSecurityLifecycle = pos 2395
number PsaImplementationId = pos 2396
number PsaCertificationReference = pos 2398
number PsaSoftwareComponents = pos 2399
number PsaVerificationServiceIndicator = pos 2400

-- The name of each, as IANA's registry "CBOR Web Token (CWT) Claims" spells it. Claims of attestation tokens have the
-- short spelling of RFC 9711.
abbrev pub name : CwtClaimName → List ℕ
name GlobalPlatformComponents = codes "GlobalPlatform Components"
name Hcert = codes "hcert"
name EuphNonce = codes "EUPHNonce"
name EatMaroePrefix = codes "EATMAROEPrefix"
name EatFido = codes "EAT-FDO"
name Reserved = codes "Reserved"
name Iss = codes "iss"
name Sub = codes "sub"
name Aud = codes "aud"
name Exp = codes "exp"
name Nbf = codes "nbf"
name Iat = codes "iat"
name Cti = codes "cti"
name Cnf = codes "cnf"
name Scope = codes "scope"
name Nonce = codes "nonce"
name AceProfile = codes "ace_profile"
name CNonce = codes "cnonce"
name Exi = codes "exi"
name UEID = codes "ueid"
name SUEIDs = codes "sueids"
name HardwareOemid = codes "oemid"
name HardwareModel = codes "hwmodel"
name HardwareVersion = codes "hwversion"
name Uptime = codes "uptime"
name OemAuthorizedBoot = codes "oemboot"
name DebugStatus = codes "dbgstat"
name Location = codes "location"
name EatProfile = codes "eat_profile"
name SubmodulesSection = codes "submods"
name BootCount = codes "bootcount"
name BootSeed = codes "bootseed"
name DLoAs = codes "dloas"
name SoftwareName = codes "swname"
name SoftwareVersion = codes "swversion"
name SoftwareManifests = codes "manifests"
name Measurements = codes "measurements"
name SoftwareMeasurementResults = codes "measres"
name IntendedUse = codes "intuse"
name Geohash = codes "geohash"
name WmVersion = codes "wmver"
name WmVendor = codes "wmvnd"
name WmPatternLen = codes "wmpatlen"
name WmSegmentDuration = codes "wmsegduration"
name WmPattern = codes "wmpat"
name WmId = codes "wmid"
name WmOpId = codes "wmopid"
name WmKeyVer = codes "wmkeyver"
name CatReplay = codes "catreplay"
name CatPor = codes "catpor"
name CatVersion = codes "catv"
name CatNetworkIp = codes "catnip"
name CatUri = codes "catu"
name CatMethod = codes "catm"
name CatAlpn = codes "catalpn"
name CatHeader = codes "cath"
name CatGeoIso3166 = codes "catgeoiso3166"
name CatGeoCoord = codes "catgeocoord"
name CatGeoAlt = codes "catgeoalt"
name CatTlsPublicKey = codes "cattpk"
name CatIfData = codes "catifdata"
name CatDPoP = codes "catdpop"
name CatIf = codes "catif"
name CatRenewal = codes "catr"
name PsaClientId = codes "psa-client-id"
name PsaSecurityLifecycle = codes "psa-security-lifecycle"
name PsaImplementationId = codes "psa-implementation-id"
name PsaCertificationReference = codes "psa-certification-reference"
name PsaSoftwareComponents = codes "psa-software-components"
name PsaVerificationServiceIndicator = codes "psa-verification-service-indicator"
