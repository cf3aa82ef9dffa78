-- The numbers and names of content formats (RFC 7252, section 12.3).
use Rattle.std.specs.Prelude.{ℕ, ℤ, pos, List, codes}
use Rattle.coset_iana.specs.declared.content_formats.CoapContentFormat.{CoapContentFormat}
use Rattle.coset_iana.specs.declared.content_formats.CoapContentFormat.TheVariants.{TextPlainUtf8, CoseEncrypt0, CoseMac0, CoseSign1, AceCbor, ImageGif}
use Rattle.coset_iana.specs.declared.content_formats.CoapContentFormat.TheVariants.{ImageJpeg, ImagePng, LinkFormat, Xml, OctetStream, Exi, Json, JsonPatchJson}
use Rattle.coset_iana.specs.declared.content_formats.CoapContentFormat.TheVariants.{MergePatchJson, Cbor, Cwt, MultipartCore, CborSeq, EdhocCborSeq}
use Rattle.coset_iana.specs.declared.content_formats.CoapContentFormat.TheVariants.{CidEdhocCborSeq, CoseEncrypt, CoseMac, CoseSign, CoseKey, CoseKeySet}
use Rattle.coset_iana.specs.declared.content_formats.CoapContentFormat.TheVariants.{SenmlJson, SensmlJson, SenmlCbor, SensmlCbor, SenmlExi, SensmlExi, YangData}
use Rattle.coset_iana.specs.declared.content_formats.CoapContentFormat.TheVariants.{CoapGroupJson, ConciseProblemDetailsCbor, SwidCbor, PkixCmp, YangSidJson}
use Rattle.coset_iana.specs.declared.content_formats.CoapContentFormat.TheVariants.{AceGroupcommCbor, AceTrlCbor, EatCwt, EatJwt, EatBunCbor, EatBunJson}
use Rattle.coset_iana.specs.declared.content_formats.CoapContentFormat.TheVariants.{EatUcsCbor, EatUcsJson, DotsCbor, MissingBlocksCborSeq}
use Rattle.coset_iana.specs.declared.content_formats.CoapContentFormat.TheVariants.{Pkcs7MimeSmimeTypeServerGeneratedKey, Pkcs7MimeSmimeTypeCertsOnly}
use Rattle.coset_iana.specs.declared.content_formats.CoapContentFormat.TheVariants.{Pkcs7MimeSmimeTypeCmcRequest, Pkcs7MimeSmimeTypeCmcResponse, Pkcs8}
use Rattle.coset_iana.specs.declared.content_formats.CoapContentFormat.TheVariants.{Csrattrs, Pkcs10, PkixCert, AifCbor, AifJson, SenmlXml, SensmlXml}
use Rattle.coset_iana.specs.declared.content_formats.CoapContentFormat.TheVariants.{SenmlEtchJson, SenmlEtchCbor, YangDataCbor, YangDataCborName, TdJson}
use Rattle.coset_iana.specs.declared.content_formats.CoapContentFormat.TheVariants.{TmJson, UccsCbor, VndOcfCbor, Oscore, Javascript, EatCwtTfm, EatCwtLegacy}
use Rattle.coset_iana.specs.declared.content_formats.CoapContentFormat.TheVariants.{JsonDeflate, CborDeflate, VndOmaLwm2mTlv, VndOmaLwm2mJson, VndOmaLwm2mCbor}
use Rattle.coset_iana.specs.declared.content_formats.CoapContentFormat.TheVariants.{TextCss, ImageSvgXml}

abbrev pub number : CoapContentFormat → ℤ
number TextPlainUtf8 = pos 0
number CoseEncrypt0 = pos 16
number CoseMac0 = pos 17
number CoseSign1 = pos 18
number AceCbor = pos 19
number ImageGif = pos 21
number ImageJpeg = pos 22
number ImagePng = pos 23
number LinkFormat = pos 40
number Xml = pos 41
number OctetStream = pos 42
number Exi = pos 47
number Json = pos 50
number JsonPatchJson = pos 51
number MergePatchJson = pos 52
number Cbor = pos 60
number Cwt = pos 61
number MultipartCore = pos 62
number CborSeq = pos 63
number EdhocCborSeq = pos 64
number CidEdhocCborSeq = pos 65
number CoseEncrypt = pos 96
number CoseMac = pos 97
number CoseSign = pos 98
number CoseKey = pos 101
number CoseKeySet = pos 102
number SenmlJson = pos 110
number SensmlJson = pos 111
number SenmlCbor = pos 112
number SensmlCbor = pos 113
number SenmlExi = pos 114
number SensmlExi = pos 115
number YangData = pos 140
number CoapGroupJson = pos 256
number ConciseProblemDetailsCbor = pos 257
number SwidCbor = pos 258
number PkixCmp = pos 259
number YangSidJson = pos 260
number AceGroupcommCbor = pos 261
number AceTrlCbor = pos 262
number EatCwt = pos 263
number EatJwt = pos 264
number EatBunCbor = pos 265
number EatBunJson = pos 266
number EatUcsCbor = pos 267
number EatUcsJson = pos 268
number DotsCbor = pos 271
number MissingBlocksCborSeq = pos 272
number Pkcs7MimeSmimeTypeServerGeneratedKey = pos 280
number Pkcs7MimeSmimeTypeCertsOnly = pos 281
number Pkcs7MimeSmimeTypeCmcRequest = pos 282
number Pkcs7MimeSmimeTypeCmcResponse = pos 283
number Pkcs8 = pos 284
number Csrattrs = pos 285
number Pkcs10 = pos 286
number PkixCert = pos 287
number AifCbor = pos 290
number AifJson = pos 291
number SenmlXml = pos 310
number SensmlXml = pos 311
number SenmlEtchJson = pos 320
number SenmlEtchCbor = pos 322
number YangDataCbor = pos 340
number YangDataCborName = pos 341
number TdJson = pos 432
number TmJson = pos 433
number UccsCbor = pos 601
number VndOcfCbor = pos 10000
number Oscore = pos 10001
number Javascript = pos 10002
number EatCwtTfm = pos 10003
number EatCwtLegacy = pos 10004
number JsonDeflate = pos 11050
number CborDeflate = pos 11060
number VndOmaLwm2mTlv = pos 11542
number VndOmaLwm2mJson = pos 11543
number VndOmaLwm2mCbor = pos 11544
number TextCss = pos 20000
number ImageSvgXml = pos 30000

-- The name of each, as IANA's registry "CoAP Content-Formats" spells it: the content type, then the content coding in
-- parentheses.
abbrev pub name : CoapContentFormat → List ℕ
name TextPlainUtf8 = codes "text/plain; charset=utf-8"
name CoseEncrypt0 = codes "application/cose; cose-type=\"cose-encrypt0\""
name CoseMac0 = codes "application/cose; cose-type=\"cose-mac0\""
name CoseSign1 = codes "application/cose; cose-type=\"cose-sign1\""
name AceCbor = codes "application/ace+cbor"
name ImageGif = codes "image/gif"
name ImageJpeg = codes "image/jpeg"
name ImagePng = codes "image/png"
name LinkFormat = codes "application/link-format"
name Xml = codes "application/xml"
name OctetStream = codes "application/octet-stream"
name Exi = codes "application/exi"
name Json = codes "application/json"
name JsonPatchJson = codes "application/json-patch+json"
name MergePatchJson = codes "application/merge-patch+json"
name Cbor = codes "application/cbor"
name Cwt = codes "application/cwt"
name MultipartCore = codes "application/multipart-core"
name CborSeq = codes "application/cbor-seq"
name EdhocCborSeq = codes "application/edhoc+cbor-seq"
name CidEdhocCborSeq = codes "application/cid-edhoc+cbor-seq"
name CoseEncrypt = codes "application/cose; cose-type=\"cose-encrypt\""
name CoseMac = codes "application/cose; cose-type=\"cose-mac\""
name CoseSign = codes "application/cose; cose-type=\"cose-sign\""
name CoseKey = codes "application/cose-key"
name CoseKeySet = codes "application/cose-key-set"
name SenmlJson = codes "application/senml+json"
name SensmlJson = codes "application/sensml+json"
name SenmlCbor = codes "application/senml+cbor"
name SensmlCbor = codes "application/sensml+cbor"
name SenmlExi = codes "application/senml-exi"
name SensmlExi = codes "application/sensml-exi"
name YangData = codes "application/yang-data+cbor; id=sid"
name CoapGroupJson = codes "application/coap-group+json"
name ConciseProblemDetailsCbor = codes "application/concise-problem-details+cbor"
name SwidCbor = codes "application/swid+cbor"
name PkixCmp = codes "application/pkixcmp"
name YangSidJson = codes "application/yang-sid+json"
name AceGroupcommCbor = codes "application/ace-groupcomm+cbor"
name AceTrlCbor = codes "application/ace-trl+cbor"
name EatCwt = codes "application/eat+cwt"
name EatJwt = codes "application/eat+jwt"
name EatBunCbor = codes "application/eat-bun+cbor"
name EatBunJson = codes "application/eat-bun+json"
name EatUcsCbor = codes "application/eat-ucs+cbor"
name EatUcsJson = codes "application/eat-ucs+json"
name DotsCbor = codes "application/dots+cbor"
name MissingBlocksCborSeq = codes "application/missing-blocks+cbor-seq"
name Pkcs7MimeSmimeTypeServerGeneratedKey = codes "application/pkcs7-mime; smime-type=server-generated-key"
name Pkcs7MimeSmimeTypeCertsOnly = codes "application/pkcs7-mime; smime-type=certs-only"
name Pkcs7MimeSmimeTypeCmcRequest = codes "application/pkcs7-mime; smime-type=CMC-request"
name Pkcs7MimeSmimeTypeCmcResponse = codes "application/pkcs7-mime; smime-type=CMC-response"
name Pkcs8 = codes "application/pkcs8"
name Csrattrs = codes "application/csrattrs"
name Pkcs10 = codes "application/pkcs10"
name PkixCert = codes "application/pkix-cert"
name AifCbor = codes "application/aif+cbor"
name AifJson = codes "application/aif+json"
name SenmlXml = codes "application/senml+xml"
name SensmlXml = codes "application/sensml+xml"
name SenmlEtchJson = codes "application/senml-etch+json"
name SenmlEtchCbor = codes "application/senml-etch+cbor"
name YangDataCbor = codes "application/yang-data+cbor"
name YangDataCborName = codes "application/yang-data+cbor; id=name"
name TdJson = codes "application/td+json"
name TmJson = codes "application/tm+json"
name UccsCbor = codes "application/uccs+cbor"
name VndOcfCbor = codes "application/vnd.ocf+cbor"
name Oscore = codes "application/oscore"
name Javascript = codes "application/javascript"
name EatCwtTfm = codes "application/eat+cwt; eat_profile=\"tag:psacertified.org,2023:psa#tfm\""
name EatCwtLegacy = codes "application/eat+cwt; eat_profile=\"tag:psacertified.org,2019:psa#legacy\""
name JsonDeflate = codes "application/json (deflate)"
name CborDeflate = codes "application/cbor (deflate)"
name VndOmaLwm2mTlv = codes "application/vnd.oma.lwm2m+tlv"
name VndOmaLwm2mJson = codes "application/vnd.oma.lwm2m+json"
name VndOmaLwm2mCbor = codes "application/vnd.oma.lwm2m+cbor"
name TextCss = codes "text/css"
name ImageSvgXml = codes "image/svg+xml"
