-- The labels of a header's fields (RFC 8152, section 3.1; RFC 9338, section 2), by their IANA names.
use Rattle.coset_iana.specs.HeaderParameter as parameters
use Rattle.coset_iana.specs.declared.headers.HeaderParameter.TheVariants.{Alg, Crit, ContentType, Kid, Iv, PartialIv, CounterSignature, CounterSignatureV2}
use Rattle.coset_iana.specs.declared.headers.HeaderParameter.TheVariants.{CounterSignature0V2}
use Rattle.coset_label.specs.LabelData.{LabelView, number}

abbrev pub alg : LabelView
alg = number (parameters.number Alg)

abbrev pub crit : LabelView
crit = number (parameters.number Crit)

abbrev pub content_type : LabelView
content_type = number (parameters.number ContentType)

abbrev pub kid : LabelView
kid = number (parameters.number Kid)

abbrev pub iv : LabelView
iv = number (parameters.number Iv)

abbrev pub partial_iv : LabelView
partial_iv = number (parameters.number PartialIv)

abbrev pub counter_signature : LabelView
counter_signature = number (parameters.number CounterSignature)

abbrev pub countersignature_v2 : LabelView
countersignature_v2 = number (parameters.number CounterSignatureV2)

abbrev pub countersignature0_v2 : LabelView
countersignature0_v2 = number (parameters.number CounterSignature0V2)
