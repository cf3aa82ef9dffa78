-- The labels of a key's fields (RFC 8152, section 7.1), by the names that IANA gives them.
use Rattle.coset_iana.specs.KeyParameter as parameters
use Rattle.coset_iana.specs.declared.keys.KeyParameter.TheVariants.{Kty, Kid, Alg, KeyOps, BaseIv}
use Rattle.coset_label.specs.LabelData.{LabelView, number}

abbrev pub kty : LabelView
kty = number (parameters.number Kty)

abbrev pub kid : LabelView
kid = number (parameters.number Kid)

abbrev pub alg : LabelView
alg = number (parameters.number Alg)

abbrev pub key_ops : LabelView
key_ops = number (parameters.number KeyOps)

abbrev pub base_iv : LabelView
base_iv = number (parameters.number BaseIv)
