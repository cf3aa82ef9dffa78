use Rattle.coset_codec.proofs.AsWritten.{tagged_when_read}
use Rattle.coset_sign.specs.Sign.{EachSigns, sign}
use Rattle.coset_sign.proofs.Written.{each_signs_when_read}
use Rattle.coset_sign.proofs.laws.each_signed_when_read.Goals as goal

pub returns-clause-plain : goal.returns-clause-plain
returns-clause-plain c = each_signs_when_read

pub returns-clause-tagged : goal.returns-clause-tagged
returns-clause-tagged c = tagged_when_read 98 sign EachSigns each_signs_when_read
