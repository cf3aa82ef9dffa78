use Rattle.coset_codec.proofs.AsWritten.{tagged_when_read}
use Rattle.coset_sign.specs.Sign1.{sign1}
use Rattle.coset_sign.proofs.Written.{has_signed}
use Rattle.coset_sign.proofs.laws.signed_when_read.Goals as goal

pub returns-clause-plain : goal.returns-clause-plain
returns-clause-plain c = has_signed

pub returns-clause-tagged : goal.returns-clause-tagged
returns-clause-tagged c = λ a l. tagged_when_read 18 sign1 _ (has_signed a l)
