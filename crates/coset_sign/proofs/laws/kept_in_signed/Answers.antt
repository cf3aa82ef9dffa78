use Rattle.coset_codec.proofs.AsWritten.{tagged_as_written}
use Rattle.coset_sign.specs.Sign.{sign}
use Rattle.coset_sign.specs.Sign1.{sign1}
use Rattle.coset_sign.proofs.Written.{sign_kept, sign1_kept}
use Rattle.coset_sign.proofs.laws.kept_in_signed.Goals as goal

pub returns-clause-sign1 : goal.returns-clause-sign1
returns-clause-sign1 c = sign1_kept c.kept_as_written.ensures

pub returns-clause-tagged_sign1 : goal.returns-clause-tagged_sign1
returns-clause-tagged_sign1 c = tagged_as_written 18 sign1 _ (sign1_kept c.kept_as_written.ensures)

pub returns-clause-sign : goal.returns-clause-sign
returns-clause-sign c = sign_kept c.kept_as_written.ensures

pub returns-clause-tagged_sign : goal.returns-clause-tagged_sign
returns-clause-tagged_sign c = tagged_as_written 98 sign _ (sign_kept c.kept_as_written.ensures)
