use Rattle.coset_codec.proofs.AsWritten.{tagged_as_written}
use Rattle.coset_sign.specs.Sign1.{sign1}
use Rattle.coset_sign.proofs.Written.{signs_as_written}
use Rattle.coset_sign.proofs.laws.signed_as_written.Goals as goal

pub returns-clause-plain : goal.returns-clause-plain
returns-clause-plain c = signs_as_written c.kept_as_written.ensures

pub returns-clause-tagged : goal.returns-clause-tagged
returns-clause-tagged c = tagged_as_written 18 sign1 _ (signs_as_written c.kept_as_written.ensures)
