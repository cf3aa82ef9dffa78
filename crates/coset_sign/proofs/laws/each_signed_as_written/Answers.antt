use Rattle.coset_codec.proofs.AsWritten.{tagged_as_written}
use Rattle.coset_sign.specs.Sign.{sign}
use Rattle.coset_sign.proofs.Written.{each_signs_as_written}
use Rattle.coset_sign.proofs.laws.each_signed_as_written.Goals as goal

pub returns-clause-plain : goal.returns-clause-plain
returns-clause-plain c = each_signs_as_written c.kept_as_written.ensures

pub returns-clause-tagged : goal.returns-clause-tagged
returns-clause-tagged c = tagged_as_written 98 sign _ (each_signs_as_written c.kept_as_written.ensures)
