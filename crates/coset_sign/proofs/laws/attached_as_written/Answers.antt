use Rattle.coset_codec.proofs.AsWritten.{tagged_as_written}
use Rattle.coset_sign.specs.Sign1.{SamePayloadAndSignature, sign1}
use Rattle.coset_sign.proofs.Written.{carries_as_written}
use Rattle.coset_sign.proofs.laws.attached_as_written.Goals as goal

pub returns-clause-plain : goal.returns-clause-plain
returns-clause-plain c = carries_as_written

pub returns-clause-tagged : goal.returns-clause-tagged
returns-clause-tagged c = tagged_as_written 18 sign1 SamePayloadAndSignature carries_as_written
