use Rattle.coset_codec.proofs.AsWritten.{tagged_when_read}
use Rattle.coset_core.specs.Headers.{layered_signature}
use Rattle.coset_sign.specs.Sign.{sign}
use Rattle.coset_sign.specs.Sign1.{sign1}
use Rattle.coset_sign.proofs.Countersigned.{apart_when_read, sign_countersigns, sign1_countersigns, within_when_read}
use Rattle.coset_sign.proofs.laws.countersigned_when_read.Goals as goal

pub returns-clause-within : goal.returns-clause-within
returns-clause-within c = λ k p b e. within_when_read c.signatures_kept_as_received.ensures.header k p (b, e)

pub returns-clause-apart : goal.returns-clause-apart
returns-clause-apart c = λ k p b e. apart_when_read c.signatures_kept_as_received.ensures.signature k p (b, e)

pub returns-clause-tagged_apart : goal.returns-clause-tagged_apart
returns-clause-tagged_apart c = λ k p b e.
    tagged_when_read 19 (layered_signature k) _ (apart_when_read c.signatures_kept_as_received.ensures.signature k p (b, e))

pub returns-clause-sign1 : goal.returns-clause-sign1
returns-clause-sign1 c = sign1_countersigns c.signatures_kept_as_received.ensures.header

pub returns-clause-tagged_sign1 : goal.returns-clause-tagged_sign1
returns-clause-tagged_sign1 c = tagged_when_read 18 sign1 _ (sign1_countersigns c.signatures_kept_as_received.ensures.header)

pub returns-clause-sign : goal.returns-clause-sign
returns-clause-sign c = sign_countersigns c.signatures_kept_as_received.ensures.header

pub returns-clause-tagged_sign : goal.returns-clause-tagged_sign
returns-clause-tagged_sign c = tagged_when_read 98 sign _ (sign_countersigns c.signatures_kept_as_received.ensures.header)
