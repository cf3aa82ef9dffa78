use Rattle.coset_codec.proofs.AsWritten.{tagged_as_written}
use Rattle.coset_core.specs.Headers.{layered_signature}
use Rattle.coset_sign.specs.Sign.{sign}
use Rattle.coset_sign.specs.Sign1.{sign1}
use Rattle.coset_sign.proofs.Countersigned.{apart_as_written, sign_countersigned, sign1_countersigned, within_as_written}
use Rattle.coset_sign.proofs.laws.countersigned_as_written.Goals as goal

pub returns-clause-within : goal.returns-clause-within
returns-clause-within c = within_as_written c.signatures_kept_as_written.ensures.header

pub returns-clause-apart : goal.returns-clause-apart
returns-clause-apart c = apart_as_written c.signatures_kept_as_written.ensures.signature

pub returns-clause-tagged_apart : goal.returns-clause-tagged_apart
returns-clause-tagged_apart c = λ k p q e.
    tagged_as_written 19 (layered_signature k) _ (apart_as_written c.signatures_kept_as_written.ensures.signature k p q e)

pub returns-clause-sign1 : goal.returns-clause-sign1
returns-clause-sign1 c = sign1_countersigned c.kept_as_written.ensures c.signatures_kept_as_written.ensures.header

pub returns-clause-tagged_sign1 : goal.returns-clause-tagged_sign1
returns-clause-tagged_sign1 c = tagged_as_written 18 sign1 _ (sign1_countersigned c.kept_as_written.ensures c.signatures_kept_as_written.ensures.header)

pub returns-clause-sign : goal.returns-clause-sign
returns-clause-sign c = sign_countersigned c.kept_as_written.ensures c.signatures_kept_as_written.ensures.header

pub returns-clause-tagged_sign : goal.returns-clause-tagged_sign
returns-clause-tagged_sign c = tagged_as_written 98 sign _ (sign_countersigned c.kept_as_written.ensures c.signatures_kept_as_written.ensures.header)
