use Rattle.coset_core.specs.Kept.{KeepsFirst}
use Rattle.coset_sign.specs.Sign.{sign}
use Rattle.coset_sign.specs.Sign1.{sign1}
use Rattle.coset_core.proofs.Received.{under_tag}
use Rattle.coset_sign.proofs.Received.{sign_received, sign1_received}
use Rattle.coset_sign.proofs.laws.received_in_signed.Goals as goal

pub returns-clause-sign1 : goal.returns-clause-sign1
returns-clause-sign1 c = sign1_received

pub returns-clause-tagged_sign1 : goal.returns-clause-tagged_sign1
returns-clause-tagged_sign1 c = under_tag 18 sign1 (λ v m. KeepsFirst v m.protected) sign1_received

pub returns-clause-sign : goal.returns-clause-sign
returns-clause-sign c = sign_received

pub returns-clause-tagged_sign : goal.returns-clause-tagged_sign
returns-clause-tagged_sign c = under_tag 98 sign (λ v m. KeepsFirst v m.protected) sign_received
