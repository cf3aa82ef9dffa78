use Rattle.coset_core.specs.Kept.{KeepsFirst}
use Rattle.coset_msg.specs.Encrypt0.{encrypt0}
use Rattle.coset_msg.specs.Mac0.{mac0}
use Rattle.coset_core.proofs.Received.{under_tag}
use Rattle.coset_msg.proofs.Received.{encrypt0_received, mac0_received}
use Rattle.coset_msg.proofs.laws.received_in_messages.Goals as goal

pub returns-clause-mac0 : goal.returns-clause-mac0
returns-clause-mac0 c = mac0_received

pub returns-clause-tagged_mac0 : goal.returns-clause-tagged_mac0
returns-clause-tagged_mac0 c = under_tag 17 mac0 (λ v m. KeepsFirst v m.protected) mac0_received

pub returns-clause-encrypt0 : goal.returns-clause-encrypt0
returns-clause-encrypt0 c = encrypt0_received

pub returns-clause-tagged_encrypt0 : goal.returns-clause-tagged_encrypt0
returns-clause-tagged_encrypt0 c = under_tag 16 encrypt0 (λ v m. KeepsFirst v m.protected) encrypt0_received
