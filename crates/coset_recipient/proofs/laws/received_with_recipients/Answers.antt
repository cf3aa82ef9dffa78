use Rattle.coset_core.specs.Kept.{KeepsFirst}
use Rattle.coset_recipient.specs.Encrypt.{encrypt}
use Rattle.coset_recipient.specs.Mac.{mac}
use Rattle.coset_recipient.proofs.Written.{encrypt_received, mac_received, recipient_received}
use Rattle.coset_core.proofs.Received.{under_tag}
use Rattle.coset_recipient.proofs.laws.received_with_recipients.Goals as goal

pub returns-clause-recipient : goal.returns-clause-recipient
returns-clause-recipient c = recipient_received

pub returns-clause-mac : goal.returns-clause-mac
returns-clause-mac c = mac_received

pub returns-clause-tagged_mac : goal.returns-clause-tagged_mac
returns-clause-tagged_mac c = under_tag 97 mac (λ v m. KeepsFirst v m.protected) mac_received

pub returns-clause-encrypt : goal.returns-clause-encrypt
returns-clause-encrypt c = encrypt_received

pub returns-clause-tagged_encrypt : goal.returns-clause-tagged_encrypt
returns-clause-tagged_encrypt c = under_tag 96 encrypt (λ v m. KeepsFirst v m.protected) encrypt_received
