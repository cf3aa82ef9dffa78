use Rattle.coset_codec.proofs.AsWritten.{tagged_when_read}
use Rattle.coset_msg.specs.Encrypt0.{encrypt0}
use Rattle.coset_msg.specs.Mac0.{mac0}
use Rattle.coset_recipient.specs.Encrypt.{encrypt}
use Rattle.coset_recipient.specs.Mac.{mac}
use Rattle.coset_recipient.proofs.Written.{encrypt_countersigns, encrypt0_countersigns, mac_countersigns, mac0_countersigns, recipient_countersigns}
use Rattle.coset_recipient.proofs.laws.all_countersigned_when_read.Goals as goal

pub returns-clause-mac0 : goal.returns-clause-mac0
returns-clause-mac0 c = mac0_countersigns c.signatures_kept_as_received.ensures.header

pub returns-clause-tagged_mac0 : goal.returns-clause-tagged_mac0
returns-clause-tagged_mac0 c = tagged_when_read 17 mac0 _ (mac0_countersigns c.signatures_kept_as_received.ensures.header)

pub returns-clause-encrypt0 : goal.returns-clause-encrypt0
returns-clause-encrypt0 c = encrypt0_countersigns c.signatures_kept_as_received.ensures.header

pub returns-clause-tagged_encrypt0 : goal.returns-clause-tagged_encrypt0
returns-clause-tagged_encrypt0 c = tagged_when_read 16 encrypt0 _ (encrypt0_countersigns c.signatures_kept_as_received.ensures.header)

pub returns-clause-recipient : goal.returns-clause-recipient
returns-clause-recipient c = recipient_countersigns c.signatures_kept_as_received.ensures.header

pub returns-clause-mac : goal.returns-clause-mac
returns-clause-mac c = mac_countersigns c.signatures_kept_as_received.ensures.header

pub returns-clause-tagged_mac : goal.returns-clause-tagged_mac
returns-clause-tagged_mac c = tagged_when_read 97 mac _ (mac_countersigns c.signatures_kept_as_received.ensures.header)

pub returns-clause-encrypt : goal.returns-clause-encrypt
returns-clause-encrypt c = encrypt_countersigns c.signatures_kept_as_received.ensures.header

pub returns-clause-tagged_encrypt : goal.returns-clause-tagged_encrypt
returns-clause-tagged_encrypt c = tagged_when_read 96 encrypt _ (encrypt_countersigns c.signatures_kept_as_received.ensures.header)
