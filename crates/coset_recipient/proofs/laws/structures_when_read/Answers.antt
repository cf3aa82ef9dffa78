use Rattle.coset_codec.proofs.AsWritten.{tagged_when_read}
use Rattle.coset_recipient.specs.Encrypt.{encrypt}
use Rattle.coset_recipient.specs.Mac.{mac}
use Rattle.coset_recipient.proofs.Written.{encrypt_when_read, mac_when_read, recipient_when_read}
use Rattle.coset_recipient.proofs.laws.structures_when_read.Goals as goal

pub returns-clause-recipient : goal.returns-clause-recipient
returns-clause-recipient c = recipient_when_read

pub returns-clause-mac : goal.returns-clause-mac
returns-clause-mac c = mac_when_read

pub returns-clause-tagged_mac : goal.returns-clause-tagged_mac
returns-clause-tagged_mac c = tagged_when_read 97 mac _ mac_when_read

pub returns-clause-encrypt : goal.returns-clause-encrypt
returns-clause-encrypt c = encrypt_when_read

pub returns-clause-tagged_encrypt : goal.returns-clause-tagged_encrypt
returns-clause-tagged_encrypt c = tagged_when_read 96 encrypt _ encrypt_when_read
