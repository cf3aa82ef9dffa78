use Rattle.coset_codec.proofs.AsWritten.{tagged_as_written}
use Rattle.coset_recipient.specs.Encrypt.{encrypt}
use Rattle.coset_recipient.specs.Mac.{mac}
use Rattle.coset_recipient.proofs.Written.{encrypt_kept, mac_kept, recipient_kept}
use Rattle.coset_recipient.proofs.laws.kept_with_recipients.Goals as goal

pub returns-clause-recipient : goal.returns-clause-recipient
returns-clause-recipient c = recipient_kept c.kept_as_written.ensures

pub returns-clause-mac : goal.returns-clause-mac
returns-clause-mac c = mac_kept c.kept_as_written.ensures

pub returns-clause-tagged_mac : goal.returns-clause-tagged_mac
returns-clause-tagged_mac c = tagged_as_written 97 mac _ (mac_kept c.kept_as_written.ensures)

pub returns-clause-encrypt : goal.returns-clause-encrypt
returns-clause-encrypt c = encrypt_kept c.kept_as_written.ensures

pub returns-clause-tagged_encrypt : goal.returns-clause-tagged_encrypt
returns-clause-tagged_encrypt c = tagged_as_written 96 encrypt _ (encrypt_kept c.kept_as_written.ensures)
