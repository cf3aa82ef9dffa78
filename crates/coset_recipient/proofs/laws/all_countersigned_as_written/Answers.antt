use Rattle.coset_codec.proofs.AsWritten.{tagged_as_written}
use Rattle.coset_msg.specs.Encrypt0.{encrypt0}
use Rattle.coset_msg.specs.Mac0.{mac0}
use Rattle.coset_recipient.specs.Encrypt.{encrypt}
use Rattle.coset_recipient.specs.Mac.{mac}
use Rattle.coset_recipient.proofs.Written.{encrypt_countersigned, encrypt0_countersigned, mac_countersigned, mac0_countersigned, recipient_countersigned}
use Rattle.coset_recipient.proofs.laws.all_countersigned_as_written.Goals as goal

pub returns-clause-mac0 : goal.returns-clause-mac0
returns-clause-mac0 c = mac0_countersigned c.kept_as_written.ensures c.signatures_kept_as_written.ensures.header

pub returns-clause-tagged_mac0 : goal.returns-clause-tagged_mac0
returns-clause-tagged_mac0 c =
    tagged_as_written 17 mac0 _ (mac0_countersigned c.kept_as_written.ensures c.signatures_kept_as_written.ensures.header)

pub returns-clause-encrypt0 : goal.returns-clause-encrypt0
returns-clause-encrypt0 c = encrypt0_countersigned c.kept_as_written.ensures c.signatures_kept_as_written.ensures.header

pub returns-clause-tagged_encrypt0 : goal.returns-clause-tagged_encrypt0
returns-clause-tagged_encrypt0 c =
    tagged_as_written 16 encrypt0 _ (encrypt0_countersigned c.kept_as_written.ensures c.signatures_kept_as_written.ensures.header)

pub returns-clause-recipient : goal.returns-clause-recipient
returns-clause-recipient c = recipient_countersigned c.kept_as_written.ensures c.signatures_kept_as_written.ensures.header

pub returns-clause-mac : goal.returns-clause-mac
returns-clause-mac c = mac_countersigned c.kept_as_written.ensures c.signatures_kept_as_written.ensures.header

pub returns-clause-tagged_mac : goal.returns-clause-tagged_mac
returns-clause-tagged_mac c =
    tagged_as_written 97 mac _ (mac_countersigned c.kept_as_written.ensures c.signatures_kept_as_written.ensures.header)

pub returns-clause-encrypt : goal.returns-clause-encrypt
returns-clause-encrypt c = encrypt_countersigned c.kept_as_written.ensures c.signatures_kept_as_written.ensures.header

pub returns-clause-tagged_encrypt : goal.returns-clause-tagged_encrypt
returns-clause-tagged_encrypt c =
    tagged_as_written 96 encrypt _ (encrypt_countersigned c.kept_as_written.ensures c.signatures_kept_as_written.ensures.header)
