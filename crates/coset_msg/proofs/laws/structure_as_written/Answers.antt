use Rattle.coset_codec.proofs.AsWritten.{tagged_as_written}
use Rattle.coset_msg.specs.Encrypt0.{encrypt0}
use Rattle.coset_msg.specs.Mac0.{mac0}
use Rattle.coset_msg.proofs.Written.{encrypt0_as_written, mac0_as_written}
use Rattle.coset_msg.proofs.laws.structure_as_written.Goals as goal

pub returns-clause-mac0 : goal.returns-clause-mac0
returns-clause-mac0 c = mac0_as_written c.kept_as_written.ensures

pub returns-clause-tagged_mac0 : goal.returns-clause-tagged_mac0
returns-clause-tagged_mac0 c = tagged_as_written 17 mac0 _ (mac0_as_written c.kept_as_written.ensures)

pub returns-clause-encrypt0 : goal.returns-clause-encrypt0
returns-clause-encrypt0 c = encrypt0_as_written c.kept_as_written.ensures

pub returns-clause-tagged_encrypt0 : goal.returns-clause-tagged_encrypt0
returns-clause-tagged_encrypt0 c = tagged_as_written 16 encrypt0 _ (encrypt0_as_written c.kept_as_written.ensures)
