use Rattle.coset_codec.proofs.AsWritten.{tagged_when_read}
use Rattle.coset_msg.specs.Encrypt0.{encrypt0}
use Rattle.coset_msg.specs.Mac0.{mac0}
use Rattle.coset_msg.proofs.Written.{encrypt0_when_read, mac0_when_read}
use Rattle.coset_msg.proofs.laws.structure_when_read.Goals as goal

pub returns-clause-mac0 : goal.returns-clause-mac0
returns-clause-mac0 c = mac0_when_read

pub returns-clause-tagged_mac0 : goal.returns-clause-tagged_mac0
returns-clause-tagged_mac0 c = tagged_when_read 17 mac0 _ mac0_when_read

pub returns-clause-encrypt0 : goal.returns-clause-encrypt0
returns-clause-encrypt0 c = encrypt0_when_read

pub returns-clause-tagged_encrypt0 : goal.returns-clause-tagged_encrypt0
returns-clause-tagged_encrypt0 c = tagged_when_read 16 encrypt0 _ encrypt0_when_read
