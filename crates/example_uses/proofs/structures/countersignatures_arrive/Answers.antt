use Rattle.coset_codec.specs.Shape.{tagged}
use Rattle.coset_sign.specs.Sign.{sign}
use Rattle.coset_sign.specs.Sign1.{sign1}
use Rattle.coset_msg.specs.Encrypt0.{encrypt0}
use Rattle.coset_msg.specs.Mac0.{mac0}
use Rattle.coset_recipient.specs.Encrypt.{encrypt}
use Rattle.coset_recipient.specs.Mac.{mac}
use Rattle.example_uses.proofs.Spellings.{arrives}
use Rattle.example_uses.proofs.structures.countersignatures_arrive.Goals as goal

pub returns-clause-sign1 : goal.returns-clause-sign1
returns-clause-sign1 c = (
  arrives sign1 _ c.one_item.ensures c.shortest_is_encoding.ensures c.countersigned_as_written.ensures.sign1,
  arrives (tagged 18 sign1) _ c.one_item.ensures c.shortest_is_encoding.ensures c.countersigned_as_written.ensures.tagged_sign1,
)

pub returns-clause-sign : goal.returns-clause-sign
returns-clause-sign c = (
  arrives sign _ c.one_item.ensures c.shortest_is_encoding.ensures c.countersigned_as_written.ensures.sign,
  arrives (tagged 98 sign) _ c.one_item.ensures c.shortest_is_encoding.ensures c.countersigned_as_written.ensures.tagged_sign,
)

pub returns-clause-mac0 : goal.returns-clause-mac0
returns-clause-mac0 c = (
  arrives mac0 _ c.one_item.ensures c.shortest_is_encoding.ensures c.all_countersigned_as_written.ensures.mac0,
  arrives (tagged 17 mac0) _ c.one_item.ensures c.shortest_is_encoding.ensures c.all_countersigned_as_written.ensures.tagged_mac0,
)

pub returns-clause-mac : goal.returns-clause-mac
returns-clause-mac c = (
  arrives mac _ c.one_item.ensures c.shortest_is_encoding.ensures c.all_countersigned_as_written.ensures.mac,
  arrives (tagged 97 mac) _ c.one_item.ensures c.shortest_is_encoding.ensures c.all_countersigned_as_written.ensures.tagged_mac,
)

pub returns-clause-encrypt0 : goal.returns-clause-encrypt0
returns-clause-encrypt0 c = (
  arrives encrypt0 _ c.one_item.ensures c.shortest_is_encoding.ensures c.all_countersigned_as_written.ensures.encrypt0,
  arrives (tagged 16 encrypt0) _ c.one_item.ensures c.shortest_is_encoding.ensures c.all_countersigned_as_written.ensures.tagged_encrypt0,
)

pub returns-clause-encrypt : goal.returns-clause-encrypt
returns-clause-encrypt c = (
  arrives encrypt _ c.one_item.ensures c.shortest_is_encoding.ensures c.all_countersigned_as_written.ensures.encrypt,
  arrives (tagged 96 encrypt) _ c.one_item.ensures c.shortest_is_encoding.ensures c.all_countersigned_as_written.ensures.tagged_encrypt,
)
