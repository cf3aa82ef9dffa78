-- The protected header of a message that was read is represented by the bytes that it was decoded from.
use Rattle.coset_value.specs.Item.{Item}
use Rattle.coset_core.proofs.Received.{message_received}
use Rattle.coset_core.specs.Kept.{KeepsFirst}
use Rattle.coset_msg.specs.Encrypt0.{Encrypt0View, encrypt0, encrypt0_elements, encrypt0_fields}
use Rattle.coset_msg.specs.Mac0.{Mac0View, mac0, mac0_elements, mac0_fields}

pub mac0_received : (v : Item) (m : Mac0View) → mac0.describes v m → KeepsFirst v m.protected
mac0_received v m = message_received mac0_elements v (mac0_fields m)

pub encrypt0_received : (v : Item) (m : Encrypt0View) → encrypt0.describes v m → KeepsFirst v m.protected
encrypt0_received v m = message_received encrypt0_elements v (encrypt0_fields m)
