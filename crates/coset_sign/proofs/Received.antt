-- The protected header of a message that was read is represented by the bytes that it was decoded from.
use Rattle.coset_value.specs.Item.{Item}
use Rattle.coset_core.proofs.Received.{message_received}
use Rattle.coset_core.specs.Kept.{KeepsFirst}
use Rattle.coset_sign.specs.Sign.{SignView, sign, sign_elements, sign_fields}
use Rattle.coset_sign.specs.Sign1.{Sign1View, sign1, sign1_elements, sign1_fields}

pub sign1_received : (v : Item) (m : Sign1View) → sign1.describes v m → KeepsFirst v m.protected
sign1_received v m = message_received sign1_elements v (sign1_fields m)

pub sign_received : (v : Item) (m : SignView) → sign.describes v m → KeepsFirst v m.protected
sign_received v m = message_received sign_elements v (sign_fields m)
