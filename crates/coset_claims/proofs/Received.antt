-- The protected header of a SuppPubInfo that was read is represented by the bytes that it was decoded from.
use Rattle.std.proofs.Common.{◌≡◌}
use Rattle.coset_value.specs.Item.{Item, Items, no_items, item}
use Rattle.coset_codec.specs.Shape.{◌then◌, uint}
use Rattle.coset_core.proofs.Received.{protected_received}
use Rattle.coset_core.specs.Headers.{protected, protected_bytes}
use Rattle.coset_core.specs.Kept.{KeepsOwn}
use Rattle.coset_claims.specs.SuppPub.{KeepsSecond, SuppPubView, other_place, second_bytes, supp_pub, supp_pub_elements}

second_received :
    (vs : Items) (s : SuppPubView) → (uint then protected then other_place).describes vs (supp_pub_elements s)
    → KeepsOwn s.protected × (second_bytes vs ≡ protected_bytes s.protected)
second_received no_items s d = absurd d
second_received (item v no_items) s d = absurd d.1
second_received (item v (item w vs)) s d = protected_received w s.protected d.1.0

pub supp_pub_received : (v : Item) (s : SuppPubView) → supp_pub.describes v s → KeepsSecond v s.protected
supp_pub_received v s d = let second = second_received d.0 s d.2 in (second.0, (d.0, d.1, second.1))
