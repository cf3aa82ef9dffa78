use Rattle.coset_cbor.proofs.Whole.{item_alone}
use Rattle.coset_cbor.proofs.laws.borrowed_item.Goals as goal

pub returns : goal.returns
returns c = λ p. item_alone p.bytes.now p.checked
