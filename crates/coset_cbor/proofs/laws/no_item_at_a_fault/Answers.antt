use Rattle.coset_cbor.proofs.Stood.{no_item_stood}
use Rattle.coset_cbor.proofs.laws.no_item_at_a_fault.Goals as goal

pub returns : goal.returns
returns c = no_item_stood
