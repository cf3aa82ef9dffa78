use Rattle.coset_cbor.proofs.Shortest.{definite_in_range}
use Rattle.coset_cbor.proofs.laws.shortest_is_in_range.Goals as goal

pub returns : goal.returns
returns c = λ v b is. definite_in_range v b is.definite
