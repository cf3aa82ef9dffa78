use Rattle.coset_cbor.proofs.Shortest.{definite_is_encoding}
use Rattle.coset_cbor.proofs.laws.shortest_is_encoding.Goals as goal

pub returns : goal.returns
returns c = λ v b is. definite_is_encoding v b is.definite
