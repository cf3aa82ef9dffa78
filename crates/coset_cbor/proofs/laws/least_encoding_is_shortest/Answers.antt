use Rattle.coset_cbor.proofs.Shortest.{least_is_shortest}
use Rattle.coset_cbor.proofs.laws.least_encoding_is_shortest.Goals as goal

pub returns : goal.returns
returns c = least_is_shortest
