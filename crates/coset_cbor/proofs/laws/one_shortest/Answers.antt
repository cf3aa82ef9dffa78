use Rattle.coset_cbor.specs.Least.{least_encoding}
use Rattle.coset_cbor.proofs.Shortest.{least_is_shortest, only_least_encoding}
use Rattle.coset_cbor.proofs.laws.one_shortest.Goals as goal

pub returns : goal.returns
returns c = λ v h. (least_encoding v, least_is_shortest v h, λ b is. only_least_encoding v h b is)
