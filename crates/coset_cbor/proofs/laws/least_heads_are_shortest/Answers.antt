use Rattle.coset_cbor.proofs.Shortest.{only_least_encoding}
use Rattle.coset_cbor.proofs.laws.least_heads_are_shortest.Goals as goal

pub returns : goal.returns
returns c = λ v b h is. only_least_encoding v h b is
