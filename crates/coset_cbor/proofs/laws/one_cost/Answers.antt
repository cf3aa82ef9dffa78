use Rattle.coset_cbor.proofs.Costs.{has_cost, one_cost_lem}
use Rattle.coset_cbor.proofs.laws.one_cost.Goals as goal

pub returns : goal.returns
returns c = λ v b is. let k = has_cost v b is in (k.0, k.1, λ j h. one_cost_lem v b j k.0 h k.1)
