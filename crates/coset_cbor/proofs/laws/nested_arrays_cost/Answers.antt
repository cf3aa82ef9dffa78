use Rattle.coset_cbor.proofs.Costs.{nested_costs, nested_item}
use Rattle.coset_cbor.proofs.laws.nested_arrays_cost.Goals as goal

pub returns-clause-cost : goal.returns-clause-cost
returns-clause-cost c = nested_costs

pub returns-clause-item : goal.returns-clause-item
returns-clause-item c = nested_item
