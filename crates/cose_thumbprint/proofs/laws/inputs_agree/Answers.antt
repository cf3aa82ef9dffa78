use Rattle.cose_thumbprint.proofs.Agreeing.{inputs_agree}
use Rattle.cose_thumbprint.proofs.laws.inputs_agree.Goals as goal

pub returns : goal.returns
returns c = inputs_agree c.one_item.ensures c.one_shortest.ensures c.shortest_is_encoding.ensures c.shortest_is_in_range.ensures
