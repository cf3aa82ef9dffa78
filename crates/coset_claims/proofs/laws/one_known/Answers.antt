use Rattle.coset_codec.proofs.Described.{one_described}
use Rattle.coset_claims.specs.Known.{known}
use Rattle.coset_claims.proofs.ClaimSplitting.{known_unique}
use Rattle.coset_claims.proofs.laws.one_known.Goals as goal

pub returns : goal.returns
returns c = one_described known c.one_item.ensures known_unique
