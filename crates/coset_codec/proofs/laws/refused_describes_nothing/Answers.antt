use Rattle.coset_codec.proofs.Refusals.{refuses_item}
use Rattle.coset_codec.proofs.laws.refused_describes_nothing.Goals as goal

pub returns : goal.returns
returns g c = λ v r. refuses_item g.T.AsCborValue.shape g.met.T.AsCborValue.sound g.T.AsCborValue.view v r
