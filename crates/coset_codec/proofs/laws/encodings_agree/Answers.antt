use Rattle.coset_codec.specs.Shape.{tagged}
use Rattle.coset_codec.proofs.Described.{stands_for}
use Rattle.coset_codec.proofs.laws.encodings_agree.Goals as goal

pub returns-clause-plain : goal.returns-clause-plain
returns-clause-plain g c = λ s t v x a b p. (v, b, stands_for g.T.AsCborValue.shape c.one_item.ensures s v x a p)

pub returns-clause-tagged : goal.returns-clause-tagged
returns-clause-tagged g c = λ n s t v x a b p. (v, b, stands_for (tagged n g.T.AsCborValue.shape) c.one_item.ensures s v x a p)
