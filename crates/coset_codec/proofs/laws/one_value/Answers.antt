use Rattle.coset_codec.specs.PerhapsTagged.{perhaps_tagged, untagged}
use Rattle.coset_codec.specs.Shape.{tagged}
use Rattle.coset_codec.proofs.Described.{tagged_unique, one_described}
use Rattle.coset_codec.proofs.laws.one_value.Goals as goal

pub returns-clause-plain : goal.returns-clause-plain
returns-clause-plain g c = one_described g.T.AsCborValue.shape c.one_item.ensures g.met.T.AsCborValue.unique

pub returns-clause-tagged : goal.returns-clause-tagged
returns-clause-tagged g c = λ n.
    one_described (tagged n g.T.AsCborValue.shape) c.one_item.ensures (tagged_unique n g.T.AsCborValue.shape g.met.T.AsCborValue.unique)

pub returns-clause-either : goal.returns-clause-either
returns-clause-either g c = λ n.
    one_described (perhaps_tagged n g.T.AsCborValue.shape) c.one_item.ensures (λ v. g.met.T.AsCborValue.unique (untagged n v))
