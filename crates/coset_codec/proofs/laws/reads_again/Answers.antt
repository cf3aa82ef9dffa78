use Rattle.coset_codec.specs.Shape.{tagged}
use Rattle.coset_codec.specs.ShapeLaws.{tagged_laws}
use Rattle.coset_codec.specs.ReadAgain as again
use Rattle.coset_codec.proofs.Apart.{reads_again_untagged}
use Rattle.coset_codec.proofs.laws.reads_again.Goals as goal

pub returns-clause-plain : goal.returns-clause-plain
returns-clause-plain g c = again.reads_again g.T.AsCborValue.shape g.met.T.Lawful.laws

pub returns-clause-tagged : goal.returns-clause-tagged
returns-clause-tagged g c = λ n. again.reads_again (tagged n g.T.AsCborValue.shape) (tagged_laws n g.T.AsCborValue.shape g.met.T.Lawful.laws)

pub returns-clause-untagged : goal.returns-clause-untagged
returns-clause-untagged g c = reads_again_untagged g.T.AsCborValue.shape g.met.T.Lawful.laws

pub returns-clause-items : goal.returns-clause-items
returns-clause-items g c = λ v x p. again.again_reads g.T.AsCborValue.shape v x (g.met.T.Lawful.laws.again v x p)
