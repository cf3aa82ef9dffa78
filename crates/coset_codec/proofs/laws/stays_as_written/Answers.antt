use Rattle.coset_codec.specs.Shape.{tagged}
use Rattle.coset_codec.specs.ShapeLaws.{tagged_laws}
use Rattle.coset_codec.proofs.Apart.{stays_as_written}
use Rattle.coset_codec.proofs.laws.stays_as_written.Goals as goal

pub returns-clause-plain : goal.returns-clause-plain
returns-clause-plain g c = stays_as_written g.T.AsCborValue.shape g.met.T.Lawful.laws c.one_item.ensures c.encoding_is_injective.ensures.plain

pub returns-clause-tagged : goal.returns-clause-tagged
returns-clause-tagged g c = λ n.
    let shape = tagged n g.T.AsCborValue.shape in
    stays_as_written shape (tagged_laws n g.T.AsCborValue.shape g.met.T.Lawful.laws) c.one_item.ensures (c.encoding_is_injective.ensures.tagged n)
