use Rattle.coset_codec.specs.Shape.{tagged}
use Rattle.coset_codec.specs.ShapeLaws.{tagged_laws}
use Rattle.coset_codec.proofs.Apart.{images_apart, encodes_apart}
use Rattle.coset_codec.proofs.laws.encoding_is_injective.Goals as goal

pub returns-clause-plain : goal.returns-clause-plain
returns-clause-plain g c = encodes_apart g.T.AsCborValue.shape g.met.T.Lawful.laws c.one_item.ensures c.shortest_is_in_range.ensures
    c.least_heads_are_shortest.ensures

pub returns-clause-tagged : goal.returns-clause-tagged
returns-clause-tagged g c = λ n.
    let shape = tagged n g.T.AsCborValue.shape in
    encodes_apart shape (tagged_laws n g.T.AsCborValue.shape g.met.T.Lawful.laws) c.one_item.ensures c.shortest_is_in_range.ensures
    c.least_heads_are_shortest.ensures

pub returns-clause-items : goal.returns-clause-items
returns-clause-items g c = images_apart g.T.AsCborValue.shape g.met.T.Lawful.laws
