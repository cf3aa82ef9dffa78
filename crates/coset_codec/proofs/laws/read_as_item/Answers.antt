use Rattle.coset_codec.specs.PerhapsTagged.{perhaps_tagged}
use Rattle.coset_codec.specs.Shape.{tagged}
use Rattle.coset_codec.proofs.Refusals.{names_unexpected, reads_item}
use Rattle.coset_codec.proofs.laws.read_as_item.Goals as goal

pub returns-clause-plain : goal.returns-clause-plain
returns-clause-plain g c = λ s. reads_item g.T.AsCborValue.shape g.T.AsCborValue.view s c.one_item.ensures c.no_item_at_a_fault.ensures

pub returns-clause-tagged : goal.returns-clause-tagged
returns-clause-tagged g c = λ n s. reads_item (tagged n g.T.AsCborValue.shape) g.T.AsCborValue.view s c.one_item.ensures c.no_item_at_a_fault.ensures

pub returns-clause-either : goal.returns-clause-either
returns-clause-either g c = λ n s. reads_item (perhaps_tagged n g.T.AsCborValue.shape) g.T.AsCborValue.view s c.one_item.ensures c.no_item_at_a_fault.ensures

pub returns-clause-untagged : goal.returns-clause-untagged
returns-clause-untagged g c = λ n s v r bytes is none read.
    let shape = g.T.AsCborValue.shape in
    let view = g.T.AsCborValue.view in
    names_unexpected n shape view v r none (reads_item (tagged n shape) view s c.one_item.ensures c.no_item_at_a_fault.ensures v r bytes is read)
