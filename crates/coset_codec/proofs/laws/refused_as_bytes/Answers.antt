use Rattle.coset_codec.specs.PerhapsTagged.{perhaps_tagged}
use Rattle.coset_codec.specs.Shape.{tagged}
use Rattle.coset_codec.proofs.Refusals.{names_whole_fault}
use Rattle.coset_codec.proofs.laws.refused_as_bytes.Goals as goal

pub returns-clause-plain : goal.returns-clause-plain
returns-clause-plain g c = λ s. names_whole_fault g.T.AsCborValue.shape g.T.AsCborValue.view s c.one_item.ensures c.no_item_at_a_fault.ensures

pub returns-clause-tagged : goal.returns-clause-tagged
returns-clause-tagged g c = λ n s.
    names_whole_fault (tagged n g.T.AsCborValue.shape) g.T.AsCborValue.view s c.one_item.ensures c.no_item_at_a_fault.ensures

pub returns-clause-either : goal.returns-clause-either
returns-clause-either g c = λ n s.
    names_whole_fault (perhaps_tagged n g.T.AsCborValue.shape) g.T.AsCborValue.view s c.one_item.ensures c.no_item_at_a_fault.ensures
