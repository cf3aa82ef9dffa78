use Rattle.coset_label.specs.NameOrder.{label_cmp_total, canonical_cmp_total, registered_cmp_total}
use Rattle.coset_label.specs.SortedLaws.{has_one_order}
use Rattle.coset_label.proofs.laws.one_order.Goals as goal

pub returns : goal.returns
returns c = record { bytes = has_one_order label_cmp_total; lengths = has_one_order canonical_cmp_total; registered = has_one_order registered_cmp_total }
