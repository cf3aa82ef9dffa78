use Rattle.coset_label.specs.NameOrder.{label_cmp_total, canonical_cmp_total, registered_cmp_total}
use Rattle.coset_label.proofs.laws.orders_are_total.Goals as goal

pub returns : goal.returns
returns c = record { bytes = label_cmp_total; lengths = canonical_cmp_total; registered = registered_cmp_total }
