use Rattle.coset_label.specs.NameOrder.{label_cmp-apart, canonical_cmp-apart, registered_cmp-apart}
use Rattle.coset_label.proofs.laws.orders_match_equality.Goals as goal

pub returns : goal.returns
returns c = record { bytes = label_cmp-apart; lengths = canonical_cmp-apart; registered = registered_cmp-apart }
