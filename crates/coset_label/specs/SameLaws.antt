-- The tests of `Same` return `true` exactly when their arguments are equal, and `==` is equality of views.
use Rattle.std.specs.Ordering.{on}
use Rattle.std.proofs.Common.{ap}
use Rattle.std.proofs.lemmas.Bool.Decides.{Decides-like, Decides-and}
use Rattle.coset_value.specs.Same.{item_eq}
use Rattle.coset_value.specs.SameLaws.{item_eq-decides}
use Rattle.coset_codec.specs.EqDecides.{EqDecides}
use Rattle.coset_label.specs.LabelData.{same_label}
use Rattle.coset_label.specs.NameOrder.{label_cmp-apart, registered_cmp-apart}
use Rattle.coset_label.specs.Same.{IsEquality, algorithm_eq, entry_eq}
use Rattle.coset_label.specs.Views.{algorithm_view, entry_view}

pub algorithm_eq-decides : IsEquality algorithm_eq
algorithm_eq-decides = registered_cmp-apart

pub same_label-decides : IsEquality same_label
same_label-decides = label_cmp-apart

pub entry_eq-decides : IsEquality entry_eq
entry_eq-decides e f =
    Decides-like (entry_eq e f) (λ p i. (p.0 i, p.1 i)) (λ p. (ap (λ x. x.0) p, ap (λ x. x.1) p))
    (Decides-and (same_label e.0 f.0) (item_eq e.1 f.1) (same_label-decides e.0 f.0) (item_eq-decides e.1 f.1))

pub algorithm_decides : EqDecides algorithm_view (on algorithm_view algorithm_eq)
algorithm_decides x y = algorithm_eq-decides (algorithm_view x) (algorithm_view y)

-- The test of map entries (a label and its value) is equality of their views.
pub entry_decides : EqDecides entry_view (on entry_view entry_eq)
entry_decides x y = entry_eq-decides (entry_view x) (entry_view y)
