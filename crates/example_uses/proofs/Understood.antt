-- Critical labels. If all of them are known, it is enough to look for the known ones.
use Rattle.std.proofs.Common.{◌≡◌, ◌&&◌, List, ap, not}
use Rattle.std.specs.List.{list_all, list_any}
use Rattle.coset_label.specs.LabelData as label
use Rattle.coset_label.specs.LabelData.{RegisteredLabelView}
use Rattle.coset_claims.specs.Claims.{same_label}
use Rattle.coset_core.specs.Headers.{HeaderView, fields_in}
use Rattle.cwt_verify.proofs.Critical.{all-there, same-number}
use Rattle.example_uses.specs.HeaderParts.{has_parameter, is_met, is_missing, is_one_of}

-- Each critical label is one of these and a parameter exactly if each is one of these, and none of these is missing.
pub met : (labels : List RegisteredLabelView) (h : HeaderView)
    → list_all (is_met labels h) (fields_in h).crit ≡ list_all (is_one_of labels) (fields_in h).crit && not (list_any (is_missing h) labels)
met labels h =
    all-there same_label (has_parameter h) (λ m x e. ap (λ l. list_any (λ p. label.same_label p.0 l) (fields_in h).rest) (same-number m x e))
    (is_one_of labels) labels (λ x e. e) (fields_in h).crit
