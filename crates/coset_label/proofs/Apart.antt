-- Labels with different numbers differ.
use Rattle.std.proofs.Common.{◌≡◌, ℤ, pos, false, sym, ◌∙◌, ap}
use Rattle.std.proofs.lemmas.Bool.{true≢false}
use Rattle.std.specs.Cmp.{signed_Decides}
use Rattle.std.specs.Ordering.{int_eq}
use Rattle.coset_codec.specs.MapLaws.{not_same}
use Rattle.coset_label.specs.Labels.{cose_labels}
use Rattle.coset_label.specs.LabelLaws.{cose_labels_laws}
use Rattle.coset_label.specs.LabelData.{LabelView, number, text_label, same_label}

abbrev number_in : LabelView → ℤ
number_in (number i) = i
number_in (text_label s) = pos 0

pub numbers_apart : (i j : ℤ) → int_eq i j ≡ false → same_label (number i) (number j) ≡ false
numbers_apart i j h =
    not_same cose_labels cose_labels_laws (number i) (number j) (λ same. true≢false (sym ((signed_Decides i j).1 (ap number_in same)) ∙ h))
