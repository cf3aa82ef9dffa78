-- The view of borrowed labels.
use Rattle.coset_label.specs.LabelData.{LabelView, number, text_label}
use Rattle.coset_label.specs.declared.label_ref.LabelRef.{LabelRef}
use Rattle.coset_label.specs.declared.label_ref.LabelRef.TheVariants.{Int, Text}

abbrev pub label_ref_view : LabelRef → LabelView
label_ref_view (Int i) = number i
label_ref_view (Text s) = text_label s.now
