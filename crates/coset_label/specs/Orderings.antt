-- The orders of labels and of encodings that a `CborOrdering` names.
use Rattle.std.specs.Prelude.{ℕ, List}
use Rattle.std.specs.declared.cmp.Ordering.{Ordering}
use Rattle.std.specs.Ordering.{nat_cmp}
use Rattle.std.specs.Cmp.Lexicographic.{slice_cmp}
use Rattle.coset_label.specs.LabelData.{LabelView, label_cmp, canonical_cmp, length_first_cmp}
use Rattle.coset_label.specs.declared.ordering.CborOrdering.{CborOrdering}
use Rattle.coset_label.specs.declared.ordering.CborOrdering.TheVariants.{Lexicographic, LengthFirstLexicographic}

-- The order of labels that a `CborOrdering` names.
abbrev pub label_cmp_by : CborOrdering → LabelView → LabelView → Ordering
label_cmp_by Lexicographic = label_cmp
label_cmp_by LengthFirstLexicographic = canonical_cmp

-- The order of encodings that a `CborOrdering` names.
abbrev pub encoding_cmp_by : CborOrdering → List ℕ → List ℕ → Ordering
encoding_cmp_by Lexicographic = slice_cmp nat_cmp
encoding_cmp_by LengthFirstLexicographic = length_first_cmp
