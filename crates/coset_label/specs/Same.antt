-- Equality of algorithms and of map entries, as functions that return a `Bool`.
use Rattle.std.specs.Prelude.{◌≡◌, Bool, ◌&&◌}
use Rattle.std.specs.Bool.{Decides}
use Rattle.std.specs.Ordering.{is_eq}
use Rattle.coset_value.specs.Item.{Item}
use Rattle.coset_value.specs.Same.{item_eq}
use Rattle.coset_label.specs.LabelData.{LabelView, RegisteredLabelView, registered_cmp, same_label}

-- The test returns true exactly when its two arguments are equal.
abbrev pub IsEquality : {A : Type 0} → (A → A → Bool) → Type 0
IsEquality {A} test = (x y : A) → Decides (test x y) (x ≡ y)

-- Returns true if the algorithms are equal.
abbrev pub algorithm_eq : RegisteredLabelView → RegisteredLabelView → Bool
algorithm_eq a b = is_eq (registered_cmp a b)

-- Returns true if the labels are equal and the items are equal.
abbrev pub entry_eq : LabelView × Item → LabelView × Item → Bool
entry_eq e f = same_label e.0 f.0 && item_eq e.1 f.1
