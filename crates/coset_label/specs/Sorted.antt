-- Lists of pairs, sorted by label. Among all lists with the same pairs and distinct labels, only one is sorted.
use Rattle.std.specs.Prelude.{◌≡◌, List}
use Rattle.std.specs.List.{IsDistinct}
use Rattle.std.specs.List.Sorted.{IsPermutation, IsSortedByKey}
use Rattle.std.specs.Map.{keys_of}
use Rattle.std.specs.Ordering.{eq_by_cmp}
use Rattle.std.specs.declared.cmp.Ordering.{Ordering}
use Rattle.coset_value.specs.Item.{Item}

-- No label comes before a smaller one.
abbrev pub AreInOrder : {N : Type 0} → (N → N → Ordering) → List (N × Item) → Type 0
AreInOrder cmp es = IsSortedByKey (λ e. e.0) cmp es

-- Two lists with the same pairs are equal if neither repeats a label and both are sorted.
abbrev pub HasOneOrder : {N : Type 0} → (N → N → Ordering) → Type 0
HasOneOrder {N} cmp = (xs ys : List (N × Item)) → IsDistinct (eq_by_cmp cmp) (keys_of xs) → IsPermutation xs ys → AreInOrder cmp xs → AreInOrder cmp ys
    → xs ≡ ys
