-- Arrays that are read as sets, such as key_ops (RFC 8152, section 7.1). The order of the elements has no meaning, and
-- no element may occur twice (RFC 7517, section 4.3).
use Rattle.std.specs.Prelude.{◌≡◌, ◌⊎◌, ◌↔◌, List, Some, Contains}
use Rattle.std.specs.List.{IsDistinct}
use Rattle.std.specs.List.Sorted.{IsStrictlySortedBy}
use Rattle.std.specs.Ordering.{eq_by_cmp}
use Rattle.std.specs.declared.cmp.Ordering.{Ordering}
use Rattle.coset_value.specs.Item.{Item, Items, no_items, item}
use Rattle.coset_value.specs.Parts.{as_array}
use Rattle.coset_codec.specs.Errors.{IsUnexpected}
use Rattle.coset_codec.specs.Shape.{Shape, some_of, up_to}

-- ys are the elements of xs in the order of cmp, each once. These are the keys of a `BTreeSet` of the elements.
pub record IsSetOf {A : Type 0} (cmp : A → A → Ordering) (xs ys : List A) : Type 0 where
  pub sorted : IsStrictlySortedBy cmp ys
  pub elements : (x : A) → Contains ys x ↔ Contains xs x

-- No two elements are the same in the order of cmp.
abbrev pub IsDistinctBy : {A : Type 0} → (A → A → Ordering) → List A → Type 0
IsDistinctBy cmp xs = IsDistinct (eq_by_cmp cmp) xs

-- One of the items represents x.
abbrev pub HasElement : {A : Type 0} → (Item → A → Type 0) → A → Items → Type 0
HasElement r x no_items = ⊥
HasElement r x (item v vs) = r v x ⊎ HasElement r x vs

-- Two of the items represent the same value, whatever the other items are.
abbrev pub Repeats : {A : Type 0} → (Item → A → Type 0) → Items → Type 0
Repeats r no_items = ⊥
Repeats {A} r (item v vs) = ((x : A) × r v x × HasElement r x vs) ⊎ Repeats r vs

-- [+ s], with no two elements the same
abbrev pub distinct_of : {A : Type 0} → (A → A → Ordering) → Shape A → Shape (List A)
distinct_of cmp s = record {
  describes = λ v xs. (some_of s).describes v xs × IsDistinctBy cmp xs;
  image = (some_of s).image;
  faults = λ v e. (some_of s).faults v e ⊎ (IsUnexpected e × ((vs : Items) × (as_array v ≡ Some vs) × Repeats s.describes vs));
}

-- [+ s], with no two elements the same, seen and written as the set of the elements, in the order of cmp
abbrev pub set_of : {A : Type 0} → (A → A → Ordering) → Shape A → Shape (List A)
set_of cmp s = up_to (IsSetOf cmp) (distinct_of cmp s)
