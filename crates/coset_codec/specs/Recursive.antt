-- Types that contain others of their own type, as recipients contain recipients. The shape of a value is built from
-- that of the values inside it, by the step. A type that contains itself through other types uses `fixed`, as headers
-- do through signatures.
use Rattle.std.specs.Prelude.{ℕ, zero, suc, Option}
use Rattle.coset_value.specs.Item.{Item}
use Rattle.coset_codec.specs.Shape.{Shape}

-- No item represents a value, and no item has a fault.
abbrev pub never_there : {A : Type 0} → (A → Option Item) → Shape A
never_there image = record { describes = λ v x. ⊥; image = image; faults = λ v e. ⊥ }

-- At most n values, one inside another.
abbrev pub nested : {A : Type 0} → (Shape A → Shape A) → (A → Option Item) → ℕ → Shape A
nested step image zero = never_there image
nested step image (suc n) = step (nested step image n)

-- Any number of values, one inside another. `image` gives the item that a value is written as, by recursion on the
-- value.
abbrev pub recursive : {A : Type 0} → (Shape A → Shape A) → (A → Option Item) → Shape A
recursive step image = record {
  describes = λ v x. (n : ℕ) × (nested step image n).describes v x;
  image = image;
  faults = λ v e. (n : ℕ) × (nested step image n).faults v e;
}
