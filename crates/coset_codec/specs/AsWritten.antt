-- Properties of a value that was read, and of a value read from the image of another.
use Rattle.std.specs.Prelude.{◌≡◌, Some}
use Rattle.coset_value.specs.Item.{Item, Items}
use Rattle.coset_codec.specs.Shape.{Shape, Elements}

-- R holds of a value and of each value read from its image, however the image was encoded.
abbrev pub AsWritten : {A : Type 0} → Shape A → (A → A → Type 0) → Type 0
AsWritten {A} s R = (v : Item) (x y : A) → s.image x ≡ Some v → s.describes v y → R x y

-- P holds of each value that is read from an item.
abbrev pub WhenRead : {A : Type 0} → Shape A → (A → Type 0) → Type 0
WhenRead {A} s P = (v : Item) (x : A) → s.describes v x → P x

-- The same as `AsWritten`, for the elements of an array.
abbrev pub ElementsAsWritten : {A : Type 0} → Elements A → (A → A → Type 0) → Type 0
ElementsAsWritten {A} ps R = (vs : Items) (x y : A) → ps.image x ≡ Some vs → ps.describes vs y → R x y

abbrev pub ElementsWhenRead : {A : Type 0} → Elements A → (A → Type 0) → Type 0
ElementsWhenRead {A} ps P = (vs : Items) (x : A) → ps.describes vs x → P x
