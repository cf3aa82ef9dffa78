-- Lists read and written element by element.
use Rattle.std.specs.Prelude.{◌≡◌, ◌++◌, ◌⊎◌, ⊤, codes, List, [], ◌∷◌, map, Option, Some, None, Result, Ok, Err, Vec}
use Rattle.std.specs.Global.{Global}
use Rattle.coset_value.specs.Item.{Item, Items}
use Rattle.coset_value.specs.Parts.{as_array}
use Rattle.coset_value.specs.View.{value_items}
use Rattle.coset_value.specs.declared.value.Value.{Value}
use Rattle.coset_codec.specs.Errors.{IsUnexpected, UnlessMemory}
use Rattle.coset_codec.specs.Kinds.{kind, Says}
use Rattle.coset_codec.specs.declared.error.CoseError.{CoseError}
use Rattle.coset_codec.specs.declared.error.CoseError.TheVariants.{OutOfMemory}
use Rattle.coset_codec.specs.declared.error.CallError.{CallError}
use Rattle.coset_codec.specs.declared.error.CallError.TheVariants.{Coset, Caller}
use Rattle.coset_codec.specs.Shape.{Shape, Each, EachFaults, images}

-- Some elements of a list were read as so_far, and the elements left are still to be read. The values of the elements
-- left complete the list, and a fault in one of these elements is a fault in the list.
pub record Continues (A : Type 0) (r : Item → A → Type 0) (f : Item → CoseError → Type 0) (all : Items) (so_far : List A) (left : Items) : Type 0 where
  pub ends : (zs : List A) → Each r left zs → Each r all (so_far ++ zs)
  pub blames : (e : CoseError) → EachFaults f left e → EachFaults f all e

-- Reading items one after the other gives the values that they represent. Otherwise the error names a fault in one of
-- them, or is `OutOfMemory`.
abbrev pub ReadsEach : {T A : Type 0} → Shape A → (T → A) → Items → Result (Vec T Global) CoseError → Type 0
ReadsEach s view vs (Ok all) = Each s.describes vs (map view all.items)
ReadsEach s view vs (Err e) = UnlessMemory e (EachFaults s.faults vs)

-- The last value has no image, and each value before it has one.
pub record LastHasNoImage (A : Type 0) (image : A → Option Item) (xs : List A) : Type 0 where
  pub before : List A
  pub last : A
  pub parts : xs ≡ before ++ last ∷ []
  pub written : Items
  pub images_before : images image before ≡ Some written
  pub no_image : image last ≡ None

-- The two lists are equally long, and R relates each element to its counterpart.
abbrev pub EachWith : {A B : Type 0} → (A → B → Type 0) → List A → List B → Type 0
EachWith R [] [] = ⊤
EachWith R (x ∷ xs) (y ∷ ys) = R x y × EachWith R xs ys
EachWith R xs ys = ⊥

-- P holds of each element.
abbrev pub EachHas : {A : Type 0} → (A → Type 0) → List A → Type 0
EachHas P [] = ⊤
EachHas P (x ∷ xs) = P x × EachHas P xs

-- One of the values is refused, and the values before it are not.
abbrev pub FirstRefused : {A B : Type 0} → (A → B → Type 0) → (A → Type 0) → List A → Type 0
FirstRefused {A} {B} R P xs = (before : List A) × (made : List B) × (x : A) × (after : List A) × (xs ≡ before ++ x ∷ after) × EachWith R before made × P x

-- An allocation failed. Or one of the values is refused with this error, and the values before it are not.
abbrev pub RefusesElement : {A B E : Type 0} → (A → B → Type 0) → (A → E → Type 0) → List A → CallError E → Type 0
RefusesElement R P xs (Coset e) = e ≡ OutOfMemory
RefusesElement R P xs (Caller e) = FirstRefused R (λ x. P x e) xs

abbrev pub NoArray : {E : Type 0} → Item → CallError E → Type 0
NoArray v (Coset e) = (as_array v ≡ None) × IsUnexpected e × Says (kind v) (codes "array") e
NoArray v (Caller e) = ⊥

-- The item is no array, or one of its elements is refused with this error. The elements are given as values that
-- represent them.
abbrev pub RefusesArray : {B E : Type 0} → (Value → B → Type 0) → (Value → E → Type 0) → Item → CallError E → Type 0
RefusesArray R P v e = NoArray v e ⊎ ((vs : List Value) × (as_array v ≡ Some (value_items vs)) × RefusesElement R P vs e)
