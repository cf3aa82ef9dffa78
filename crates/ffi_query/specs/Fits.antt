-- Items that are found to be messages.
use Rattle.std.specs.Prelude.{◌≡◌, Some, Bool, IsTrue}
use Rattle.coset.specs.Elements.{items_left}
use Rattle.coset.specs.Headers.{header, protected}
use Rattle.coset.specs.Item.{Item, Items, item}
use Rattle.coset.specs.Parts.{as_array}
use Rattle.coset.specs.Pulls.{pull_item}
use Rattle.coset.specs.Shape.{Elements, Shape, bstr, or_nil}
use Rattle.ffi_query.specs.declared.fits.Three.{Three}
use Rattle.ffi_query.specs.declared.kind.Form as forms
use Rattle.ffi_query.specs.declared.kind.Kind as kinds
use Rattle.ffi_query.specs.Kinds.{HoldsOf}
use Rattle.ffi_query.specs.Seen.{IsAllowed}

-- If the bool is true, the item describes a value of the shape.
abbrev pub Fits : {A : Type 0} → Shape A → Item → Bool → Type 0
Fits {A} s v b = IsTrue b → (x : A) × s.describes v x

-- If the bool is true, the elements of an array describe a value.
abbrev pub FitsElements : {A : Type 0} → Elements A → Items → Bool → Type 0
FitsElements {A} ps vs b = IsTrue b → (x : A) × ps.describes vs x

-- The array v begins with the three elements, and the others follow.
abbrev pub IsThree : Item → Three → Type 0
IsThree v t = as_array v ≡ Some (item (pull_item t.protected) (item (pull_item t.unprotected) (item (pull_item t.content) (items_left t.behind))))

-- If the bool is true, the three elements are a protected header, an unprotected header, and a content (RFC 8152,
-- section 3).
abbrev pub FitsThree : Three → Bool → Type 0
FitsThree t b = Fits protected (pull_item t.protected) b × Fits header (pull_item t.unprotected) b × Fits (or_nil bstr) (pull_item t.content) b

-- If the last bool is true, the form allows a message that is or isn't under its tag, and the item describes a value of
-- the shape.
abbrev pub FitsForm : {A : Type 0} → forms.Form → Bool → Shape A → Item → Bool → Type 0
FitsForm {A} f t s v b = IsTrue b → IsAllowed f t × ((x : A) × s.describes v x)

-- The item is of kind k.
abbrev pub FitsKind : kinds.Kind → Item → Type 0
FitsKind k v = HoldsOf k (λ A s. (x : A) × s.describes v x)
