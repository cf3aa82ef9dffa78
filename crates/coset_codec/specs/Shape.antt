-- Which CBOR items represent which values of a type. The shape of a type is built from those of its parts, as in CDDL
-- (RFC 8610). The CDDL of each shape is in its comment. Contracts see a value without its memory: a `String` as its
-- UTF-8 bytes, a struct as a record.
use Rattle.std.specs.Prelude.{◌≡◌, ◌≢◌, ◌⊎◌, ℕ, ℤ, pos, ◌≤ℤ◌, List, [], ◌∷◌, Option, Some, None, Bool, true, false, option_map, FitsSigned, ⊤}
use Rattle.std.proofs.Common.{inl, inr}
use Rattle.std.specs.Int.{w64}
use Rattle.coset_value.specs.Item.{Bits, Item, integer, bytes, float, text, null, tag, array, Items, no_items, item}
use Rattle.coset_value.specs.Parts.{as_integer, as_bytes, as_text, as_array, as_tag}
use Rattle.coset_cbor.specs.Scalars.{as_float}
use Rattle.coset_codec.specs.declared.error.CoseError.{CoseError}
use Rattle.coset_codec.specs.declared.error.CoseError.TheVariants as errors
use Rattle.coset_codec.specs.Errors.{IsUnexpected}

-- `describes v x`: the item v represents x. `image x`: the item that x is written as, if there is one. `faults v e`:
-- the error e names a fault in v.
pub record Shape (A : Type 0) : Type 1 where
  pub describes : Item → A → Type 0
  pub image : A → Option Item
  pub faults : Item → CoseError → Type 0

-- Which elements of an array represent which values. `wrong_length vs`: there are too few elements, or too many.
pub record Elements (A : Type 0) : Type 1 where
  pub describes : Items → A → Type 0
  pub image : A → Option Items
  pub wrong_length : Items → Type 0
  pub faults : Items → CoseError → Type 0

-- Combines two results if both are there.
abbrev pub both : {A B C : Type 0} → (A → B → C) → Option A → Option B → Option C
both f (Some a) (Some b) = Some (f a b)
both f (Some a) None = None
both f None o = None

-- ---- items of one kind

-- `part` takes the content out of an item of the kind, and `made` makes the item of a content.
abbrev pub kind_of : {A : Type 0} → (Item → Option A) → (A → Item) → Shape A
kind_of part made = record {
  describes = λ v x. part v ≡ Some x;
  image = λ x. Some (made x);
  faults = λ v e. (part v ≡ None) × IsUnexpected e;
}

-- int
abbrev pub int : Shape ℤ
int = kind_of as_integer integer

-- bstr
abbrev pub bstr : Shape (List ℕ)
bstr = kind_of as_bytes bytes

-- tstr
abbrev pub tstr : Shape (List ℕ)
tstr = kind_of as_text text

-- float
abbrev pub floating : Shape Bits
floating = kind_of as_float float

-- any
abbrev pub any : Shape Item
any = record { describes = λ v x. v ≡ x; image = Some; faults = λ v e. ⊥ }

-- ---- conditions, names and choices

-- Only the values of the shape that meet P. `blames` are the errors for values that do not.
abbrev pub such_that : {A : Type 0} → (CoseError → Type 0) → (A → Type 0) → Shape A → Shape A
such_that {A} blames P s = record {
  describes = λ v x. s.describes v x × P x;
  image = s.image;
  faults = λ v e. s.faults v e ⊎ (blames e × ((x : A) × s.describes v x × (P x → ⊥)));
}

abbrev pub IsOutOfRange : CoseError → Type 0
IsOutOfRange e = e ≡ errors.OutOfRangeIntegerValue

-- An integer of 64 bits with a sign.
abbrev pub int64 : Shape ℤ
int64 = such_that IsOutOfRange (FitsSigned w64) int

-- uint
abbrev pub uint : Shape ℤ
uint = such_that IsOutOfRange (λ i. pos 0 ≤ℤ i) int

-- The list is not empty.
abbrev pub IsNonempty : {A : Type 0} → List A → Type 0
IsNonempty xs = xs ≢ []

-- bstr .size (1..18446744073709551615)
abbrev pub nonempty_bstr : Shape (List ℕ)
nonempty_bstr = such_that IsUnexpected IsNonempty bstr

-- The values of the shape, seen as another type. `to` converts a value of the shape, and `from` is the inverse of `to`.
abbrev pub mapped : {A B : Type 0} → (A → B) → (B → A) → Shape A → Shape B
mapped to from s = record { describes = λ v x. s.describes v (from x); image = λ x. s.image (from x); faults = s.faults }

-- The errors that `blames` allows, in place of those of the shape.
abbrev pub masked : {A : Type 0} → (CoseError → Type 0) → Shape A → Shape A
masked blames s = record {
  describes = s.describes;
  image = s.image;
  faults = λ v e. blames e × ((f : CoseError) × s.faults v f);
}

-- A value that one of two shapes describes.
abbrev pub EitherDescribes : {A B : Type 0} → (A → Type 0) → (B → Type 0) → A ⊎ B → Type 0
EitherDescribes P Q (inl x) = P x
EitherDescribes P Q (inr y) = Q y

-- `s / t`, if `is_first` distinguishes the items of s from those of t
abbrev pub either : {A B : Type 0} → (Item → Bool) → Shape A → Shape B → Shape (A ⊎ B)
either is_first s t = record {
  describes = λ v. EitherDescribes (λ x. (is_first v ≡ true) × s.describes v x) (λ y. (is_first v ≡ false) × t.describes v y);
  image = elim [ inl x ↦ s.image x | inr y ↦ t.image y ];
  faults = λ v e. ((is_first v ≡ true) × s.faults v e) ⊎ ((is_first v ≡ false) × t.faults v e);
}

-- True if the item is null.
abbrev pub is_nil : Item → Bool
is_nil null = true
is_nil v = false

abbrev pub as_nil : Item → Option (Unit {0})
as_nil null = Some tt
as_nil v = None

-- nil
abbrev pub nil : Shape (Unit {0})
nil = kind_of as_nil (λ x. null)

abbrev pub option_of : {A : Type 0} → Unit {0} ⊎ A → Option A
option_of (inl x) = None
option_of (inr x) = Some x

abbrev pub sum_of : {A : Type 0} → Option A → Unit {0} ⊎ A
sum_of None = inl tt
sum_of (Some x) = inr x

-- s / nil, if s describes no null
abbrev pub or_nil : {A : Type 0} → Shape A → Shape (Option A)
or_nil s = mapped option_of sum_of (either is_nil nil s)

-- A value of the shape, as a value that is present.
abbrev pub PresentDescribes : {A : Type 0} → (A → Type 0) → Option A → Type 0
PresentDescribes P (Some x) = P x
PresentDescribes P None = ⊥

-- The item that f makes of a present value.
abbrev pub present_image : {A : Type 0} → (A → Option Item) → Option A → Option Item
present_image f (Some x) = f x
present_image f None = None

abbrev pub present : {A : Type 0} → Shape A → Shape (Option A)
present s = record { describes = λ v. PresentDescribes (s.describes v); image = present_image s.image; faults = s.faults }

-- One value, given by the items that represent it, its image, and the faults of items. So the shape of a recursive type
-- is defined by recursion on the value.
abbrev pub fixed : (Item → Type 0) → Option Item → (Item → CoseError → Type 0) → Shape (Unit {0})
fixed P o faults = record { describes = λ v x. P v; image = λ x. o; faults = faults }

-- #6.number(s)
abbrev pub tagged : {A : Type 0} → ℕ → Shape A → Shape A
tagged number s = record {
  describes = λ v x. (w : Item) × (as_tag v ≡ Some (number, w)) × s.describes w x;
  image = λ x. option_map (tag number) (s.image x);
  faults = λ v e. ((as_tag v ≡ None) × IsUnexpected e)
      ⊎ ((t : ℕ) × (w : Item) × (as_tag v ≡ Some (t, w)) × (((t ≢ number) × IsUnexpected e) ⊎ ((t ≡ number) × s.faults w e)));
}

-- ---- arrays

-- The error says that an array has too few or too many elements. If their number is right, the error names a fault in
-- one of them.
abbrev pub ElementsFaults : {A : Type 0} → Elements A → Items → CoseError → Type 0
ElementsFaults ps vs e = (ps.wrong_length vs × IsUnexpected e) ⊎ ((ps.wrong_length vs → ⊥) × ps.faults vs e)

-- [elements]
abbrev pub array_of : {A : Type 0} → Elements A → Shape A
array_of ps = record {
  describes = λ v x. (vs : Items) × (as_array v ≡ Some vs) × ps.describes vs x;
  image = λ x. option_map array (ps.image x);
  faults = λ v e. ((as_array v ≡ None) × IsUnexpected e) ⊎ ((vs : Items) × (as_array v ≡ Some vs) × ElementsFaults ps vs e);
}

-- No elements are left.
abbrev pub IsEnd : Items → Type 0
IsEnd no_items = ⊤
IsEnd (item v vs) = ⊥

abbrev pub end : Elements (Unit {0})
end = record { describes = λ vs x. IsEnd vs; image = λ x. Some no_items; wrong_length = λ vs. IsEnd vs → ⊥; faults = λ vs e. ⊥ }

-- An element, and the elements after it.
abbrev pub FirstDescribes : {A B : Type 0} → (Item → A → Type 0) → (Items → B → Type 0) → Items → A × B → Type 0
FirstDescribes r rs no_items x = ⊥
FirstDescribes r rs (item v vs) x = r v x.0 × rs vs x.1

abbrev pub FirstWrongLength : (Items → Type 0) → Items → Type 0
FirstWrongLength m no_items = ⊤
FirstWrongLength m (item v vs) = m vs

abbrev pub FirstFaults : (Item → CoseError → Type 0) → (Items → CoseError → Type 0) → Items → CoseError → Type 0
FirstFaults f fs no_items e = ⊥
FirstFaults f fs (item v vs) e = f v e ⊎ fs vs e

infixr 50 ◌then◌
abbrev pub ◌then◌ : {A B : Type 0} → Shape A → Elements B → Elements (A × B)
s then ps = record {
  describes = FirstDescribes s.describes ps.describes;
  image = λ x. both item (s.image x.0) (ps.image x.1);
  wrong_length = FirstWrongLength ps.wrong_length;
  faults = FirstFaults s.faults ps.faults;
}

-- * s
abbrev pub Each : {A : Type 0} → (Item → A → Type 0) → Items → List A → Type 0
Each r no_items [] = ⊤
Each r no_items (x ∷ xs) = ⊥
Each r (item v vs) [] = ⊥
Each r (item v vs) (x ∷ xs) = r v x × Each r vs xs

-- The items that f makes of the values, if f makes one of each.
abbrev pub images : {A : Type 0} → (A → Option Item) → List A → Option Items
images f [] = Some no_items
images f (x ∷ xs) = both item (f x) (images f xs)

abbrev pub EachFaults : (Item → CoseError → Type 0) → Items → CoseError → Type 0
EachFaults f no_items e = ⊥
EachFaults f (item v vs) e = f v e ⊎ EachFaults f vs e

abbrev pub any_number : {A : Type 0} → Shape A → Elements (List A)
any_number s = record { describes = Each s.describes; image = images s.image; wrong_length = λ vs. ⊥; faults = EachFaults s.faults }

-- [* s]
abbrev pub list_of : {A : Type 0} → Shape A → Shape (List A)
list_of s = array_of (any_number s)

-- [+ s]
abbrev pub some_of : {A : Type 0} → Shape A → Shape (List A)
some_of s = such_that IsUnexpected IsNonempty (list_of s)

-- ? s, as the last element. If the element is missing, x is `absent`. `shows x` says whether x is written.
abbrev pub LastDescribes : {A : Type 0} → A → (Item → A → Type 0) → Items → A → Type 0
LastDescribes absent r no_items x = x ≡ absent
LastDescribes absent r (item v no_items) x = r v x
LastDescribes absent r (item v (item w vs)) x = ⊥

abbrev pub last_image : Bool → Option Item → Option Items
last_image true o = option_map (λ v. item v no_items) o
last_image false o = Some no_items

abbrev pub LastWrongLength : Items → Type 0
LastWrongLength no_items = ⊥
LastWrongLength (item v vs) = IsEnd vs → ⊥

abbrev pub LastFaults : (Item → CoseError → Type 0) → Items → CoseError → Type 0
LastFaults f no_items e = ⊥
LastFaults f (item v vs) e = f v e

abbrev pub optional_last : {A : Type 0} → A → (A → Bool) → Shape A → Elements A
optional_last absent shows s = record {
  describes = LastDescribes absent s.describes;
  image = λ x. last_image (shows x) (s.image x);
  wrong_length = LastWrongLength;
  faults = LastFaults s.faults;
}

-- A value of the shape, seen and written as the value that R relates it to. For example, a list that represents a set
-- is seen in order.
abbrev pub up_to : {A : Type 0} → (A → A → Type 0) → Shape A → Shape A
up_to {A} R s = record {
  describes = λ v y. (x : A) × s.describes v x × R x y;
  image = s.image;
  faults = s.faults;
}

-- ---- one, or a list of them

-- An array that begins with a byte string is one element. An array that begins with an array is its elements.
abbrev pub one_or_more : Item → Option Items
one_or_more (array (item (bytes b) vs)) = Some (item (array (item (bytes b) vs)) no_items)
one_or_more (array (item (array ws) vs)) = Some (item (array ws) vs)
one_or_more v = None

-- One element is written as itself, more elements as an array.
abbrev pub one_or_array : Items → Item
one_or_array (item v no_items) = v
one_or_array vs = array vs

-- s / [+ s], if s describes only arrays that begin with a byte string
abbrev pub one_or_many : {A : Type 0} → Elements A → Shape A
one_or_many {A} ps = record {
  describes = λ v x. (vs : Items) × (one_or_more v ≡ Some vs) × ps.describes vs x;
  image = λ x. option_map one_or_array (ps.image x);
  faults = λ v e. ((one_or_more v ≡ None) × IsUnexpected e) ⊎ ((vs : Items) × (one_or_more v ≡ Some vs) × ElementsFaults ps vs e);
}
