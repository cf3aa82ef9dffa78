-- Parts of a header, in the code and in contracts; and tests of mapped lists.
use Rattle.std.proofs.Common.{◌≡◌, List, [], ◌∷◌, ◌||◌, ◌&&◌, Bool, map, refl, ap}
use Rattle.std.specs.List.{list_any, list_all}
use Rattle.coset_core.specs.FieldViews.{fields_view}
use Rattle.coset_core.specs.Headers.{fields_in}
use Rattle.coset_core.specs.ViewLaws.{header-opened}
use Rattle.coset_core.specs.Views.{header_view}
use Rattle.coset_core.specs.declared.header.Header.{Header}

pub opened : (h : Header) → fields_in (header_view h) ≡ fields_view h
opened h = ap fields_in (header-opened h)

pub any-map : {A B : Type 0} (f : B → Bool) (g : A → B) (xs : List A) → list_any f (map g xs) ≡ list_any (λ x. f (g x)) xs
any-map f g [] = refl
any-map f g (x ∷ xs) = ap (λ (b : Bool). f (g x) || b) (any-map f g xs)

pub all-map : {A B : Type 0} (f : B → Bool) (g : A → B) (xs : List A) → list_all f (map g xs) ≡ list_all (λ x. f (g x)) xs
all-map f g [] = refl
all-map f g (x ∷ xs) = ap (λ (b : Bool). f (g x) && b) (all-map f g xs)
