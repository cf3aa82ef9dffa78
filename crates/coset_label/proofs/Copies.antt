-- A copied option or list has the same view as the original if each copied element has the same view as its original.
use Rattle.std.proofs.Common.{◌≡◌, List, [], ◌∷◌, Option, Some, None, option_map, map, refl, ap}
use Rattle.std.specs.List.{AllZip}

-- A copy of an option, as the contract of its derived clone states it.
abbrev pub Copied : {A : Type 0} → (A → A → Type 0) → Option A → Option A → Type 0
Copied R None None = Unit {0}
Copied R None (Some y) = ⊥
Copied R (Some x) None = ⊥
Copied R (Some x) (Some y) = R x y

-- A copied option of a registry label has the same view, if clones of T's values equal these values.
pub registered_copied :
    {A B : Type 0} (T : Type 0) (f : A → B) (o p : Option A) → Copied (λ x y. ((a b : T) → b ≡ a → b ≡ a) → f y ≡ f x) o p → option_map f p ≡ option_map f o
registered_copied T f None None c = refl
registered_copied T f None (Some y) c = absurd c
registered_copied T f (Some x) None c = absurd c
registered_copied T f (Some x) (Some y) c = ap Some (c (λ a b e. e))

pub list_copied :
    {A B : Type 0} (f : A → B) (R : A → A → Type 0) → ((x y : A) → R x y → f y ≡ f x) → (xs ys : List A) → AllZip R xs ys → map f ys ≡ map f xs
list_copied f R same [] [] c = refl
list_copied f R same [] (y ∷ ys) c = absurd c
list_copied f R same (x ∷ xs) [] c = absurd c
list_copied f R same (x ∷ xs) (y ∷ ys) c = λ i. same x y c.0 i ∷ list_copied f R same xs ys c.1 i
