-- A copy of an option has the same view, if a copy of its content has.
use Rattle.std.proofs.Common.{◌≡◌, ℕ, List, [], ◌∷◌, Option, Some, None, option_map, refl, ap}
use Rattle.std.specs.List.{AllZip}
use Rattle.coset_label.proofs.Copies.{Copied}

pub option_copied : {A B : Type 0} (f : A → B) (R : A → A → Type 0) → ((x y : A) → R x y → f y ≡ f x) → (o p : Option A) → Copied R o p
    → option_map f p ≡ option_map f o
option_copied f R same None None c = refl
option_copied f R same None (Some y) c = absurd c
option_copied f R same (Some x) None c = absurd c
option_copied f R same (Some x) (Some y) c = ap Some (same x y c)

-- Copies of numbers, one by one.
pub numbers_copied : (xs ys : List ℕ) → AllZip (λ x y. y ≡ x) xs ys → ys ≡ xs
numbers_copied [] [] c = refl
numbers_copied [] (y ∷ ys) c = absurd c
numbers_copied (x ∷ xs) [] c = absurd c
numbers_copied (x ∷ xs) (y ∷ ys) c = λ i. c.0 i ∷ numbers_copied xs ys c.1 i
