-- The first element of a list that passes a test, and of a mapped list.
use Rattle.std.proofs.Common.{◌≡◌, List, [], ◌∷◌, Option, Some, None, Bool, true, false, refl, ap, ◌∙◌}
use Rattle.std.specs.Prelude.{map, option_map, cond}
use Rattle.std.specs.List.{find}
use Rattle.std.specs.Borrow.{Bor}

pub cond-map : {A B : Type 0} (f : A → B) (b : Bool) (x : A) (o : Option A) → cond b (Some (f x)) (option_map f o) ≡ option_map f (cond b (Some x) o)
cond-map f true x o = refl
cond-map f false x o = refl

pub find-map : {A B : Type 0} (f : A → B) (p : B → Bool) (xs : List A) → find p (map f xs) ≡ option_map f (find (λ x. p (f x)) xs)
find-map f p [] = refl
find-map f p (x ∷ xs) = ap (cond (p (f x)) (Some (f x))) (find-map f p xs) ∙ cond-map f (p (f x)) x (find (λ y. p (f y)) xs)

-- The view of a borrowed value.
pub view_lent : {A B : Type 0} (f : A → B) (r : Option (Bor A)) → option_map (λ x. f x.now) r ≡ option_map f (option_map (λ x. x.now) r)
view_lent f None = refl
view_lent f (Some x) = refl
