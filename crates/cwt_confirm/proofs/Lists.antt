-- Tests of lists, and of what a function makes of their elements.
use Rattle.std.specs.Prelude.{IfOk}
use Rattle.std.specs.List.{list_all}
use Rattle.std.proofs.Common.{◌≡◌, ◌∙◌, ◌&&◌, Bool, true, false, List, [], ◌∷◌, Option, Some, Result, Ok, Err, ap, cond, map, not, option_map, refl, sym}
use Rattle.coset.specs.CoseError.{CoseError}
use Rattle.coset.specs.Maps.{are_distinct}

pub all-map : {A B : Type 0} (f : B → Bool) (g : A → B) (xs : List A) → list_all f (map g xs) ≡ list_all (λ x. f (g x)) xs
all-map f g [] = refl
all-map f g (x ∷ xs) = ap (λ (b : Bool). f (g x) && b) (all-map f g xs)

-- Values are distinct exactly if their images are.
pub distinct-map : {A B : Type 0} (same : B → B → Bool) (f : A → B) (xs : List A) → are_distinct (λ a b. same (f a) (f b)) xs ≡ are_distinct same (map f xs)
distinct-map same f [] = refl
distinct-map same f (x ∷ xs) = λ i. sym (all-map (λ m. not (same (f x) m)) f xs) i && distinct-map same f xs i

pub cond-map : {A B : Type 0} (f : A → B) (b : Bool) (x : A) (o : Option A) → cond b (Some (f x)) (option_map f o) ≡ option_map f (cond b (Some x) o)
cond-map f true x o = refl
cond-map f false x o = refl

pub answered : (r : Result Bool CoseError) (x y : Bool) → x ≡ y → IfOk r (λ b. b ≡ not x) → IfOk r (λ b. b ≡ not y)
answered (Ok b) x y e h = h ∙ ap not e
answered (Err f) x y e h = tt
