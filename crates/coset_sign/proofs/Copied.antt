-- Copies of lists.
use Rattle.std.proofs.Common.{◌≡◌, List, [], ◌∷◌, map, refl}
use Rattle.std.specs.List.{AllZip}

-- Each copy has the same view as its original.
pub each_copied : {A B : Type 0} (see : A → B) (xs ys : List A) → AllZip (λ x y. see y ≡ see x) xs ys → map see ys ≡ map see xs
each_copied see [] [] h = refl
each_copied see (x ∷ xs) (y ∷ ys) h = λ i. h.0 i ∷ each_copied see xs ys h.1 i
each_copied see [] (y ∷ ys) h = absurd h
each_copied see (x ∷ xs) [] h = absurd h
