-- A list as far as a loop has come.
use Rattle.std.proofs.Common.{◌≡◌, ◌∙◌, ◌++◌, ◌+◌, ◌<◌, ℕ, Bool, List, [], ◌∷◌, ◌||◌}
use Rattle.std.proofs.Common.{get_or, length, map, take, drop, suc, refl, sym, ap, add-one, append_assoc}
use Rattle.std.specs.List.{list_any}
use Rattle.std.proofs.Math.Seq.{take-suc, drop-cons}
use Rattle.std.proofs.lemmas.List.{take-append-drop}

-- One more element.
pub more : {A : Type 0} (xs : List A) (n : ℕ) (x : A) → n < length xs → x ≡ get_or xs n x → take (n + 1) xs ≡ take n xs ++ x ∷ []
more xs n x lt is = ap (λ m. take m xs) (add-one n) ∙ (take-suc xs n x lt ∙ ap (λ y. take n xs ++ y ∷ []) (sym is))

-- The whole list: the elements before one, that element, and those after it.
pub whole : {A : Type 0} (xs : List A) (n : ℕ) (x : A) → n < length xs → x ≡ get_or xs n x → xs ≡ take n xs ++ x ∷ drop (n + 1) xs
whole xs n x lt is =
    sym (take-append-drop n xs)
    ∙ (ap (λ ys. take n xs ++ ys) (drop-cons xs n x lt) ∙ (ap (λ y. take n xs ++ y ∷ drop (suc n) xs) (sym is)
    ∙ ap (λ m. take n xs ++ x ∷ drop m xs) (sym (add-one n))))

pub any-map : {A B : Type 0} (f : B → Bool) (g : A → B) (xs : List A) → list_any f (map g xs) ≡ list_any (λ x. f (g x)) xs
any-map f g [] = refl
any-map f g (x ∷ xs) = ap (λ (b : Bool). f (g x) || b) (any-map f g xs)

-- Moves the first element of the rest to the end of the elements before it.
pub moved : {A : Type 0} (ys : List A) (x : A) (old new all : List A) → ys ++ old ≡ all → old ≡ x ∷ new → (ys ++ x ∷ []) ++ new ≡ all
moved ys x old new all p q = append_assoc ys (x ∷ []) new ∙ (ap (λ zs. ys ++ zs) (sym q) ∙ p)
