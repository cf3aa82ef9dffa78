-- The arguments that are left.
use Rattle.std.proofs.Common.{◌≡◌, List, [], ◌∷◌, length, refl, ◌∙◌, ap, arith}
use Rattle.coset_show.specs.Arguments.{AreNameAnd}

no_length : {A : Type 0} (xs : List A) → length xs ≡ 0 → xs ≡ []
no_length [] e = refl
no_length (x ∷ xs) e = absurd (omega (arith, e))

-- A name, x, and then nothing.
pub name_and : {A : Type 0} (all more rest : List A) (name x : A) → all ≡ name ∷ more → more ≡ x ∷ rest → length rest ≡ 0 → AreNameAnd all x
name_and all more rest name x first second none = (name, first ∙ ap (λ xs. name ∷ xs) (second ∙ ap (λ xs. x ∷ xs) (no_length rest none)))
