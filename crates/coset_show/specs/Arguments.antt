-- The arguments of a program: its name, and those after it.
use Rattle.std.specs.Prelude.{◌≡◌, List, [], ◌∷◌}

-- A name, and after it x alone.
abbrev pub AreNameAnd : {A : Type 0} → List A → A → Type 0
AreNameAnd {A} all x = (name : A) × (all ≡ name ∷ x ∷ [])

-- Anything but a name and exactly one argument after it.
abbrev pub AreNoNameAndOne : {A : Type 0} → List A → Type 0
AreNoNameAndOne {A} all = (x : A) → AreNameAnd all x → ⊥
