-- Pairs of a map, as bytes.
use Rattle.std.specs.Prelude.{◌≡◌, ◌⊎◌, ◌++◌, ℕ, List, [], ◌∷◌, Vec}
use Rattle.std.specs.BTreeSet.{BTreeSet}
use Rattle.std.specs.Global.{Global}
use Rattle.coset_value.specs.declared.value.Value.{Value}
use Rattle.coset.specs.Shortest.{IsShortest}
use Rattle.coset.specs.View.{value_item}

-- The bytes `q` are the shortest encoding of the pair's key, followed by that of its value.
abbrev pub IsEncoded : Value × Value → List ℕ → Type 0
IsEncoded p q = (b c : List ℕ) × (q ≡ b ++ c) × IsShortest b (value_item p.0) × IsShortest c (value_item p.1)

-- The bytes `q` are the encoding of one of the pairs.
abbrev pub IsOfOne : List (Value × Value) → List ℕ → Type 0
IsOfOne [] q = ⊥
IsOfOne (p ∷ ps) q = IsEncoded p q ⊎ IsOfOne ps q

-- The bytes `q` are one of these texts.
abbrev pub IsOneOf : List (Vec ℕ Global) → List ℕ → Type 0
IsOneOf [] q = ⊥
IsOneOf (t ∷ ts) q = (t.items ≡ q) ⊎ IsOneOf ts q

-- Each of the pairs has an encoding, which is one of these texts.
abbrev pub AreThere : List (Vec ℕ Global) → List (Value × Value) → Type 0
AreThere ts [] = Unit {0}
AreThere ts (p ∷ ps) = ((q : List ℕ) × IsEncoded p q × IsOneOf ts q) × AreThere ts ps

-- The set has the encodings of the pairs, and no other bytes.
pub record AreEncoded (ps : List (Value × Value)) (s : BTreeSet (Vec ℕ Global)) : Type 0 where
  pub known : (q : List ℕ) → IsOneOf s.keys q → IsOfOne ps q
  pub there : AreThere s.keys ps
