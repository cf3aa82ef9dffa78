-- Parts of inputs.
use Rattle.std.specs.Prelude.{◌≡◌, ℕ, List, ◌++◌, length}

-- The text is in the input, at that offset.
pub record IsPart (input : List ℕ) (offset : ℕ) (text : List ℕ) : Type 0 where
  pub front : List ℕ
  pub back : List ℕ
  pub parts : input ≡ front ++ (text ++ back)
  pub place : length front ≡ offset
