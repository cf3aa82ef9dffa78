-- Lines whose answer is the line itself.
use Rattle.std.specs.Prelude.{◌==◌, ℕ, Bool, true, List, [], ◌∷◌}

-- The line is empty, or begins with `#`.
abbrev pub is_comment : List ℕ → Bool
is_comment [] = true
is_comment (c ∷ line) = c == 35
