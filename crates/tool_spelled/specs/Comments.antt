-- Comments between digits.
use Rattle.std.specs.Prelude.{◌==◌, ◌&&◌, ◌||◌, if◌then◌else◌, ℕ, List, [], ◌∷◌, Bool, false}
use Rattle.tool_spelled.specs.declared.comments.Place.{Place}
use Rattle.tool_spelled.specs.declared.comments.Place.TheVariants.{Outside, Line, Opening, Block, Closing}

-- The text begins with the character.
abbrev pub begins_with : List ℕ → ℕ → Bool
begins_with [] byte = false
begins_with (c ∷ rest) byte = c == byte

-- The place of the character after c, if c is at the given place. A comment begins with `#`, `;`, `//` or `/*`.
abbrev pub next_place : Place → ℕ → List ℕ → Place
next_place Outside c rest =
    if c == 35 || c == 59 || (c == 47 && begins_with rest 47) then Line else if c == 47 && begins_with rest 42 then Opening else Outside
next_place Line c rest = if c == 10 then Outside else Line
next_place Opening c rest = Block
next_place Block c rest = if c == 42 && begins_with rest 47 then Closing else Block
next_place Closing c rest = Outside

-- The character itself outside comments, and a space within them.
abbrev pub seen : Place → Place → ℕ → ℕ
seen Outside Outside c = c
seen place next c = 32

-- The text with a space for each character of a comment.
abbrev pub without_comments : Place → List ℕ → List ℕ
without_comments place [] = []
without_comments place (c ∷ rest) = seen place (next_place place c rest) c ∷ without_comments (next_place place c rest) rest
