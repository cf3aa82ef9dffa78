-- The length of a text without its comments.
use Rattle.std.proofs.Common.{◌≡◌, ℕ, suc, List, [], ◌∷◌, length, ap, refl}
use Rattle.tool_spelled.specs.Comments.{next_place, without_comments}
use Rattle.tool_spelled.specs.declared.comments.Place.{Place}

-- A text without its comments is as long as the text.
pub as_long : (place : Place) (text : List ℕ) → length (without_comments place text) ≡ length text
as_long place [] = refl
as_long place (c ∷ rest) = ap suc (as_long (next_place place c rest) rest)
