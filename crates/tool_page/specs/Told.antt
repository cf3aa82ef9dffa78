-- The result that the page gets.
use Rattle.std.specs.Prelude.{◌≡◌, ◌<◌, ◌≤◌, ◌++◌, ℕ, ℤ, pos, List, length, drop, Result, Ok, Err}
use Rattle.tool_page.specs.declared.answer.Unanswered.{Unanswered}
use Rattle.tool_page.specs.declared.answer.Unanswered.TheVariants.{Memory, Short}

-- A text of length n is at the front of the memory, and the rest of the memory is unchanged.
abbrev pub BeginsWith : List ℕ → List ℕ → ℕ → Type 0
BeginsWith old new n = (t : List ℕ) × (n ≡ length t) × (length t ≤ length old) × (new ≡ t ++ drop (length t) old)

-- The result of a call. With a status, for which P holds, n is the length of the text. If the text has no room, n is
-- the length that is needed. If an allocation failed, n is 0. In both of these cases the memory is unchanged.
abbrev pub Tells : (ℕ → Type 0) → List ℕ → List ℕ → ℕ → Result ℕ Unanswered → Type 0
Tells P old new n (Ok status) = P status × BeginsWith old new n
Tells P old new n (Err (Short needed)) = (length old < needed) × (n ≡ needed) × (new ≡ old)
Tells P old new n (Err Memory) = (n ≡ 0) × (new ≡ old)

-- The number of a result.
abbrev pub number_of : Result ℕ Unanswered → ℤ
number_of (Ok status) = pos status
number_of (Err Memory) = pos 2
number_of (Err (Short needed)) = pos 3
