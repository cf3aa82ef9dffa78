-- The bytes that lines have.
use Rattle.std.specs.Prelude.{◌≡◌, ℕ, List, [], ◌∷◌, ◌++◌, length}
use Rattle.tool_explain.specs.declared.column.Line.{Line}
use Rattle.tool_explain.specs.declared.column.Column.{Column}

-- The bytes of the lines, from the first line on.
abbrev pub column : List Line → List ℕ
column [] = []
column (line ∷ lines) = line.bytes.now ++ column lines

-- The last line has the bytes from the offset on.
pub record EndsAt (offset : ℕ) (lines : List Line) : Type 0 where
  pub front : List Line
  pub last : Line
  pub parts : lines ≡ front ++ last ∷ []
  pub place : length (column front) ≡ offset

-- The bytes of the lines, followed by the bytes that no line has yet: the whole input.
abbrev pub whole : Column → List ℕ
whole c = column c.lines.items ++ c.rest.now

-- The number of lines.
abbrev pub shown : Column → ℕ
shown c = length c.lines.items

-- The offset of the first byte that no line has yet.
abbrev pub place : Column → ℕ
place c = length (column c.lines.items)
