-- Adding one more line.
use Rattle.std.proofs.Common.{◌≡◌, ℕ, ◌+◌, ◌-◌, List, [], ◌∷◌, ◌++◌, ◌∙◌, length, take, drop, sym, ap, refl, append_assoc, arith}
use Rattle.std.proofs.lemmas.List.{append-nil, take-append-drop}
use Rattle.tool_explain.specs.declared.column.Line.{Line}
use Rattle.tool_explain.specs.Column.{EndsAt, column}

-- The bytes of a line that is added follow those of the other lines.
column_push : (lines : List Line) (line : Line) → column (lines ++ line ∷ []) ≡ column lines ++ line.bytes.now
column_push [] line = append-nil line.bytes.now
column_push (first ∷ lines) line =
    ap (λ bytes. first.bytes.now ++ bytes) (column_push lines line) ∙ sym (append_assoc first.bytes.now (column lines) line.bytes.now)

pub shows : (lines items : List Line) (line : Line) → items ≡ lines ++ line ∷ [] → column items ≡ column lines ++ line.bytes.now
shows lines items line is = ap column is ∙ column_push lines line

-- If the new line has the front of the remaining bytes, no byte is left out.
pub moves_on : (lines items : List Line) (line : Line) (rest bytes : List ℕ) (n : ℕ) → items ≡ lines ++ line ∷ [] → line.bytes.now ≡ take n bytes
    → rest ≡ drop n bytes → column items ++ rest ≡ column lines ++ bytes
moves_on lines items line rest bytes n is front back =
    ap (λ shown. shown ++ rest) (shows lines items line is ∙ ap (λ b. column lines ++ b) front)
    ∙ append_assoc (column lines) (take n bytes) rest
    ∙ ap (λ b. column lines ++ b) (ap (λ b. take n bytes ++ b) back ∙ take-append-drop n bytes)

pub ends : (lines items : List Line) (line : Line) → items ≡ lines ++ line ∷ [] → EndsAt (length (column lines)) items
ends lines items line is = record { front = lines; last = line; parts = is; place = refl }

-- The offset of the end of a line, from the number of bytes after it.
pub place_is : (front left offset : ℕ) (all bytes : List ℕ) → front + left ≡ length all → all ≡ bytes → offset ≡ length bytes - left → front ≡ offset
place_is front left offset all bytes sum is e = omega (arith, sum, ap length is, e)
