-- Reading a dump, one line at a time.
use Rattle.std.proofs.Common.{◌≡◌, ◌<◌, ◌+◌, ℕ, List, [], ◌∷◌, ◌++◌, ◌∙◌, true, length}
use Rattle.std.proofs.Common.{sym, ap, subst, arith, append_assoc, length-append}
use Rattle.std.proofs.lemmas.List.{append-nil, nil_from_length}
use Rattle.tool_spelled.specs.Dump.{BeginsDump, IsAt, IsDump, after_line, is_blank}
use Rattle.tool_spelled.specs.Dump as dump
use Rattle.tool_spelled.specs.Pieces.{ArePieces}
use Rattle.tool_spelled.specs.declared.pieces.Format.TheVariants.{Hexadecimal}

-- A line that was read.
pub line_read :
    (radix n : ℕ) (text offset fields side rest bytes : List ℕ) → text ≡ offset ++ ((fields ++ side) ++ rest)
    → after_line ((fields ++ side) ++ rest) ≡ rest → length rest < length text → IsAt radix n offset → ArePieces Hexadecimal fields bytes
    → BeginsDump radix n text bytes rest
line_read radix n text offset fields side rest bytes parts behind shorter at is =
    (λ more h. subst (λ (t : List ℕ). IsDump radix n t (bytes ++ more)) (sym parts) (dump.line n offset fields side rest bytes more at is behind h), shorter)

-- The text has one more line.
pub one_line :
    (radix first : ℕ) (text left rest so_far bytes pushed : List ℕ) → BeginsDump radix (first + length so_far) left bytes rest → pushed ≡ so_far ++ bytes
    → ((b : List ℕ) → IsDump radix (first + length so_far) left b → IsDump radix first text (so_far ++ b))
    → (b : List ℕ) → IsDump radix (first + length pushed) rest b → IsDump radix first text (pushed ++ b)
one_line radix first text left rest so_far bytes pushed begins push before b h =
    let count : length pushed ≡ length so_far + length bytes = ap length push ∙ length-append so_far bytes in
    let next : first + length pushed ≡ first + length so_far + length bytes = omega (arith, count) in
    subst (λ (p : List ℕ). IsDump radix first text p) (sym (ap (λ p. p ++ b) push ∙ append_assoc so_far bytes b))
    (before (bytes ++ b) (begins.0 b (subst (λ (n : ℕ). IsDump radix n rest b) next h)))

-- The text has one more character of white space before a line.
pub one_blank :
    (radix first : ℕ) (text left rest so_far : List ℕ) (c : ℕ) → left ≡ c ∷ rest → is_blank c ≡ true
    → ((b : List ℕ) → IsDump radix (first + length so_far) left b → IsDump radix first text (so_far ++ b))
    → (b : List ℕ) → IsDump radix (first + length so_far) rest b → IsDump radix first text (so_far ++ b)
one_blank radix first text left rest so_far c parts is before b h =
    before b (subst (λ (t : List ℕ). IsDump radix (first + length so_far) t b) (sym parts) (dump.blank (first + length so_far) c rest b is h))

-- At the end of the text.
pub dump_to_end :
    (radix first : ℕ) (text left bytes : List ℕ) → length left ≡ 0
    → ((b : List ℕ) → IsDump radix (first + length bytes) left b → IsDump radix first text (bytes ++ b)) → IsDump radix first text bytes
dump_to_end radix first text left bytes none before =
    subst (λ (b : List ℕ). IsDump radix first text b) (append-nil bytes)
    (before [] (subst (λ (t : List ℕ). IsDump radix (first + length bytes) t []) (sym (nil_from_length left none)) (dump.ends (first + length bytes))))

-- A character other than a line break doesn't end a line.
pub line_goes_on : (left rest : List ℕ) (c : ℕ) → left ≡ c ∷ rest → (c ≡ 10 → ⊥) → after_line left ≡ after_line rest
line_goes_on left rest c parts other = ap after_line parts ∙ grind (arith, other)
