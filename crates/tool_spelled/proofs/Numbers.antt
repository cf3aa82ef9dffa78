-- The numbers of an array's elements.
use Rattle.std.proofs.Common.{◌≡◌, ◌==◌, ◌||◌, ◌<◌, ℕ, List, ◌∷◌, ◌∙◌, Option, Some, true, false, IfSome, length, sym, ap, subst, arith}
use Rattle.std.proofs.lemmas.Option.{IfSome_then}
use Rattle.tool_spelled.specs.Number.{number}
use Rattle.tool_spelled.specs.Pieces.{IsNumber}
use Rattle.tool_spelled.specs.Pieces as pieces

pub not_empty : (n : ℕ) → (n == 0) ≡ false → 0 < n
not_empty n e = grind (arith, e)

pub in_decimal : (digits : List ℕ) (o : Option ℕ) → 0 < length digits → IfSome o (λ n. number 10 0 digits ≡ Some n) → IfSome o (IsNumber digits)
in_decimal digits o some h = IfSome_then o h (λ n is. pieces.decimal n digits some is)

pub in_hexadecimal :
    (text behind digits : List ℕ) (x : ℕ) (o : Option ℕ) → text ≡ 48 ∷ behind → behind ≡ x ∷ digits → (x == 120 || x == 88) ≡ true → 0 < length digits
    → IfSome o (λ n. number 16 0 digits ≡ Some n) → IfSome o (IsNumber text)
in_hexadecimal text behind digits x o first second is some h =
    IfSome_then o h
    (λ n e. subst (λ (t : List ℕ). IsNumber t n) (sym (first ∙ ap (λ t. 48 ∷ t) second)) (pieces.hexadecimal x n digits is some e))
