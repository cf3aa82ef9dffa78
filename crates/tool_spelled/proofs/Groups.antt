-- Reading base45, one group at a time.
use Rattle.std.proofs.Common.{◌≡◌, ◌/◌, ◌%◌, ℕ, List, [], ◌∷◌, ◌++◌, ◌∙◌, Option, Some, None, sym, ap, refl, append_assoc}
use Rattle.std.specs.Prelude.{option_map}
use Rattle.tool_spelled.specs.Base45.{IsGroup, base45, two_bytes}

two_more :
    (so_far once twice : List ℕ) (n : ℕ) (o : Option (List ℕ)) → once ≡ so_far ++ (n / 256 ∷ []) → twice ≡ once ++ (n % 256 ∷ [])
    → option_map (λ b. so_far ++ b) (two_bytes (Some n) o) ≡ option_map (λ b. twice ++ b) o
two_more so_far once twice n None first second = refl
two_more so_far once twice n (Some b) first second =
    ap Some
    (sym
    (ap (λ p. p ++ b) second ∙ append_assoc once (n % 256 ∷ []) b ∙ ap (λ p. p ++ (n % 256 ∷ b)) first ∙ append_assoc so_far (n / 256 ∷ []) (n % 256 ∷ b)))

-- The text has one more group.
pub one_group :
    (text left rest so_far once twice : List ℕ) (n : ℕ) → IsGroup left n rest → once ≡ so_far ++ (n / 256 ∷ []) → twice ≡ once ++ (n % 256 ∷ [])
    → base45 text ≡ option_map (λ b. so_far ++ b) (base45 left) → base45 text ≡ option_map (λ b. twice ++ b) (base45 rest)
one_group text left rest so_far once twice n group first second before =
    before ∙ ap (λ t. option_map (λ b. so_far ++ b) (base45 t)) group.3
    ∙ ap (λ o. option_map (λ b. so_far ++ b) (two_bytes o (base45 rest))) group.4 ∙ two_more so_far once twice n (base45 rest) first second
