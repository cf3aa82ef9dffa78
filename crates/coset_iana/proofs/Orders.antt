-- The order that a derive gives to values with numbers.
use Rattle.std.proofs.Common.{◌≡◌, ◌∙◌, ℤ, ap}
use Rattle.std.specs.Ordering.{int_cmp}

-- If the compared numbers are the values' own, the values compare as their numbers do.
pub int_cmp-same : {T : Type 0} (compared number : T → ℤ) → ((x : T) → compared x ≡ number x) → (x y : T)
    → int_cmp (compared x) (compared y) ≡ int_cmp (number x) (number y)
int_cmp-same compared number same x y = ap (λ z. int_cmp z (compared y)) (same x) ∙ ap (int_cmp (number x)) (same y)
