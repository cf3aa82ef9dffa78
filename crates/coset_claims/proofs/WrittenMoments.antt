-- The text of a moment, from the formatted texts of its numbers.
use Rattle.std.proofs.Common.{◌≡◌, ℕ, ◌+◌, ◌-◌, ◌/◌, ◌%◌, ◌^◌, ◌++◌, refl}
use Rattle.std.specs.Fmt.{format_spec, styled_decimal}
use lib.Chars.{codes}
use Rattle.coset_claims.specs.Dates.{moment_text, month_after, year_after}

pub written : (n : ℕ) {s t u v w x : _} {y m : ℕ × ℕ}
    → s ≡ format_spec 32 0 4 4 (2 ^ 64 - 1) → t ≡ format_spec 32 0 4 2 (2 ^ 64 - 1) → u ≡ format_spec 32 0 4 2 (2 ^ 64 - 1)
    → v ≡ format_spec 32 0 4 2 (2 ^ 64 - 1) → w ≡ format_spec 32 0 4 2 (2 ^ 64 - 1) → x ≡ format_spec 32 0 4 2 (2 ^ 64 - 1)
    → y ≡ year_after (n / 86400) 1 (n / 86400) → m ≡ month_after 11 y.0 1 y.1
    → (styled_decimal s y.0 ++ (codes "-" ++ (styled_decimal t m.0 ++ (codes "-" ++ (styled_decimal u (m.1 + 1)
    ++ (codes "T" ++ (styled_decimal v (n % 86400 / 3600) ++ (codes ":" ++ (styled_decimal w (n % 86400 / 60 % 60) ++ (codes ":"
    ++ styled_decimal x (n % 86400 % 60)))))))))))
    ≡ moment_text n
written n a b c d e f g h = rw a (rw b (rw c (rw d (rw e (rw f (rw h (rw g refl)))))))
