-- Exact comparison of timestamps with whole seconds, without rounding, for floats of any width.
use Rattle.std.specs.Prelude.{◌^◌, ◌*ℤ◌, ℤ, pos, neg_ℤ, Bool, Option, Some, option_map, if◌then◌else◌}
use Rattle.std.specs.declared.cmp.Ordering.{Ordering}
use Rattle.std.specs.Ordering.{int_cmp, is_gt, is_some_and}
use Rattle.coset_value.specs.Number.{Number, number}
use Rattle.coset_claims.specs.Timestamp.{TimestampView, whole_seconds, fractional_seconds}

-- Compares the number with `k`.
abbrev pub number_cmp : Number → ℤ → Ordering
number_cmp x k = int_cmp (if x.is_negative then neg_ℤ (pos x.units) else pos x.units) (k *ℤ pos (2 ^ x.scale))

-- Compares a moment with `k` seconds. An infinity or NaN is no moment.
abbrev pub seconds_cmp : TimestampView → ℤ → Option Ordering
seconds_cmp (whole_seconds i) k = Some (int_cmp i k)
seconds_cmp (fractional_seconds x) k = option_map (λ n. number_cmp n k) (number x)

-- Returns true if the timestamp is a moment later than `k` seconds.
abbrev pub is_after : TimestampView → ℤ → Bool
is_after t k = is_some_and is_gt (seconds_cmp t k)
