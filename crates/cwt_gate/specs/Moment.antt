-- The times in claims (RFC 8392, sections 3.1.4 and 3.1.5), in seconds since 1970 began in UTC.
use Rattle.std.specs.Prelude.{◌||◌, not, ℤ, Bool, true, false, Option, Some, None}
use Rattle.std.specs.declared.cmp.Ordering.{Ordering}
use Rattle.std.specs.Ordering.{is_le}
use Rattle.coset.specs.Claims.{ClaimsView}
use Rattle.coset.specs.Seconds.{seconds_cmp}
use Rattle.coset.specs.Timestamp.{TimestampView, fractional_seconds}

-- Returns true if there is a time, and it is a float.
abbrev pub is_fractional : Option TimestampView → Bool
is_fractional (Some (fractional_seconds x)) = true
is_fractional named = false

-- Returns true if exp or nbf is a float.
abbrev pub has_fraction : ClaimsView → Bool
has_fraction c = is_fractional c.expiration_time || is_fractional c.not_before

-- Returns true if the order is less or equal. If there is no order, returns `otherwise`.
abbrev pub is_le_or : Bool → Option Ordering → Bool
is_le_or otherwise None = otherwise
is_le_or otherwise (Some o) = is_le o

-- Returns true if the moment `t` has come at `k` seconds. For an infinity or NaN, returns `otherwise`.
abbrev pub has_come : Bool → ℤ → TimestampView → Bool
has_come otherwise k t = is_le_or otherwise (seconds_cmp t k)

-- Returns true if there is an exp, and `now` is at least exp. An infinity or NaN has always expired.
abbrev pub has_expired : ℤ → Option TimestampView → Bool
has_expired now None = false
has_expired now (Some exp) = has_come true now exp

-- Returns true if there is an nbf, and `now` is below nbf. An infinity or NaN is always early.
abbrev pub is_early : ℤ → Option TimestampView → Bool
is_early now None = false
is_early now (Some nbf) = not (has_come false now nbf)
