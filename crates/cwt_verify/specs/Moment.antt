-- The times in claims (RFC 8392, sections 3.1.4 to 3.1.6), in seconds since 1970 began in UTC.
use Rattle.std.specs.Prelude.{◌+ℤ◌, ◌-ℤ◌, not, ℕ, ℤ, pos, Bool, true, false, Option, Some, None}
use Rattle.std.specs.declared.cmp.Ordering.{Ordering}
use Rattle.std.specs.Ordering.{is_le}
use Rattle.coset.specs.Seconds.{seconds_cmp}
use Rattle.coset.specs.Timestamp.{TimestampView}

-- Returns true if the order is less or equal. If there is no order, returns `otherwise`.
abbrev pub is_le_or : Bool → Option Ordering → Bool
is_le_or otherwise None = otherwise
is_le_or otherwise (Some o) = is_le o

-- Returns true if the moment `t` has come at `k` seconds. For an infinity or NaN, returns `otherwise`.
abbrev pub has_come : Bool → ℤ → TimestampView → Bool
has_come otherwise k t = is_le_or otherwise (seconds_cmp t k)

-- Returns true if there is an exp, and `now` is at least exp plus the leeway. An infinity or NaN has always expired.
abbrev pub has_expired : ℕ → ℤ → Option TimestampView → Bool
has_expired leeway now None = false
has_expired leeway now (Some exp) = has_come true (now -ℤ pos leeway) exp

-- Returns true if there is an nbf, and `now` plus the leeway is below nbf. An infinity or NaN is always early.
abbrev pub is_early : ℕ → ℤ → Option TimestampView → Bool
is_early leeway now None = false
is_early leeway now (Some nbf) = not (has_come false (now +ℤ pos leeway) nbf)

-- Returns true if there is a greatest age, and iat is missing, or `now` is at least iat plus the age and the leeway. So
-- iat plus the age counts as an expiration time.
abbrev pub is_too_old : Option ℕ → ℕ → ℤ → Option TimestampView → Bool
is_too_old None leeway now issued = false
is_too_old (Some age) leeway now None = true
is_too_old (Some age) leeway now (Some issued) = has_come true (now -ℤ pos leeway -ℤ pos age) issued
