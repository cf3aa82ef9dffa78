-- Moments in UTC, in the form of RFC 3339 (section 5.6), by the Gregorian calendar for the years 1 to 9999.
use Rattle.std.specs.Prelude.{◌==◌, ◌&&◌, ◌||◌, ◌+◌, ◌-◌, ◌/◌, ◌%◌, ◌^◌, not, nat_lt, if◌then◌else◌}
use Rattle.std.specs.Prelude.{ℕ, zero, suc, ℤ, pos, negsuc, ◌+ℤ◌, List, ◌++◌, Bool, Option, Some, None}
use Rattle.std.specs.Fmt.{format_spec, signed_decimal, styled_decimal}
use lib.Chars.{codes}
use Rattle.coset_claims.specs.declared.timestamp.Timestamp.{Timestamp}
use Rattle.coset_claims.specs.declared.timestamp.Timestamp.TheVariants.{WholeSeconds, FractionalSeconds}

-- Every fourth year is a leap year, but of the centuries only every fourth one.
abbrev pub is_leap_year : ℕ → Bool
is_leap_year y = y % 4 == 0 && (not (y % 100 == 0) || y % 400 == 0)

abbrev pub days_in_year : ℕ → ℕ
days_in_year y = if is_leap_year y then 366 else 365

-- September, April, June and November have 30 days.
abbrev pub days_in_month : ℕ → ℕ → ℕ
days_in_month y m =
    if m == 2 then (if is_leap_year y then 29 else 28)
    else if m == 4 || m == 6 || m == 9 || m == 11 then 30
    else 31

-- The year of the day `n` days after 1 January of the year `y`, and the days since that year's first day. The function
-- counts year by year, and at most `most` years.
unfoldable pub year_after : ℕ → ℕ → ℕ → ℕ × ℕ
year_after zero y n = (y, n)
year_after (suc most) y n = if nat_lt n (days_in_year y) then (y, n) else year_after most (suc y) (n - days_in_year y)

-- The same for the months of a year, from the month `m` on.
unfoldable pub month_after : ℕ → ℕ → ℕ → ℕ → ℕ × ℕ
month_after zero y m n = (m, n)
month_after (suc most) y m n = if nat_lt n (days_in_month y m) then (m, n) else month_after most y (suc m) (n - days_in_month y m)

-- A number in decimal, with leading zeros if it has fewer than `digits` digits.
abbrev pub padded : ℕ → ℕ → List ℕ
padded digits n = styled_decimal (format_spec 32 0 4 digits (2 ^ 64 - 1)) n

-- The seconds from 1 January of the year 1 to 1 January of 1970, and to 1 January of the year 10000.
abbrev pub before_1970 : ℕ
before_1970 = 62_135_596_800

abbrev pub after_9999 : ℕ
after_9999 = 315_537_897_600

-- The moment this many seconds after the year 1 began: its date, and its time of day.
abbrev pub moment_text : ℕ → List ℕ
moment_text n =
    let y = year_after (n / 86_400) 1 (n / 86_400) in
    let m = month_after 11 y.0 1 y.1 in
    padded 4 y.0 ++ (codes "-" ++ (padded 2 m.0 ++ (codes "-" ++ (padded 2 (m.1 + 1) ++ (codes "T" ++ (padded 2 (n % 86_400 / 3_600)
    ++ (codes ":" ++ (padded 2 (n % 86_400 / 60 % 60) ++ (codes ":" ++ padded 2 (n % 86_400 % 60))))))))))

-- The number of seconds, if it is within the years 1 to 9999.
abbrev pub in_calendar : ℤ → Option ℕ
in_calendar (pos n) = if nat_lt n after_9999 then Some n else None
in_calendar (negsuc n) = None

-- The text of a moment within the years 1 to 9999. For any other moment, the number of seconds since 1970 began.
abbrev pub moment_or_seconds : Option ℕ → ℤ → List ℕ
moment_or_seconds (Some n) i = moment_text n ++ codes "Z"
moment_or_seconds None i = signed_decimal i ++ codes " seconds since 1970"

-- The text of the moment this many seconds after 1970 began.
abbrev pub seconds_text : ℤ → List ℕ
seconds_text i = moment_or_seconds (in_calendar (i +ℤ pos before_1970)) i

-- The output of `{}` for a timestamp. For a float, the text isn't specified.
abbrev pub timestamp_output : Timestamp → Option (List ℕ)
timestamp_output (WholeSeconds i) = Some (seconds_text i)
timestamp_output (FractionalSeconds x) = None
