-- Timestamps of claims: seconds since 1970 began in UTC (RFC 8392, section 2, "NumericDate").
use Rattle.std.specs.Prelude.{◌≡◌, ◌⊎◌, ℤ, Bool, true, false, Some, refl}
use Rattle.std.specs.Ordering.{int_eq}
use Rattle.std.specs.Cmp.{IsEquivalence, decided, signed_Decides}
use Rattle.std.proofs.Common.{inl, inr, ap, subst, sym, true≢false}
use Rattle.coset_value.specs.Item.{Bits, Item, integer, float}
use Rattle.coset_value.specs.Same.{bits_eq}
use Rattle.coset_value.specs.SameLaws.{item_eq-decides}
use Rattle.coset_value.specs.View.{bits_of}
use Rattle.coset_codec.specs.Shape.{Shape, mapped, either, floating, int64}
use Rattle.coset_codec.specs.ShapeLaws.{Lawful, mapped_laws, either_laws, floating_laws, int64_laws, some-one}
use Rattle.coset_label.specs.Labels.{is_integer}
use Rattle.coset_label.specs.Same.{IsEquality}
use Rattle.coset_claims.specs.declared.timestamp.Timestamp.{Timestamp}
use Rattle.coset_claims.specs.declared.timestamp.Timestamp.TheVariants.{WholeSeconds, FractionalSeconds}

-- A timestamp: a number of seconds, or a float with its width and bits.
pub data TimestampView : Type 0 where
  whole_seconds : ℤ → TimestampView
  fractional_seconds : Bits → TimestampView

abbrev pub timestamp_view : Timestamp → TimestampView
timestamp_view (WholeSeconds i) = whole_seconds i
timestamp_view (FractionalSeconds x) = fractional_seconds (bits_of x)

abbrev pub timestamp_of : ℤ ⊎ Bits → TimestampView
timestamp_of (inl i) = whole_seconds i
timestamp_of (inr x) = fractional_seconds x

abbrev pub of_timestamp : TimestampView → ℤ ⊎ Bits
of_timestamp (whole_seconds i) = inl i
of_timestamp (fractional_seconds x) = inr x

-- int / float. The integer fits in 64 bits with a sign.
unfoldable pub timestamp : Shape TimestampView
timestamp = mapped timestamp_of of_timestamp (either is_integer int64 floating)

-- ---- the laws

timestamp-back : (x : TimestampView) → timestamp_of (of_timestamp x) ≡ x
timestamp-back (whole_seconds i) = refl
timestamp-back (fractional_seconds x) = refl

-- The image of an integer is an integer, and the image of a float isn't.
whole-told : (i : ℤ) (w : Item) → int64.image i ≡ Some w → is_integer w ≡ true
whole-told i w e = let h : integer i ≡ w = some-one refl e in ap is_integer (sym h)

float-told : (x : Bits) (w : Item) → floating.image x ≡ Some w → is_integer w ≡ false
float-told x w e = let h : float x ≡ w = some-one refl e in ap is_integer (sym h)

pub timestamp_laws : Lawful TimestampView timestamp
unfolding timestamp
timestamp_laws =
    mapped_laws timestamp_of of_timestamp timestamp-back _
    (either_laws is_integer int64 floating int64_laws floating_laws (λ v i w f d e. whole-told i w e) (λ v x w f d e. float-told x w e))

-- ---- equality

-- The same number of seconds, or the same width and bits.
abbrev pub timestamp_eq : TimestampView → TimestampView → Bool
timestamp_eq (whole_seconds i) (whole_seconds j) = int_eq i j
timestamp_eq (fractional_seconds x) (fractional_seconds y) = bits_eq x y
timestamp_eq a b = false

same-bits : (x y : Bits) → float x ≡ float y → x ≡ y
same-bits x y e = cc

eq-sound : (a b : TimestampView) → timestamp_eq a b ≡ true → a ≡ b
eq-sound (whole_seconds i) (whole_seconds j) h = ap whole_seconds ((signed_Decides i j).0 h)
eq-sound (fractional_seconds x) (fractional_seconds y) h = ap fractional_seconds (same-bits x y ((item_eq-decides (float x) (float y)).0 h))
eq-sound a b h = absurd (true≢false (sym h))

eq-itself : (a : TimestampView) → timestamp_eq a a ≡ true
eq-itself (whole_seconds i) = (signed_Decides i i).1 refl
eq-itself (fractional_seconds x) = (item_eq-decides (float x) (float x)).1 refl

-- The test returns `true` exactly if the two timestamps are equal.
pub timestamp_eq-decides : IsEquality timestamp_eq
timestamp_eq-decides a b = (eq-sound a b, λ e. subst (λ c. timestamp_eq a c ≡ true) e (eq-itself a))

pub timestamp_eq_equiv : IsEquivalence timestamp_eq
timestamp_eq_equiv = decided timestamp_eq timestamp_eq-decides
