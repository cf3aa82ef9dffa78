-- The shapes of labels (RFC 8152, sections 1.4 and 16).
use Rattle.std.specs.Prelude.{◌≡◌, ◌⊎◌, ℕ, ℤ, List, Option, Some, None, Bool, true, false, is_some}
use Rattle.std.proofs.Common.{inl, inr}
use Rattle.coset_value.specs.Item.{Item}
use Rattle.coset_value.specs.Parts.{as_integer}
use Rattle.coset_iana.specs.Algorithm as algorithms
use Rattle.coset_iana.specs.Registry.{first_numbered}
use Rattle.coset_iana.specs.WithPrivateRange.{is_private_use}
use Rattle.coset_iana.specs.declared.algorithms.TheConstants.{ALGORITHMS}
use Rattle.coset_codec.specs.declared.error.CoseError.{CoseError}
use Rattle.coset_codec.specs.declared.error.CoseError.TheVariants as errors
use Rattle.coset_codec.specs.Maps.{MapLabels}
use Rattle.coset_codec.specs.Shape.{Shape, mapped, either, such_that, int64, tstr}
use Rattle.coset_label.specs.LabelData.{LabelView, number, text_label, RegisteredLabelView, assigned, private_use, text_name, same_label}

abbrev pub is_integer : Item → Bool
is_integer v = is_some (as_integer v)

abbrev pub label_of_sum : ℤ ⊎ List ℕ → LabelView
label_of_sum (inl i) = number i
label_of_sum (inr s) = text_label s

abbrev pub sum_of_label : LabelView → ℤ ⊎ List ℕ
sum_of_label (number i) = inl i
sum_of_label (text_label s) = inr s

-- A label: int / tstr
abbrev pub label : Shape LabelView
label = mapped label_of_sum sum_of_label (either is_integer int64 tstr)

-- The labels of a map, compared as numbers and texts.
abbrev pub cose_labels : MapLabels LabelView
cose_labels = record { shape = label; same = same_label }

abbrev pub IsUnregistered : CoseError → Type 0
IsUnregistered e = e ≡ errors.UnregisteredIanaValue

abbrev pub IsNotPrivate : CoseError → Type 0
IsNotPrivate e = e ≡ errors.UnregisteredIanaNonPrivateValue

-- A number that the registry assigns, or a text. `known i` is true if i is such a number.
abbrev pub registered : (ℤ → Bool) → Shape LabelView
registered known = mapped label_of_sum sum_of_label (either is_integer (such_that IsUnregistered (λ i. known i ≡ true) int64) tstr)

abbrev pub is_some_known : (ℤ → Bool) → Option ℤ → Bool
is_some_known known (Some i) = known i
is_some_known known None = false

abbrev pub is_known : (ℤ → Bool) → Item → Bool
is_known known v = is_some_known known (as_integer v)

abbrev pub registered_of_sum : (ℤ ⊎ ℤ) ⊎ List ℕ → RegisteredLabelView
registered_of_sum (inl (inl i)) = assigned i
registered_of_sum (inl (inr i)) = private_use i
registered_of_sum (inr s) = text_name s

abbrev pub sum_of_registered : RegisteredLabelView → (ℤ ⊎ ℤ) ⊎ List ℕ
sum_of_registered (assigned i) = inl (inl i)
sum_of_registered (private_use i) = inl (inr i)
sum_of_registered (text_name s) = inr s

-- A number that the registry assigns, else a number in its private-use range, or a text.
abbrev pub registered_or_private : (ℤ → Bool) → (ℤ → Bool) → Shape RegisteredLabelView
registered_or_private known private =
    mapped registered_of_sum sum_of_registered (either is_integer (either (is_known known) int64 (such_that IsNotPrivate (λ i. private i ≡ true) int64)) tstr)

-- The labels of a registry. `value_of` returns the registry's value for a number, if there is one.
abbrev pub registered_in : {T : Type 0} → (ℤ → Option T) → Shape LabelView
registered_in value_of = registered (λ i. is_some (value_of i))

-- The labels of a registry with a private-use range. `value_of` returns the assigned value for a number, if there is
-- one. `private i` is true if i is in the range.
abbrev pub registered_or_private_in : {T : Type 0} → (ℤ → Option T) → (ℤ → Bool) → Shape RegisteredLabelView
registered_or_private_in value_of private = registered_or_private (λ i. is_some (value_of i)) private

-- An algorithm: a number that IANA assigned, else a private-use number, or a text.
unfoldable pub algorithm : Shape RegisteredLabelView
algorithm = registered_or_private (λ i. is_some (first_numbered algorithms.number ALGORITHMS i)) is_private_use
