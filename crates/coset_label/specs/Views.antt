-- The views of labels, and the text that `Display` writes for them.
use Rattle.std.specs.Prelude.{ℕ, ℤ, List, Option, Some, string_bytes}
use Rattle.std.specs.Fmt.{debug_str, signed_decimal}
use Rattle.coset_value.specs.Item.{Item}
use Rattle.coset_value.specs.View.{value_item}
use Rattle.coset_value.specs.declared.value.Value.{Value}
use Rattle.coset_iana.specs.Algorithm as algorithms
use Rattle.coset_iana.specs.declared.algorithms.Algorithm.{Algorithm}
use Rattle.coset_label.specs.LabelData.{LabelView, number, text_label, RegisteredLabelView, assigned, private_use, text_name}
use Rattle.coset_label.specs.declared.label.Label.{Label}
use Rattle.coset_label.specs.declared.label.Label.TheVariants.{Int, Text}
use Rattle.coset_label.specs.declared.registered.RegisteredLabel.{RegisteredLabel}
use Rattle.coset_label.specs.declared.registered.RegisteredLabel.TheVariants as registered
use Rattle.coset_label.specs.declared.registered.RegisteredLabelWithPrivate.{RegisteredLabelWithPrivate}
use Rattle.coset_label.specs.declared.registered.RegisteredLabelWithPrivate.TheVariants as with_private

abbrev pub label_view : Label → LabelView
label_view (Int i) = number i
label_view (Text s) = text_label (string_bytes s)

-- The view of a registry's value is its number.
abbrev pub registered_view : {T : Type 0} → (T → ℤ) → RegisteredLabel T → LabelView
registered_view number_of (registered.Assigned x) = number (number_of x)
registered_view number_of (registered.Text s) = text_label (string_bytes s)

abbrev pub registered_or_private_view : {T : Type 0} → (T → ℤ) → RegisteredLabelWithPrivate T → RegisteredLabelView
registered_or_private_view number_of (with_private.PrivateUse i) = private_use i
registered_or_private_view number_of (with_private.Assigned x) = assigned (number_of x)
registered_or_private_view number_of (with_private.Text s) = text_name (string_bytes s)

abbrev pub algorithm_view : RegisteredLabelWithPrivate Algorithm → RegisteredLabelView
algorithm_view = registered_or_private_view algorithms.number

-- The view of a map entry: a label and its value.
abbrev pub entry_view : Label × Value → LabelView × Item
entry_view e = (label_view e.0, value_item e.1)

-- The bytes that `{}` writes for a label: a number in decimal, or a text as `{:?}` writes it, in double quotes. `None`
-- if the text has characters beyond ASCII: std doesn't define the output for these.
abbrev pub label_output : Label → Option (List ℕ)
label_output (Int i) = Some (signed_decimal i)
label_output (Text s) = debug_str (string_bytes s)

-- `value_output` gives the output of a registry's value.
abbrev pub registered_output : {T : Type 0} → (T → Option (List ℕ)) → RegisteredLabel T → Option (List ℕ)
registered_output value_output (registered.Assigned x) = value_output x
registered_output value_output (registered.Text s) = debug_str (string_bytes s)

abbrev pub registered_or_private_output : {T : Type 0} → (T → Option (List ℕ)) → RegisteredLabelWithPrivate T → Option (List ℕ)
registered_or_private_output value_output (with_private.PrivateUse i) = Some (signed_decimal i)
registered_or_private_output value_output (with_private.Assigned x) = value_output x
registered_or_private_output value_output (with_private.Text s) = debug_str (string_bytes s)
