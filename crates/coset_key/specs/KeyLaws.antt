-- The laws of keys' shapes.
use Rattle.std.proofs.Common.{List, [], refl, ap, rules}
use Rattle.std.specs.Prelude.{ℤ, true}
use Rattle.std.specs.Ordering.{is_eq}
use Rattle.std.proofs.lemmas.Map.Lookups.{CmpEqualImpliesEq}
use Rattle.coset_value.specs.Item.{Item, integer}
use Rattle.coset_codec.specs.Errors.{IsUnexpected}
use Rattle.coset_codec.specs.Maps.{unless_empty}
use Rattle.coset_codec.specs.MapLaws.{LawfulFieldShape, LawfulFields, Flat, field_laws, no_field_laws, optional_laws, unless_empty_laws, labelled_laws}
use Rattle.coset_codec.specs.SetLaws.{set_nonempty, set_of_laws}
use Rattle.coset_codec.specs.Shape.{nonempty_bstr}
use Rattle.coset_codec.specs.ShapeLaws.{Lawful, mapped_laws, such_that_laws, nonempty_bstr_laws, list_of_laws}
use Rattle.coset_label.specs.LabelLaws.{registered_laws, cose_labels_laws, algorithm_laws}
use Rattle.coset_label.specs.Labels.{label, algorithm, cose_labels}
use Rattle.coset_label.specs.NameOrder.{label_cmp_total, label_cmp-apart}
use Rattle.coset_label.specs.LabelData.{LabelView, number, label_cmp}
use Rattle.coset_key.specs.KeyLabels as labels
use Rattle.coset_key.specs.Keys.{KeyView, key_type, operation, key_ops, FieldTuple, fields, key_of, parts_of, HasKeyType, key, key_set}

-- ---- the fields' values

pub key_type_laws : Lawful LabelView key_type
unfolding key_type
key_type_laws = registered_laws _

pub operation_laws : Lawful LabelView operation
unfolding operation
operation_laws = registered_laws _

-- Labels that compare as equal are equal.
pub names_exact : CmpEqualImpliesEq label_cmp
names_exact a b h = (label_cmp-apart a b).0 (ap is_eq h)

pub key_ops_laws : Lawful (List LabelView) key_ops
unfolding key_ops
key_ops_laws = set_of_laws label_cmp label_cmp_total names_exact operation operation_laws

-- ---- the fields

flat_number : (i : ℤ) → label.describes (integer i) (number i) → Flat LabelView cose_labels (number i)
flat_number i d = record { key = integer i; is_image = refl; described = d; is_flat = refl }

filled_laws : LawfulFieldShape _ (unless_empty nonempty_bstr)
filled_laws = unless_empty_laws nonempty_bstr (λ v p. p.1 refl) nonempty_bstr_laws

-- No item describes an empty set.
never_empty : (v : Item) → key_ops.describes v [] → ⊥
unfolding key_ops
never_empty v p = set_nonempty p.0 [] p.1.0.1 p.2 refl

pub fields_laws : LawfulFields LabelView FieldTuple cose_labels fields
fields_laws =
    field_laws cose_labels cose_labels_laws labels.kty (flat_number _ (refl, (refl, search rules))) _ (optional_laws key_type key_type_laws) _
    (field_laws cose_labels cose_labels_laws labels.kid (flat_number _ (refl, (refl, search rules))) _ filled_laws _
    (field_laws cose_labels cose_labels_laws labels.alg (flat_number _ (refl, (refl, search rules))) _ (optional_laws algorithm algorithm_laws) _
    (field_laws cose_labels cose_labels_laws labels.key_ops (flat_number _ (refl, (refl, search rules))) _ (unless_empty_laws key_ops never_empty key_ops_laws)
    _
    (field_laws cose_labels cose_labels_laws labels.base_iv (flat_number _ (refl, (refl, search rules))) _ filled_laws _
    (no_field_laws cose_labels cose_labels_laws) refl)
    refl) refl) refl) refl

-- ---- keys

pub key_laws : Lawful KeyView key
unfolding key
key_laws = mapped_laws key_of parts_of (λ x. refl) _ (such_that_laws IsUnexpected HasKeyType _
    (labelled_laws cose_labels cose_labels_laws true fields fields_laws))

pub key_set_laws : Lawful (List KeyView) key_set
key_set_laws = list_of_laws key key_laws
