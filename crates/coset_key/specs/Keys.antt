-- Keys and sets of keys, and the items that describe them (RFC 8152, section 7).
use Rattle.std.specs.Prelude.{◌≢◌, ℕ, List, [], Option, Some, None, map, option_map, unwrap_or, is_some}
use Rattle.coset_value.specs.Item.{Item}
use Rattle.coset_iana.specs.KeyOperation as operations
use Rattle.coset_iana.specs.KeyType as kinds
use Rattle.coset_iana.specs.Registry.{first_numbered}
use Rattle.coset_iana.specs.declared.keys.KeyOperation as declared_operations
use Rattle.coset_iana.specs.declared.keys.KeyType as declared_kinds
use Rattle.coset_iana.specs.declared.keys.KeyType.TheVariants.{Reserved}
use Rattle.coset_iana.specs.declared.keys.TheConstants.{KEY_TYPES, KEY_OPERATIONS}
use Rattle.coset_codec.specs.Errors.{IsUnexpected}
use Rattle.coset_codec.specs.Maps.{Fields, field, no_field, optional, unless_empty, labelled}
use Rattle.coset_codec.specs.Sets.{set_of}
use Rattle.coset_codec.specs.Shape.{Shape, mapped, such_that, nonempty_bstr, list_of}
use Rattle.coset_label.specs.Labels.{registered, algorithm, cose_labels}
use Rattle.coset_label.specs.LabelData.{LabelView, number, RegisteredLabelView, label_cmp}
use Rattle.coset_label.specs.Views.{registered_view, algorithm_view, entry_view}
use Rattle.coset_label.specs.declared.registered.RegisteredLabel.{RegisteredLabel}
use Rattle.coset_key.specs.KeyLabels as labels
use Rattle.coset_key.specs.declared.key.CoseKey.{CoseKey}
use Rattle.coset_key.specs.declared.key_set.CoseKeySet.{CoseKeySet}

-- The view of a key. `key_ops` are in the order of their encodings, without repeats.
pub record KeyView : Type 0 where
  pub kty : LabelView
  pub key_id : List ℕ
  pub alg : Option RegisteredLabelView
  pub key_ops : List LabelView
  pub base_iv : List ℕ
  pub params : List (LabelView × Item)

abbrev pub kty_view : RegisteredLabel declared_kinds.KeyType → LabelView
kty_view = registered_view kinds.number

abbrev pub operation_view : RegisteredLabel declared_operations.KeyOperation → LabelView
operation_view = registered_view operations.number

abbrev pub key_view : CoseKey → KeyView
key_view k = record {
  kty = kty_view k.kty;
  key_id = k.key_id.items;
  alg = option_map algorithm_view k.alg;
  key_ops = map operation_view k.key_ops.keys;
  base_iv = k.base_iv.items;
  params = map entry_view k.params.items;
}

abbrev pub key_set_view : CoseKeySet → List KeyView
key_set_view s = map key_view s.0.items

-- The reserved key type, which a key that is read must not have.
abbrev pub reserved : LabelView
reserved = number (kinds.number Reserved)

-- A key of the reserved type without any other field or param.
abbrev pub empty_key : KeyView
empty_key = record { kty = reserved; key_id = []; alg = None; key_ops = []; base_iv = []; params = [] }

-- ---- the fields' values

-- A key type: a number that IANA assigned, or a text.
unfoldable pub key_type : Shape LabelView
key_type = registered (λ i. is_some (first_numbered kinds.number KEY_TYPES i))

-- A key operation: a number of RFC 8152, section 7.1, table 4, or a text.
unfoldable pub operation : Shape LabelView
operation = registered (λ i. is_some (first_numbered operations.number KEY_OPERATIONS i))

-- [+ operation] without repeats: a set, which is written in the order of the operations' encodings.
unfoldable pub key_ops : Shape (List LabelView)
key_ops = set_of label_cmp operation

-- ---- keys

-- The fields by label.
abbrev pub FieldTuple : Type 0
FieldTuple = Option LabelView × (List ℕ × (Option RegisteredLabelView × (List LabelView × (List ℕ × Unit {0}))))

-- The labels 1 to 5 (RFC 8152, section 7.1). Each of them may be missing.
abbrev pub fields : Fields LabelView FieldTuple
fields =
    field cose_labels labels.kty (optional key_type)
    (field cose_labels labels.kid (unless_empty nonempty_bstr)
    (field cose_labels labels.alg (optional algorithm)
    (field cose_labels labels.key_ops (unless_empty key_ops)
    (field cose_labels labels.base_iv (unless_empty nonempty_bstr)
    no_field))))

-- The fields by label, and all other pairs.
abbrev pub Parts : Type 0
Parts = FieldTuple × List (LabelView × Item)

abbrev pub key_of : Parts → KeyView
key_of p = record { kty = unwrap_or p.0.0 reserved; key_id = p.0.1.0; alg = p.0.1.1.0; key_ops = p.0.1.1.1.0; base_iv = p.0.1.1.1.1.0; params = p.1 }

abbrev pub parts_of : KeyView → Parts
parts_of k = ((Some k.kty, (k.key_id, (k.alg, (k.key_ops, (k.base_iv, tt))))), k.params)

-- There is a key type, and it isn't the reserved one.
abbrev pub HasKeyType : Parts → Type 0
HasKeyType p = (p.0.0 ≢ None) × (p.0.0 ≢ Some reserved)

-- {1 => key_type, ? 2 => bstr .size (1..), ? 3 => algorithm, ? 4 => key_ops, ? 5 => bstr .size (1..), * label => any}
unfoldable pub key : Shape KeyView
key = mapped key_of parts_of (such_that IsUnexpected HasKeyType (labelled cose_labels fields))

-- [* key]
abbrev pub key_set : Shape (List KeyView)
key_set = list_of key
