-- Partly read keys, and sets whose elements were all read.
use Rattle.std.specs.Prelude.{◌≡◌, ◌⊎◌, List, [], None, false, map, option_map, Result, Ok, Err}
use Rattle.std.specs.Global.{Global}
use Rattle.std.specs.declared.cmp.Ordering.{Ordering}
use Rattle.std.specs.declared.collections.BTreeSet.{BTreeSet}
use Rattle.coset_value.specs.Item.{Items}
use Rattle.coset_iana.specs.declared.keys.KeyOperation.{KeyOperation}
use Rattle.coset_codec.specs.Errors.{IsUnexpected, UnlessMemory}
use Rattle.coset_codec.specs.Maps.{is_core}
use Rattle.coset_codec.specs.Sets.{IsSetOf, IsDistinctBy, Repeats}
use Rattle.coset_codec.specs.Shape.{Shape, Each, EachFaults}
use Rattle.coset_codec.specs.declared.error.CoseError.{CoseError}
use Rattle.coset_label.specs.Labels.{cose_labels}
use Rattle.coset_label.specs.LabelData.{LabelView}
use Rattle.coset_label.specs.declared.registered.RegisteredLabel.{RegisteredLabel}
use Rattle.coset_label.specs.Views.{algorithm_view, entry_view}
use Rattle.coset_key.specs.KeyLabels as labels
use Rattle.coset_key.specs.Keys.{Parts, fields, parts_of, HasKeyType, kty_view, operation_view, key_view}
use Rattle.coset_key.specs.declared.key.CoseKey.{CoseKey}
use Rattle.coset_key.specs.declared.key.Field.{Field}
use Rattle.coset_key.specs.declared.key.Field.TheVariants.{Kty, KeyId, Alg, KeyOps, BaseIv, Params}
use Rattle.coset_key.specs.declared.key.PartialKey.{PartialKey}

-- The parts that were read so far.
abbrev pub so_far_view : PartialKey → Parts
so_far_view s = (
  (option_map kty_view s.kty, (s.key_id.items, (option_map algorithm_view s.alg, (map operation_view s.key_ops.keys, (s.base_iv.items, tt))))),
  map entry_view s.params.items,
)

-- A pair with label `m` goes to this field.
abbrev pub GoesTo : LabelView → Field → Type 0
GoesTo m Kty = m ≡ labels.kty
GoesTo m KeyId = m ≡ labels.kid
GoesTo m Alg = m ≡ labels.alg
GoesTo m KeyOps = m ≡ labels.key_ops
GoesTo m BaseIv = m ≡ labels.base_iv
GoesTo m Params = is_core cose_labels fields.labels m ≡ false

-- The parts before any pair was read.
abbrev pub nothing : Parts
nothing = ((None, ([], (None, ([], ([], tt))))), [])

-- The result is the key of these parts, or an error if they have no key type or the reserved one.
abbrev pub IsFinished : Parts → Result CoseKey CoseError → Type 0
IsFinished p (Ok k) = HasKeyType p × (p ≡ parts_of (key_view k))
IsFinished p (Err e) = IsUnexpected e × (HasKeyType p → ⊥)

-- On success, all items of an array were read as a set, and no value occurs twice. Any error except `OutOfMemory` means
-- that an item is at fault or a value occurs twice.
abbrev pub ReadsSet : {T A : Type 0} → (A → A → Ordering) → Shape A → (T → List A) → Items → Result T CoseError → Type 0
ReadsSet {T} {A} cmp s view vs (Ok x) = (read : List A) × Each s.describes vs read × IsDistinctBy cmp read × IsSetOf cmp read (view x)
ReadsSet cmp s view vs (Err e) = UnlessMemory e (λ f. EachFaults s.faults vs f ⊎ (IsUnexpected f × Repeats s.describes vs))

-- The view of a set of key operations.
abbrev pub operations_view : BTreeSet (RegisteredLabel KeyOperation) Global → List LabelView
operations_view s = map operation_view s.keys
