-- Reading a header and its signatures forward: the state so far, and the result when reading stops.
use Rattle.std.specs.Prelude.{◌≡◌, ◌⊎◌, ℕ, List, map, Bool, true, false, Option, Some, None, Result, Ok, Err}
use Rattle.std.specs.Map.{keys_of}
use Rattle.coset_value.specs.Item.{Item, array, dict, Items, no_items, item, Pairs, no_pairs, pair}
use Rattle.coset_value.specs.Parts.{as_bytes}
use Rattle.coset_codec.specs.declared.error.CoseError.{CoseError}
use Rattle.coset_codec.specs.declared.read.decoder.ArrayElements.{ArrayElements}
use Rattle.coset_codec.specs.declared.read.decoder.MapEntries.{MapEntries}
use Rattle.coset_codec.specs.Errors.{UnlessMemory}
use Rattle.coset_codec.specs.Inputs.{State, ItemAt, AreWithin, PairsWithin}
use Rattle.coset_codec.specs.Maps.{Walks, RefusesKey, ExcludesKey, VisitorFaults, are_distinct, is_core, optional}
use Rattle.coset_codec.specs.Shape.{any}
use Rattle.coset_label.specs.Labels.{label, cose_labels}
use Rattle.coset_label.specs.LabelData.{LabelView, same_label}
use Rattle.coset_core.specs.FieldLabels as labels
use Rattle.coset_core.specs.Fields.{FieldsView, PerVersion, FieldTuple, fields, parts_of, excludes}
use Rattle.coset_core.specs.FieldViews.{counter_signature_list, countersignature_v2_list, fields_view}
use Rattle.coset_core.specs.Headers.{SignatureView, layered_protected, layered_signature}
use Rattle.coset_core.specs.Views.{countersignature_view, signature_view}
use Rattle.coset_core.specs.declared.header.Header.{Header}
use Rattle.coset_core.specs.declared.header.reading.Field.{Field}
use Rattle.coset_core.specs.declared.header.reading.Field.TheVariants.{Alg, Crit, ContentType, KeyId, Iv, PartialIv, Countersignature0V2, Rest}
use Rattle.coset_core.specs.declared.header.reading.Place.{Place}
use Rattle.coset_core.specs.declared.header.reading.Place.TheVariants.{Simple, Signatures}
use Rattle.coset_core.specs.declared.header.reading.CountersignatureVersion.{CountersignatureVersion}
use Rattle.coset_core.specs.declared.header.reading.CountersignatureVersion.TheVariants.{V1, V2}

-- ---- a header's pairs

-- The label of a version of counter signatures.
abbrev pub label_of : CountersignatureVersion → LabelView
label_of V1 = labels.counter_signature
label_of V2 = labels.countersignature_v2

abbrev pub at_version : {A : Type 0} → CountersignatureVersion → PerVersion A → A
at_version V1 x = x.0
at_version V2 x = x.1

abbrev pub with_version : {A : Type 0} → CountersignatureVersion → A → PerVersion A → PerVersion A
with_version V1 a x = (a, x.1)
with_version V2 a x = (x.0, a)

-- A pair with the label m goes to this field.
abbrev pub GoesTo : LabelView → Field → Type 0
GoesTo m Alg = m ≡ labels.alg
GoesTo m Crit = m ≡ labels.crit
GoesTo m ContentType = m ≡ labels.content_type
GoesTo m KeyId = m ≡ labels.kid
GoesTo m Iv = m ≡ labels.iv
GoesTo m PartialIv = m ≡ labels.partial_iv
GoesTo m Countersignature0V2 = m ≡ labels.countersignature0_v2
GoesTo m Rest = is_core cose_labels (fields (optional any) (optional any)).labels m ≡ false

-- A pair with the label m has this place.
abbrev pub HasPlace : LabelView → Place → Type 0
HasPlace m (Simple field) = GoesTo m field
HasPlace m (Signatures version) = m ≡ label_of version

-- The pairs of a map before ps make the fields f, and o are their values of labels 7 and 11.
abbrev pub WalksTo : Pairs → FieldsView → PerVersion (Option Item) → Pairs → Type 0
WalksTo all f o ps = Walks LabelView (FieldTuple (Option Item)) cose_labels (fields (optional any) (optional any)) all (parts_of (f, o)) ps

-- The input t is at the value of a pair with counter signatures of this version.
pub record AtCounterSignatures (version : CountersignatureVersion) (all : Pairs) (o : PerVersion (Option Item)) (f : FieldsView) (t z : State) (m : MapEntries)
    : Type 0 where
  pub key : Item
  pub value : Item
  pub others : Pairs
  pub mid : State
  pub walks : WalksTo all f o (pair key value others)
  pub is_label : label.describes key (label_of version)
  pub stands : ItemAt value t mid
  pub within : PairsWithin m others mid z

-- All pairs were read.
pub record AtEnd (all : Pairs) (o : PerVersion (Option Item)) (f : FieldsView) (t z : State) (m : MapEntries) : Type 0 where
  pub walks : WalksTo all f o no_pairs
  pub within : PairsWithin m no_pairs t z

-- A pair has a fault and was skipped.
pub record AtFault (all : Pairs) (o : PerVersion (Option Item)) (f : FieldsView) (t z : State) (m : MapEntries) (e : CoseError) : Type 0 where
  pub key : Item
  pub value : Item
  pub others : Pairs
  pub walks : WalksTo all f o (pair key value others)
  pub within : PairsWithin m others t z
  pub faulty : UnlessMemory e (λ g. RefusesKey cose_labels (fields (optional any) (optional any)) key value (parts_of (f, o)) g
      ⊎ ExcludesKey cose_labels excludes key (parts_of (f, o)) g)

-- The result of reading pairs one after the other, until reading stops.
abbrev pub FillsSome : Pairs → PerVersion (Option Item) → State → FieldsView → State → MapEntries → Result (Option CountersignatureVersion) CoseError → Type 0
FillsSome all o z f t m (Ok (Some version)) = AtCounterSignatures version all o f t z m
FillsSome all o z f t m (Ok None) = AtEnd all o f t z m
FillsSome all o z f t m (Err e) = AtFault all o f t z m e

-- No label of the rest repeats.
abbrev pub IsDistinctRest : FieldsView → Type 0
IsDistinctRest f = are_distinct same_label (keys_of f.rest) ≡ true

-- The same, but labels of the rest that repeat are a fault.
abbrev pub FillsFields : Pairs → PerVersion (Option Item) → State → FieldsView → State → MapEntries → Result (Option CountersignatureVersion) CoseError → Type 0
FillsFields all o z f t m (Ok (Some version)) = AtCounterSignatures version all o f t z m × IsDistinctRest f
FillsFields all o z f t m (Ok None) = AtEnd all o f t z m × IsDistinctRest f
FillsFields all o z f t m (Err e) = (left : Pairs) × PairsWithin m left t z
    × UnlessMemory e (VisitorFaults cose_labels (fields (optional any) (optional any)) excludes (dict all))

-- ---- signatures

-- A header's counter signatures of both versions.
abbrev pub signature_views : Header → PerVersion (List SignatureView)
signature_views h = (map signature_view (counter_signature_list h), map countersignature_view (countersignature_v2_list h))

abbrev pub signatures_of_version : CountersignatureVersion → Header → List SignatureView
signatures_of_version version h = at_version version (signature_views h)

-- The header has these counter signatures of this version, and is otherwise unchanged.
pub record Keeps (version : CountersignatureVersion) (xs : List SignatureView) (old new : Header) : Type 0 where
  pub fields : fields_view new ≡ fields_view old
  pub signatures : signature_views new ≡ with_version version xs (signature_views old)

-- ---- a signature's elements

abbrev pub FirstPlace : Item → Option (List ℕ) → CoseError → Bool → Type 0
FirstPlace w o f true = (b : List ℕ) × (as_bytes w ≡ Some b) × (o ≡ Some b)
FirstPlace w o f false = (k : ℕ) → UnlessMemory f ((layered_protected k).faults w)

-- The input t is at the second element. The first element is a byte string with the bytes o, or reading it failed with
-- the error f. Otherwise the error e is a fault of the signature's array, or `OutOfMemory`.
abbrev pub BeginsElements : Items → State → State → ArrayElements → Option (List ℕ) → CoseError → Result Bool CoseError → Type 0
BeginsElements vs t z m o f (Ok is) =
    (w : Item) × (u : Item) × (others : Items) × (mid : State) × (vs ≡ item w (item u others)) × ItemAt u t mid × AreWithin m others mid z × FirstPlace w o f is
BeginsElements vs t z m o f (Err e) = (left : Items) × AreWithin m left t z × ((k : ℕ) → UnlessMemory e ((layered_signature k).faults (array vs)))

-- The third element is the last, and is a byte string with the bytes b. Otherwise the element is no byte string, the
-- number of elements is wrong, or an allocation failed.
abbrev pub EndsElements : Items → State → State → ArrayElements → List ℕ → Result (Unit {0}) CoseError → Type 0
EndsElements vs t z m b (Ok x) = (w : Item) × (vs ≡ item w no_items) × (as_bytes w ≡ Some b) × AreWithin m no_items t z
EndsElements vs t z m b (Err e) = (left : Items) × AreWithin m left t z
    × ((p u : Item) (k : ℕ) → UnlessMemory e ((layered_signature k).faults (array (item p (item u vs)))))
