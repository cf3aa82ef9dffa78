-- Keys whose params are in the order of their labels' encodings (RFC 8949, section 4.2.1; RFC 7049, section 3.9).
use Rattle.std.specs.Prelude.{◌≡◌, ◌≢◌, ◌≤◌, ◌↔◌, ℕ, pos, List, ◌∷◌, ◌++◌, Some, Result, Ok, Err, Bool, true, false, Contains}
use Rattle.std.specs.List.{AllByRecursion}
use Rattle.std.specs.List.Sorted.{IsPermutation, IsStrictlySortedBy}
use Rattle.std.specs.Map.{keys_of}
use Rattle.coset_value.specs.Item.{Item, Pairs, depth, dict}
use Rattle.coset_codec.specs.Maps.{AreLabelled, is_core}
use Rattle.coset_codec.specs.ReadAgain.{IsWritten, ReadsAgain}
use Rattle.coset_codec.specs.declared.error.CoseError.{CoseError}
use Rattle.coset_codec.specs.declared.error.CoseError.TheVariants.{OutOfMemory}
use Rattle.coset_label.specs.Labels.{label, cose_labels}
use Rattle.coset_label.specs.LabelData.{LabelView, number}
use Rattle.coset_label.specs.Orderings.{label_cmp_by}
use Rattle.coset_label.specs.Sorted.{AreInOrder}
use Rattle.coset_label.specs.declared.ordering.CborOrdering.{CborOrdering}
use Rattle.coset_key.specs.Keys.{KeyView, fields, key}

-- The key with these params, and otherwise unchanged.
abbrev pub with_params : List (LabelView × Item) → KeyView → KeyView
with_params ps k = record k { params = ps }

-- Two keys that agree except for the order of their params.
pub record AgreeButForOrder (k l : KeyView) : Type 0 where
  pub others : with_params l.params k ≡ l
  pub params : IsPermutation k.params l.params

-- The key `l` is `k` with its params in the order of their labels.
pub record IsCanonicalOf (o : CborOrdering) (k l : KeyView) : Type 0 where
  pub agree : AgreeButForOrder k l
  pub ordered : AreInOrder (label_cmp_by o) l.params

-- On success, `l` is `k` with its params in order. On error, an allocation failed and `l` is `k`.
abbrev pub Canonicalizes : {T : Type 0} → CborOrdering → KeyView → KeyView → Result T CoseError → Type 0
Canonicalizes o k l (Ok x) = IsCanonicalOf o k l
Canonicalizes o k l (Err e) = (e ≡ OutOfMemory) × (l ≡ k)

-- ---- the encodings of keys that were read

-- A key that was read can be written once its params are in order, and is read again as itself. The premise is that an
-- item of at most 256 levels describes the key that was read.
abbrev pub CanonicalReadsAgain : CborOrdering → Type 0
CanonicalReadsAgain o = (v : Item) (k x : KeyView) → key.describes v k → depth v ≤ 256 → IsCanonicalOf o k x → ReadsAgain key x

-- Two keys were read, and their params were put in order. Their encodings are equal bytes exactly if the keys agree
-- except for the order of their params.
abbrev pub CanonicalInjective : CborOrdering → Type 0
CanonicalInjective o =
    (v w : Item) (c d : List ℕ) (k l x y : KeyView) → key.describes v k → key.describes w l → IsCanonicalOf o k x → IsCanonicalOf o l y → IsWritten key x c
    → IsWritten key y d
    → (c ≡ d) ↔ AgreeButForOrder k l

-- The key `k` was read. With its params in order it is written as pairs with these labels and values.
pub record IsWrittenInOrder (o : CborOrdering) (k : KeyView) (es : List (LabelView × Item)) : Type 0 where
  pub source : Item
  pub read : key.describes source k
  pub canonical : KeyView
  pub is_canonical : IsCanonicalOf o k canonical
  pub pairs : Pairs
  pub is_image : key.image canonical ≡ Some (dict pairs)
  pub named : AreLabelled label.describes pairs es

-- No param has label 0.
abbrev pub HasNoZero : KeyView → Type 0
HasNoZero k = AllByRecursion (λ e. e.0 ≢ number (pos 0)) k.params

-- If no param has label 0, all labels are written in order.
abbrev pub LabelsAscend : CborOrdering → Type 0
LabelsAscend o = (k : KeyView) (es : List (LabelView × Item)) → IsWrittenInOrder o k es → HasNoZero k → IsStrictlySortedBy (label_cmp_by o) (keys_of es)

-- Returns true if the label is a field's, one of 1 to 5.
abbrev pub is_field : LabelView → Bool
is_field l = is_core cose_labels fields.labels l

-- Label 0 and its value stand after the fields and before all other params. The other labels are in order.
pub record StandsAfterFields (o : CborOrdering) (v : Item) (es : List (LabelView × Item)) : Type 0 where
  pub front : List (LabelView × Item)
  pub back : List (LabelView × Item)
  pub parts : es ≡ front ++ (number (pos 0), v) ∷ back
  pub fields : AllByRecursion (λ e. is_field e.0 ≡ true) front
  pub params : AllByRecursion (λ e. is_field e.0 ≡ false) back
  pub others : IsStrictlySortedBy (label_cmp_by o) (keys_of (front ++ back))

-- A param with label 0 is written after the fields, although its label is less than theirs.
abbrev pub ZeroAfterFields : CborOrdering → Type 0
ZeroAfterFields o = (k : KeyView) (es : List (LabelView × Item)) (v : Item) → IsWrittenInOrder o k es → Contains k.params (number (pos 0), v)
    → StandsAfterFields o v es
