-- Maps whose keys are labels, all different. Some labels have a field each. All other pairs are the rest, which keeps
-- its order (RFC 8152, sections 1.4 and 3).
use Rattle.std.specs.Prelude.{◌≡◌, ◌⊎◌, ◌&&◌, List, [], ◌∷◌, ◌++◌, Option, Some, None, Bool, true, false, not, filter, option_map, is_some, ⊤}
use Rattle.std.specs.List.{IsDistinct, list_any, list_all}
use Rattle.std.specs.Map.{keys_of, lookup}
use Rattle.coset_value.specs.Item.{Item, dict, Pairs, no_pairs, pair}
use Rattle.coset_value.specs.Parts.{as_map}
use Rattle.coset_codec.specs.declared.error.CoseError.{CoseError}
use Rattle.coset_codec.specs.declared.error.CoseError.TheVariants as errors
use Rattle.coset_codec.specs.Errors.{IsUnexpected}
use Rattle.coset_codec.specs.Shape.{Shape, both, present}

-- Which keys are labels, and a test whether two labels are the same.
pub record MapLabels (N : Type 0) : Type 1 where
  pub shape : Shape N
  pub same : N → N → Bool

-- ---- the pairs by label

-- The pairs, each with the label of its key.
abbrev pub AreLabelled : {N : Type 0} → (Item → N → Type 0) → Pairs → List (N × Item) → Type 0
AreLabelled r no_pairs [] = ⊤
AreLabelled r no_pairs (e ∷ es) = ⊥
AreLabelled r (pair k v ps) [] = ⊥
AreLabelled r (pair k v ps) (e ∷ es) = r k e.0 × (v ≡ e.1) × AreLabelled r ps es

-- The pairs that labels and values are written as, if each label has an item.
abbrev pub labelled_image : {N : Type 0} → (N → Option Item) → List (N × Item) → Option Pairs
labelled_image f [] = Some no_pairs
labelled_image f (e ∷ es) = both (λ k ps. pair k e.1 ps) (f e.0) (labelled_image f es)

-- One of the pairs has a key with the label l.
abbrev pub HasLabel : {N : Type 0} → (Item → N → Type 0) → N → Pairs → Type 0
HasLabel r l no_pairs = ⊥
HasLabel r l (pair k v ps) = r k l ⊎ HasLabel r l ps

-- Two keys have the same label.
abbrev pub RepeatsLabel : {N : Type 0} → (Item → N → Type 0) → Pairs → Type 0
RepeatsLabel r no_pairs = ⊥
RepeatsLabel {N} r (pair k v ps) = ((l : N) × r k l × HasLabel r l ps) ⊎ RepeatsLabel r ps

-- P holds of one of the pairs.
abbrev pub SomePair : (Item → Item → Type 0) → Pairs → Type 0
SomePair P no_pairs = ⊥
SomePair P (pair k v ps) = P k v ⊎ SomePair P ps

-- ---- fields

-- The shape of a field: which values its item, or the absence of an item, represents.
pub record FieldShape (A : Type 0) : Type 1 where
  pub describes : Option Item → A → Type 0
  pub image : A → Option (Option Item)
  pub faults : Item → CoseError → Type 0

abbrev pub FieldShapeDescribes : {A : Type 0} → A → (Item → A → Type 0) → Option Item → A → Type 0
FieldShapeDescribes absent r (Some v) x = r v x
FieldShapeDescribes absent r None x = x ≡ absent

-- The item that a field is written as if it is present, and nothing if it is absent.
abbrev pub field_shape_image : Bool → Option Item → Option (Option Item)
field_shape_image true o = option_map Some o
field_shape_image false o = Some None

-- If there is no item, x is `absent`. `shows x` says whether x is written.
abbrev pub field_shape : {A : Type 0} → A → (A → Bool) → Shape A → FieldShape A
field_shape absent shows s = record {
  describes = FieldShapeDescribes absent s.describes;
  image = λ x. field_shape_image (shows x) (s.image x);
  faults = s.faults;
}

-- A value that may be left out.
abbrev pub optional : {A : Type 0} → Shape A → FieldShape (Option A)
optional s = field_shape None is_some (present s)

abbrev pub is_nonempty : {A : Type 0} → List A → Bool
is_nonempty [] = false
is_nonempty (x ∷ xs) = true

-- A list that is left out if and only if it is empty.
abbrev pub unless_empty : {A : Type 0} → Shape (List A) → FieldShape (List A)
unless_empty s = field_shape [] is_nonempty s

-- x says that there is no value yet, and the item v represents y.
abbrev pub TakesValue : {A : Type 0} → FieldShape A → Item → A → A → Type 0
TakesValue h v x y = h.describes None x × h.describes (Some v) y

-- x says that there is a value already, or the error names a fault in v.
abbrev pub RefusesValue : {A : Type 0} → FieldShape A → Item → A → CoseError → Type 0
RefusesValue h v x e = ((h.describes None x → ⊥) × (e ≡ errors.DuplicateMapKey)) ⊎ h.faults v e

-- P if the test is true, else Q.
abbrev pub IfThenElse : Bool → Type 0 → Type 0 → Type 0
IfThenElse true P Q = P
IfThenElse false P Q = Q

-- Some fields, in the order in which they are written. The last three are about a pair with label m and value v.
-- `takes m v x y`: the pair turns x into y. `repeats m x`: x has the field of label m already. `faults m v e`: the
-- error e names a fault in v.
pub record Fields (N A : Type 0) : Type 1 where
  pub labels : List N
  pub describes : List (N × Item) → A → Type 0
  pub image : A → Option (List (N × Item))
  pub takes : N → Item → A → A → Type 0
  pub repeats : N → A → Type 0
  pub faults : N → Item → CoseError → Type 0

abbrev pub no_field : {N : Type 0} → Fields N (Unit {0})
no_field = record {
  labels = [];
  describes = λ es x. ⊤;
  image = λ x. Some [];
  takes = λ m v x y. ⊥;
  repeats = λ m x. ⊥;
  faults = λ m v e. ⊥;
}

abbrev pub put_field : {N : Type 0} → N → Option Item → List (N × Item) → List (N × Item)
put_field l (Some v) es = (l, v) ∷ es
put_field l None es = es

-- ? l => h, and then the others
abbrev pub field : {N A B : Type 0} → MapLabels N → N → FieldShape A → Fields N B → Fields N (A × B)
field n l h fs = record {
  labels = l ∷ fs.labels;
  describes = λ es x. h.describes (lookup (n.same l) es) x.0 × fs.describes es x.1;
  image = λ x. both (put_field l) (h.image x.0) (fs.image x.1);
  takes = λ m v x y. IfThenElse (n.same l m) (h.describes None x.0 × h.describes (Some v) y.0 × (x.1 ≡ y.1)) ((x.0 ≡ y.0) × fs.takes m v x.1 y.1);
  repeats = λ m x. IfThenElse (n.same l m) (h.describes None x.0 → ⊥) (fs.repeats m x.1);
  faults = λ m v e. IfThenElse (n.same l m) (h.faults v e) (fs.faults m v e);
}

-- ---- maps

-- The label l has a field.
abbrev pub is_core : {N : Type 0} → MapLabels N → List N → N → Bool
is_core n labels l = list_any (n.same l) labels

-- The pairs whose labels have no field.
abbrev pub rest_of : {N : Type 0} → MapLabels N → List N → List (N × Item) → List (N × Item)
rest_of n labels es = filter (λ e. not (is_core n labels e.0)) es

-- No two labels are the same by that test.
abbrev pub are_distinct : {N : Type 0} → (N → N → Bool) → List N → Bool
are_distinct same [] = true
are_distinct same (l ∷ ls) = list_all (λ m. not (same l m)) ls && are_distinct same ls

-- Each key has a label, and no two labels are the same. x is the fields and the rest.
pub record Entries (N A : Type 0) (n : MapLabels N) (fs : Fields N A) (ps : Pairs) (x : A × List (N × Item)) : Type 0 where
  pub entries : List (N × Item)
  pub named : AreLabelled n.shape.describes ps entries
  pub distinct : IsDistinct n.same (keys_of entries)
  pub fields : fs.describes entries x.0
  pub rest : x.1 ≡ rest_of n fs.labels entries

-- The error names a fault in a key, or in the value of a field.
abbrev pub PairFaults : {N A : Type 0} → MapLabels N → Fields N A → CoseError → Item → Item → Type 0
PairFaults {N} n fs e k v = n.shape.faults k e ⊎ ((m : N) × n.shape.describes k m × fs.faults m v e)

abbrev pub MapFaults : {N A : Type 0} → MapLabels N → Fields N A → Pairs → CoseError → Type 0
MapFaults n fs ps e = SomePair (PairFaults n fs e) ps ⊎ (RepeatsLabel n.shape.describes ps × (e ≡ errors.DuplicateMapKey))

abbrev pub entries_image : {N : Type 0} → MapLabels N → Bool → List (N × Item) → Option (List (N × Item)) → Option Item
entries_image n true rest (Some es) = option_map dict (labelled_image n.shape.image (es ++ rest))
entries_image n true rest None = None
entries_image n false rest o = None

-- True if the rest may be written. If `checks` is true, no two labels of the rest may be the same.
abbrev pub may_write : {N : Type 0} → MapLabels N → Bool → List (N × Item) → Bool
may_write n true rest = are_distinct n.same (keys_of rest)
may_write n false rest = true

abbrev pub labelled_by : {N A : Type 0} → Bool → MapLabels N → Fields N A → Shape (A × List (N × Item))
labelled_by {N} {A} checks n fs = record {
  describes = λ v x. (ps : Pairs) × (as_map v ≡ Some ps) × Entries N A n fs ps x;
  image = λ x. entries_image n (may_write n checks x.1) x.1 (fs.image x.0);
  faults = λ v e. ((as_map v ≡ None) × IsUnexpected e) ⊎ ((ps : Pairs) × (as_map v ≡ Some ps) × MapFaults n fs ps e);
}

-- {fields, * label => any}, written only if no label of the rest occurs twice
abbrev pub labelled : {N A : Type 0} → MapLabels N → Fields N A → Shape (A × List (N × Item))
labelled n fs = labelled_by true n fs

-- {fields, * label => any}, written whatever labels the rest has
abbrev pub labelled_freely : {N A : Type 0} → MapLabels N → Fields N A → Shape (A × List (N × Item))
labelled_freely n fs = labelled_by false n fs

-- ---- pair by pair

-- The pairs, with one more at the end.
abbrev pub with_pair : Pairs → Item → Item → Pairs
with_pair no_pairs k v = pair k v no_pairs
with_pair (pair j w ps) k v = pair j w (with_pair ps k v)

-- Some pairs, followed by others.
abbrev pub and_pairs : Pairs → Pairs → Pairs
and_pairs no_pairs qs = qs
and_pairs (pair k v ps) qs = pair k v (and_pairs ps qs)

-- The value that the pairs read so far make, before a check for repeated labels in the rest.
pub record SoFar (N A : Type 0) (n : MapLabels N) (fs : Fields N A) (ps : Pairs) (x : A × List (N × Item)) : Type 0 where
  pub entries : List (N × Item)
  pub named : AreLabelled n.shape.describes ps entries
  pub once : IsDistinct n.same (keys_of (filter (λ e. is_core n fs.labels e.0) entries))
  pub fields : fs.describes entries x.0
  pub rest : x.1 ≡ rest_of n fs.labels entries

-- A pair with label m and value v turns x into y.
abbrev pub Adds : {N A : Type 0} → MapLabels N → Fields N A → N → Item → A × List (N × Item) → A × List (N × Item) → Type 0
Adds n fs m v x y = IfThenElse (is_core n fs.labels m) (fs.takes m v x.0 y.0 × (y.1 ≡ x.1)) ((x.0 ≡ y.0) × (y.1 ≡ x.1 ++ (m, v) ∷ []))

-- The error says why x refuses a pair with label m and value v.
abbrev pub Refuses : {N A : Type 0} → MapLabels N → Fields N A → N → Item → A × List (N × Item) → CoseError → Type 0
Refuses n fs m v x e = IfThenElse (is_core n fs.labels m) ((fs.repeats m x.0 × (e ≡ errors.DuplicateMapKey)) ⊎ fs.faults m v e) ⊥

-- Some of the pairs were read and make x, and the pairs left are still to be read.
pub record Walks (N A : Type 0) (n : MapLabels N) (fs : Fields N A) (all : Pairs) (x : A × List (N × Item)) (left : Pairs) : Type 0 where
  pub done : Pairs
  pub parts : all ≡ and_pairs done left
  pub so_far : SoFar N A n fs done x

-- The pair of this key and value turns x into y.
abbrev pub TakesKey : {N A : Type 0} → MapLabels N → Fields N A → Item → Item → A × List (N × Item) → A × List (N × Item) → Type 0
TakesKey {N} n fs k v x y = (m : N) × n.shape.describes k m × Adds n fs m v x y

-- The error says why x refuses the pair of this key and value.
abbrev pub RefusesKey : {N A : Type 0} → MapLabels N → Fields N A → Item → Item → A × List (N × Item) → CoseError → Type 0
RefusesKey {N} n fs k v x e = n.shape.faults k e ⊎ ((m : N) × n.shape.describes k m × Refuses n fs m v x e)

-- The error says why a label is refused after the pairs before it, whatever its value.
abbrev pub Excludes : Type 0 → Type 0 → Type 1
Excludes N A = N → A × List (N × Item) → CoseError → Type 0

abbrev pub ExcludesKey : {N A : Type 0} → MapLabels N → Excludes N A → Item → A × List (N × Item) → CoseError → Type 0
ExcludesKey {N} n excludes k x e = (m : N) × n.shape.describes k m × excludes m x e

-- The first pairs make a value that excludes the label of the next pair.
pub record IsExcluded (N A : Type 0) (n : MapLabels N) (fs : Fields N A) (excludes : Excludes N A) (ps : Pairs) (e : CoseError) : Type 0 where
  pub key : Item
  pub value : Item
  pub left : Pairs
  pub before : A × List (N × Item)
  pub walked : Walks N A n fs ps before (pair key value left)
  pub excluded : ExcludesKey n excludes key before e

-- The error names a fault in an item that is read pair by pair.
abbrev pub VisitorFaults : {N A : Type 0} → MapLabels N → Fields N A → Excludes N A → Item → CoseError → Type 0
VisitorFaults {N} {A} n fs excludes v e = (labelled n fs).faults v e ⊎ ((ps : Pairs) × (as_map v ≡ Some ps) × IsExcluded N A n fs excludes ps e)
