-- Maps whose labels differ (RFC 8152, section 1.4: label = int / tstr).
use Rattle.std.specs.Prelude.{◌≡◌, ◌⊎◌, ◌==◌, ℕ, List, [], ◌∷◌, Option, Some, None, Result, Ok, Err, Bool, true, false}
use Rattle.std.specs.Ordering.{int_eq}
use Rattle.std.specs.Cmp.Lexicographic.{pointwise}
use Rattle.coset.specs.Item.{Item, integer, text, Pairs, no_pairs, pair}
use Rattle.coset.specs.Parts.{as_map}
use Rattle.coset.specs.CoseError.{CoseError}
use Rattle.coset.specs.CoseError.TheVariants as errors
use Rattle.coset.specs.LabelData.{LabelView, number, text_label}
use Rattle.coset.specs.Maps.{are_distinct}
use Rattle.ffi_query.specs.declared.kind.Kind as kinds
use Rattle.ffi_query.specs.declared.kind.Kind.TheVariants.{Any}
use Rattle.ffi_query.specs.declared.refusal.Refusal as refusals
use Rattle.ffi_query.specs.declared.refusal.Refusal.TheVariants.{Cose}
use Rattle.ffi_make.specs.declared.labels.Name as names
use Rattle.ffi_make.specs.declared.labels.Name.TheVariants.{Number, Text}
use Rattle.ffi_make.specs.Makes.{IsMade, IsMisfit, RefusesInputs, Writes}

-- The view of a label.
abbrev pub name_view : names.Name → LabelView
name_view (Number n) = number n
name_view (Text t) = text_label t.now

-- The label of an entry in a list.
abbrev pub named_view : names.Name × Unit {0} → LabelView
named_view e = name_view e.0

-- Two labels are the same.
abbrev pub same_name : LabelView → LabelView → Bool
same_name (number m) (number n) = int_eq m n
same_name (text_label s) (text_label t) = pointwise ◌==◌ s t
same_name a b = false

-- The label that a key is, if it is one.
abbrev pub label_in : Item → Option LabelView
label_in (integer n) = Some (number n)
label_in (text s) = Some (text_label s)
label_in v = None

abbrev pub and_label : Option LabelView → List LabelView → List LabelView
and_label None ls = ls
and_label (Some l) ls = l ∷ ls

-- The labels among the keys, in order.
abbrev pub labels_in : Pairs → List LabelView
labels_in no_pairs = []
labels_in (pair k v ps) = and_label (label_in k) (labels_in ps)

abbrev pub labels_differ_in : Option Pairs → Bool
labels_differ_in None = true
labels_differ_in (Some ps) = are_distinct same_name (labels_in ps)

-- No label is twice in the item, if it is a map.
abbrev pub labels_differ : Item → Bool
labels_differ v = labels_differ_in (as_map v)

-- No label is twice in a new item that may be any item. An item of another kind has its labels once.
abbrev pub may_be_made : kinds.Kind → Item → Bool
may_be_made Any v = labels_differ v
may_be_made k v = true

abbrev pub may_be_written : kinds.Kind → Option Item → Bool
may_be_written k None = true
may_be_written k (Some v) = may_be_made k v

-- The text is the shortest encoding of the new map, and an item of kind k. No label is twice in it.
abbrev pub IsMap : kinds.Kind → Option Item → List ℕ → Type 0
IsMap k o t = IsMade k o t × (may_be_written k o ≡ true)

-- A label is twice in the new map, or it isn't of kind k.
abbrev pub IsNoMap : kinds.Kind → Option Item → CoseError → Type 0
IsNoMap k o e = ((may_be_written k o ≡ false) × (e ≡ errors.DuplicateMapKey)) ⊎ IsMisfit k o e

-- The result of a call that writes a new map of kind k. `Absent`: no map was made.
abbrev pub MakesMap : kinds.Kind → Option Item → List ℕ → List ℕ → Result ℕ refusals.Refusal → Type 0
MakesMap k o old new r = Writes (IsMap k o) (o ≡ None) (IsNoMap k o) old new r

-- The result of a call that makes a map of kind k from its arguments, or finds a fault in them.
abbrev pub MakesMapOf :
    {A : Type 0} → kinds.Kind → (A → Type 0) → (CoseError → Type 0) → (A → Option Item) → List ℕ → List ℕ → Result ℕ refusals.Refusal → Type 0
MakesMapOf {A} k AreInputs faults made old new r = ((x : A) × AreInputs x × MakesMap k (made x) old new r) ⊎ RefusesInputs faults old new r

-- Writing the new map, or returning the error that making it returned.
abbrev pub WritesMap :
    {V : Type 0} → kinds.Kind → (Option V → Option Item) → Result (Option V) CoseError → List ℕ → List ℕ → Result ℕ refusals.Refusal → Type 0
WritesMap k items_of (Ok o) old new r = MakesMap k (items_of o) old new r
WritesMap k items_of (Err e) old new r = (r ≡ Err (Cose e)) × (new ≡ old)
