-- Laws of maps with labels and of reading them pair by pair, from the laws of labels and of fields' values.
use Rattle.std.specs.Prelude.{filter, is_some}
use Rattle.std.specs.Cmp.{both_ways}
use Rattle.std.specs.List.{IsDistinct, AllByRecursion, list_all}
use Rattle.std.specs.List.Sorted.{IsPermutation}
use Rattle.std.specs.Map.{keys_of, lookup}
use Rattle.std.proofs.Common.{◌≡◌, ◌⊎◌, ◌≤◌, ℕ, List, [], ◌∷◌, ◌++◌, Option, Some, None, Bool, true, false, not, cond, option_map, refl, sym, ◌∙◌, ap, subst}
use Rattle.std.proofs.Common.{inl, inr, arith, true≢false}
use Rattle.std.proofs.lemmas.Bool.{or_parts, or_left, or_right, and_parts, not-true, not-false, false_from_ne_true}
use Rattle.std.proofs.lemmas.List.Elements.{All-from_recursion, filter-append, recursion_from_All}
use Rattle.std.proofs.lemmas.List.Sorted.{All-permutation, IsPermutation-map, IsPermutation-refl}
use Rattle.std.proofs.lemmas.Map.Keys.{IsDistinct-IsPermutation}
use Rattle.std.proofs.lemmas.Map.Made.{IsDistinct-keys_filter}
use Rattle.coset_value.specs.Item.{Item, dict, depth, Pairs, no_pairs, pair, pairs_depth}
use Rattle.coset_value.specs.Parts.{as_map}
use Rattle.coset_codec.specs.declared.error.CoseError.{CoseError}
use Rattle.coset_codec.specs.declared.error.CoseError.TheVariants.{DuplicateMapKey}
use Rattle.coset_codec.specs.Shape.{Shape, present}
use Rattle.coset_codec.specs.ShapeLaws.{Again, Lawful, some-one, some-none, both-some, present_laws}
use Rattle.coset_codec.specs.Maps.{MapLabels, AreLabelled, labelled_image, HasLabel, RepeatsLabel, SomePair, FieldShape, field_shape}
use Rattle.coset_codec.specs.Maps.{optional, is_nonempty, unless_empty, IfThenElse, Fields}
use Rattle.coset_codec.specs.Maps.{no_field, put_field, field, is_core, rest_of, are_distinct, Entries, PairFaults, MapFaults, may_write, labelled_by}
use Rattle.coset_codec.specs.Maps.{with_pair, and_pairs, SoFar, Adds, Refuses}

-- ---- lists and tests

-- A property of each element.
all_append : {X : Type 0} (P : X → Type 0) (xs ys : List X) → AllByRecursion P xs → AllByRecursion P ys → AllByRecursion P (xs ++ ys)
all_append P [] ys h k = k
all_append P (x ∷ xs) ys h k = (h.0, all_append P xs ys h.1 k)

all_map : {X : Type 0} (P Q : X → Type 0) → ((x : X) → P x → Q x) → (xs : List X) → AllByRecursion P xs → AllByRecursion Q xs
all_map P Q f [] h = tt
all_map P Q f (x ∷ xs) h = (f x h.0, all_map P Q f xs h.1)

all_filter : {X : Type 0} (P : X → Type 0) (t : X → Bool) (xs : List X) → AllByRecursion P xs → AllByRecursion P (filter t xs)
all_filter P t [] h = tt
all_filter {X} P t (x ∷ xs) h = go (t x) (all_filter P t xs h.1)
  where
    go : (b : Bool) → AllByRecursion P (filter t xs) → AllByRecursion P (cond b (x ∷ filter t xs) (filter t xs))
    go true k = (h.0, k)
    go false k = k

-- The same for the elements in another order.
all_moved : {X : Type 0} (P : X → Type 0) (xs ys : List X) → IsPermutation xs ys → AllByRecursion P xs → AllByRecursion P ys
all_moved P xs ys m h = recursion_from_All P ys (All-permutation P xs ys m (All-from_recursion P xs h))

-- The elements that a filter keeps, and when a filter keeps all of them or none.
filter_passing : {X : Type 0} (t : X → Bool) (xs : List X) → AllByRecursion (λ y. t y ≡ true) (filter t xs)
filter_passing t [] = tt
filter_passing t (x ∷ xs) = go (t x) refl (filter_passing t xs)
  where
    go : (b : Bool) → t x ≡ b → AllByRecursion (λ y. t y ≡ true) (filter t xs) → AllByRecursion (λ y. t y ≡ true) (cond b (x ∷ filter t xs) (filter t xs))
    go true e k = (e, k)
    go false e k = k

filter_all : {X : Type 0} (t : X → Bool) (xs : List X) → AllByRecursion (λ y. t y ≡ true) xs → filter t xs ≡ xs
filter_all t [] h = refl
filter_all t (x ∷ xs) h = rw h.0 (ap (λ ys. x ∷ ys) (filter_all t xs h.1))

filter_none : {X : Type 0} (t : X → Bool) (xs : List X) → AllByRecursion (λ y. t y ≡ false) xs → filter t xs ≡ []
filter_none t [] h = refl
filter_none t (x ∷ xs) h = rw h.0 (filter_none t xs h.1)

-- A filter over a list with one more element at the end, which passes or not.
pub filter_kept : {X : Type 0} (t : X → Bool) (xs : List X) (x : X) → t x ≡ true → filter t (xs ++ x ∷ []) ≡ filter t xs ++ x ∷ []
filter_kept t xs x h = filter-append t xs (x ∷ []) ∙ rw h refl

pub filter_left : {X : Type 0} (t : X → Bool) (xs : List X) (x : X) → t x ≡ false → filter t (xs ++ x ∷ []) ≡ filter t xs
filter_left t [] x h = rw h refl
filter_left t (y ∷ xs) x h = ap (λ ys. cond (t y) (y ∷ ys) ys) (filter_left t xs x h)

-- A look-up among pairs with one more at the end.
pub lookup_new : {N X : Type 0} (t : N → Bool) (es : List (N × X)) (m : N) (v : X) → lookup t es ≡ None → t m ≡ true → lookup t (es ++ (m, v) ∷ []) ≡ Some v
lookup_new t [] m v n h = rw h refl
lookup_new t (e ∷ es) m v n h = go (lookup_new t es m v) (t e.0) n
  where
    go : (lookup t es ≡ None → t m ≡ true → lookup t (es ++ (m, v) ∷ []) ≡ Some v) → (b : Bool) → cond b (Some e.1) (lookup t es) ≡ None
        → cond b (Some e.1) (lookup t (es ++ (m, v) ∷ [])) ≡ Some v
    go ih true k = cc
    go ih false k = ih k h

pub lookup_other : {N X : Type 0} (t : N → Bool) (es : List (N × X)) (m : N) (v : X) → t m ≡ false → lookup t (es ++ (m, v) ∷ []) ≡ lookup t es
lookup_other t [] m v h = rw h refl
lookup_other t (e ∷ es) m v h = ap (cond (t e.0) (Some e.1)) (lookup_other t es m v h)

-- The two cases of `IfThenElse`.
by_where : {P Q R : Type 0} (b : Bool) → IfThenElse b P Q → (b ≡ true → P → R) → (b ≡ false → Q → R) → R
by_where true w f g = f refl w
by_where false w f g = g refl w

-- ---- labels, and the values of fields

-- The shape of the labels has laws, and the test says whether two labels are the same.
pub record LawfulMapLabels (N : Type 0) (n : MapLabels N) : Type 0 where
  pub shape : Lawful N n.shape
  pub same_is : (l m : N) → n.same l m ≡ true → l ≡ m
  pub same_self : (l : N) → n.same l l ≡ true

-- A label whose item has depth 0.
pub record Flat (N : Type 0) (n : MapLabels N) (l : N) : Type 0 where
  pub key : Item
  pub is_image : n.shape.image l ≡ Some key
  pub described : n.shape.describes key l
  pub is_flat : depth key ≡ 0

-- The item, if there is one, is at most d deep.
abbrev pub Within : ℕ → Option Item → Type 0
Within d (Some v) = depth v ≤ d
Within d None = Unit {0}

-- x is written as an item that represents x and is at most d deep, or is left out.
pub record AgainFieldShape (A : Type 0) (h : FieldShape A) (d : ℕ) (x : A) : Type 0 where
  pub value : Option Item
  pub is_image : h.image x ≡ Some value
  pub described : h.describes value x
  pub shallow : Within d value

-- `apart`: no value is represented both by an item and by the absence of one.
pub record LawfulFieldShape (A : Type 0) (h : FieldShape A) : Type 0 where
  pub unique : (o : Option Item) (x y : A) → h.describes o x → h.describes o y → x ≡ y
  pub again : (d : ℕ) (o : Option Item) (x : A) → Within d o → h.describes o x → AgainFieldShape A h d x
  pub sound : (v : Item) (x : A) (e : CoseError) → h.describes (Some v) x → h.faults v e → ⊥
  pub apart : (v : Item) (x : A) → h.describes (Some v) x → h.describes None x → ⊥

module _ {A : Type 0} (absent : A) (shows : A → Bool) (hidden : shows absent ≡ false) (shown : (x : A) → shows x ≡ false → x ≡ absent) (s : Shape A)
    (never : (v : Item) → s.describes v absent → ⊥) (l : Lawful A s) where
  -- An item represents at most one value, and the absence of one represents `absent` alone.
  field_shape_unique : (o : Option Item) (x y : A) → (field_shape absent shows s).describes o x → (field_shape absent shows s).describes o y → x ≡ y
  field_shape_unique (Some v) x y p q = l.unique v x y p q
  field_shape_unique None x y p q = p ∙ sym q

  field_shape_apart : (v : Item) (x : A) → s.describes v x → x ≡ absent → ⊥
  field_shape_apart v x p q = never v (subst (s.describes v) q p)

  field_shape_again : (d : ℕ) (o : Option Item) (x : A) → Within d o → (field_shape absent shows s).describes o x
      → AgainFieldShape A (field_shape absent shows s) d x
  field_shape_again d (Some v) x w p = go (shows x) refl
    where
      go : (b : Bool) → shows x ≡ b → AgainFieldShape A (field_shape absent shows s) d x
      go true h =
          let a : Again A s v x = l.again v x p in
          record { value = Some a.image; is_image = rw (h, a.is_image) refl; described = a.described; shallow = omega (arith, a.shallow, w) }
      go false h = absurd (field_shape_apart v x p (shown x h))
  field_shape_again d None x w p = record { value = None; is_image = rw (p, hidden) refl; described = p; shallow = tt }

  pub field_shape_laws : LawfulFieldShape A (field_shape absent shows s)
  field_shape_laws = record { unique = field_shape_unique; again = field_shape_again; sound = l.sound; apart = field_shape_apart }

-- A value that is left out is `None`.
none_hidden : {A : Type 0} (x : Option A) → is_some x ≡ false → x ≡ None
none_hidden (Some x) h = absurd (true≢false h)
none_hidden None h = refl

pub optional_laws : {A : Type 0} (s : Shape A) → Lawful A s → LawfulFieldShape (Option A) (optional s)
optional_laws s l = field_shape_laws None is_some refl none_hidden (present s) (λ v p. p) (present_laws s l)

empty_hidden : {A : Type 0} (x : List A) → is_nonempty x ≡ false → x ≡ []
empty_hidden [] h = refl
empty_hidden (x ∷ xs) h = absurd (true≢false h)

pub unless_empty_laws : {A : Type 0} (s : Shape (List A)) → ((v : Item) → s.describes v [] → ⊥) → Lawful (List A) s → LawfulFieldShape (List A) (unless_empty s)
unless_empty_laws s never l = field_shape_laws [] is_nonempty refl empty_hidden s never l

-- ---- fields

-- A pair whose key has an item. Neither the key nor the value is deeper than d.
pub record Writable (N : Type 0) (n : MapLabels N) (d : ℕ) (e : N × Item) : Type 0 where
  pub key : Item
  pub is_image : n.shape.image e.0 ≡ Some key
  pub described : n.shape.describes key e.0
  pub shallow_key : depth key ≤ d
  pub shallow : depth e.1 ≤ d

-- Pairs that have items and are at most d deep.
record Written (N : Type 0) (n : MapLabels N) (d : ℕ) (es : List (N × Item)) : Type 0 where
  pub pairs : Pairs
  pub is_image : labelled_image n.shape.image es ≡ Some pairs
  pub named : AreLabelled n.shape.describes pairs es
  pub shallow : pairs_depth pairs ≤ d

-- No pair has the label l.
abbrev pub IsNew : {N : Type 0} → MapLabels N → N → List (N × Item) → Type 0
IsNew n l es = AllByRecursion (λ m. n.same l m ≡ false) (keys_of es)

-- The label of each pair has a field (`IsCore`), or none of the labels has one (`IsRest`).
abbrev pub IsCore : {N : Type 0} → MapLabels N → List N → List (N × Item) → Type 0
IsCore n labels es = AllByRecursion (λ e. is_core n labels e.0 ≡ true) es

abbrev pub IsRest : {N : Type 0} → MapLabels N → List N → List (N × Item) → Type 0
IsRest n labels es = AllByRecursion (λ e. is_core n labels e.0 ≡ false) es

-- x is written as fields that represent x, whatever other pairs follow.
pub record AgainFields (N A : Type 0) (n : MapLabels N) (fs : Fields N A) (d : ℕ) (x : A) : Type 0 where
  pub entries : List (N × Item)
  pub is_image : fs.image x ≡ Some entries
  pub described : (more : List (N × Item)) → IsRest n fs.labels more → fs.describes (entries ++ more) x
  pub core : IsCore n fs.labels entries
  pub distinct : IsDistinct n.same (keys_of entries)
  pub writable : AllByRecursion (Writable N n d) entries

-- `frame` and `other`: a pair without a field changes nothing, first or last. `takes`: if a pair with a new label turns
-- x into y, the pairs with it at the end represent y. `fresh`: a pair turns x into another value only if its label is
-- new. `repeated`: a label that repeats is there already.
pub record LawfulFields (N A : Type 0) (n : MapLabels N) (fs : Fields N A) : Type 0 where
  pub unique : (es : List (N × Item)) (x y : A) → fs.describes es x → fs.describes es y → x ≡ y
  pub frame : (m : N) (v : Item) (es : List (N × Item)) (x : A) → is_core n fs.labels m ≡ false → fs.describes es x → fs.describes ((m, v) ∷ es) x
  pub again : (d : ℕ) (es : List (N × Item)) (x : A) → AllByRecursion (λ e. depth e.1 ≤ d) es → fs.describes es x → AgainFields N A n fs d x
  pub sound : (es : List (N × Item)) (x : A) (m : N) (v : Item) (e : CoseError) → fs.describes es x → lookup (n.same m) es ≡ Some v → fs.faults m v e → ⊥
  pub other : (es : List (N × Item)) (x : A) (m : N) (v : Item) → is_core n fs.labels m ≡ false → fs.describes es x → fs.describes (es ++ (m, v) ∷ []) x
  pub takes : (es : List (N × Item)) (x y : A) (m : N) (v : Item) → lookup (n.same m) es ≡ None → fs.describes es x → fs.takes m v x y
      → fs.describes (es ++ (m, v) ∷ []) y
  pub fresh : (es : List (N × Item)) (x y : A) (m : N) (v : Item) → fs.describes es x → fs.takes m v x y → lookup (n.same m) es ≡ None
  pub repeated : (es : List (N × Item)) (x : A) (m : N) → fs.describes es x → fs.repeats m x → lookup (n.same m) es ≡ None → ⊥

-- ---- one more pair at the end, and then other pairs

pub and_pairs-with : (ps : Pairs) (k v : Item) (more : Pairs) → and_pairs (with_pair ps k v) more ≡ and_pairs ps (pair k v more)
and_pairs-with no_pairs k v more = refl
and_pairs-with (pair j w ps) k v more = ap (pair j w) (and_pairs-with ps k v more)

pub and_pairs-none : (ps : Pairs) → and_pairs ps no_pairs ≡ ps
and_pairs-none no_pairs = refl
and_pairs-none (pair j w ps) = ap (pair j w) (and_pairs-none ps)

-- A property of the added pair holds of one of the pairs.
some_last : (P : Item → Item → Type 0) (ps : Pairs) (k v : Item) (more : Pairs) → P k v → SomePair P (and_pairs (with_pair ps k v) more)
some_last P no_pairs k v more h = inl h
some_last P (pair j w ps) k v more h = inr (some_last P ps k v more h)

pub key_fault : {N A : Type 0} (n : MapLabels N) (fs : Fields N A) (ps : Pairs) (k v : Item) (e : CoseError) → n.shape.faults k e → (more : Pairs)
    → MapFaults n fs (and_pairs (with_pair ps k v) more) e
key_fault n fs ps k v e f more = inl (some_last (PairFaults n fs e) ps k v more (inl f))

module _ {N : Type 0} (r : Item → N → Type 0) where
  -- The labels of one more pair, and of other pairs after it.
  named_snoc : (ps : Pairs) (es : List (N × Item)) (k v : Item) (m : N) → AreLabelled r ps es → r k m → AreLabelled r (with_pair ps k v) (es ++ (m, v) ∷ [])
  named_snoc no_pairs [] k v m p q = (q, refl, tt)
  named_snoc no_pairs (e ∷ es) k v m p q = absurd p
  named_snoc (pair j w ps) [] k v m p q = absurd p
  named_snoc (pair j w ps) (e ∷ es) k v m p q = (p.0, p.1, named_snoc ps es k v m p.2 q)

  label_and : (ps : Pairs) (l : N) (more : Pairs) → HasLabel r l ps → HasLabel r l (and_pairs ps more)
  label_and no_pairs l more h = absurd h
  label_and (pair j w ps) l more (inl h) = inl h
  label_and (pair j w ps) l more (inr h) = inr (label_and ps l more h)

  twice_and : (ps more : Pairs) → RepeatsLabel r ps → RepeatsLabel r (and_pairs ps more)
  twice_and no_pairs more h = absurd h
  twice_and (pair j w ps) more (inl h) = inl (h.0, h.1, label_and ps h.0 more h.2)
  twice_and (pair j w ps) more (inr h) = inr (twice_and ps more h)

  label_last : (ps : Pairs) (k v : Item) (l : N) (more : Pairs) → r k l → HasLabel r l (and_pairs (with_pair ps k v) more)
  label_last no_pairs k v l more h = inl h
  label_last (pair j w ps) k v l more h = inr (label_last ps k v l more h)

  twice_last : (ps : Pairs) (k v : Item) (l : N) (more : Pairs) → HasLabel r l ps → r k l → RepeatsLabel r (and_pairs (with_pair ps k v) more)
  twice_last no_pairs k v l more h q = absurd h
  twice_last (pair j w ps) k v l more (inl h) q = inl (l, h, label_last ps k v l more q)
  twice_last (pair j w ps) k v l more (inr h) q = inr (twice_last ps k v l more h q)

-- A map is the item of its pairs.
as_map-is : (v : Item) (ps : Pairs) → as_map v ≡ Some ps → dict ps ≡ v
as_map-is (dict qs) ps p = cc
as_map-is _ ps p = absurd (cc)

module _ {N : Type 0} (n : MapLabels N) where
  -- A look-up finds nothing if and only if no pair has the label.
  pub lookup_none : (l : N) (es : List (N × Item)) → IsNew n l es → lookup (n.same l) es ≡ None
  lookup_none l [] h = refl
  lookup_none l (e ∷ es) h = rw h.0 (lookup_none l es h.1)

  pub new_of : (l : N) (es : List (N × Item)) → lookup (n.same l) es ≡ None → IsNew n l es
  new_of l [] h = tt
  new_of l (e ∷ es) h = go (new_of l es) (n.same l e.0) refl h
    where
      go : (lookup (n.same l) es ≡ None → IsNew n l es) → (b : Bool) → n.same l e.0 ≡ b → cond b (Some e.1) (lookup (n.same l) es) ≡ None
          → (n.same l e.0 ≡ false) × IsNew n l es
      go ih true q k = absurd (cc)
      go ih false q k = (q, ih k)

  -- A label stays new among more such pairs, or among fewer.
  new_append : (l : N) (es fs : List (N × Item)) → IsNew n l es → IsNew n l fs → IsNew n l (es ++ fs)
  new_append l [] fs h k = k
  new_append l (e ∷ es) fs h k = (h.0, new_append l es fs h.1 k)

  new_filter : (t : N × Item → Bool) (l : N) (es : List (N × Item)) → IsNew n l es → IsNew n l (filter t es)
  new_filter t l [] h = tt
  new_filter t l (e ∷ es) h = go (t e) (new_filter t l es h.1)
    where
      go : (b : Bool) → IsNew n l (filter t es) → IsNew n l (cond b (e ∷ filter t es) (filter t es))
      go true k = (h.0, k)
      go false k = k

  -- The pairs that are kept as the rest.
  pub rest_apart : (labels : List N) (es : List (N × Item)) → IsRest n labels (rest_of n labels es)
  rest_apart labels es =
      all_map (λ e. not (is_core n labels e.0) ≡ true) (λ e. is_core n labels e.0 ≡ false) (λ e q. not-true (is_core n labels e.0) q) (rest_of n labels es)
      (filter_passing (λ e. not (is_core n labels e.0)) es)

  rest_again : (labels : List N) (cs rs : List (N × Item)) → IsCore n labels cs → IsRest n labels rs → rs ≡ rest_of n labels (cs ++ rs)
  rest_again labels cs rs c r =
      let t : N × Item → Bool = λ e. not (is_core n labels e.0) in
      let none : filter t cs ≡ [] = filter_none t cs (all_map (λ e. is_core n labels e.0 ≡ true) (λ e. t e ≡ false) (λ e q. ap not q) cs c) in
      let all : filter t rs ≡ rs = filter_all t rs (all_map (λ e. is_core n labels e.0 ≡ false) (λ e. t e ≡ true) (λ e q. ap not q) rs r) in
      sym (filter-append t cs rs ∙ rw (none, all) refl)

  pub rest_distinct : (labels : List N) (es rs : List (N × Item)) → rs ≡ rest_of n labels es → IsDistinct n.same (keys_of es) → IsDistinct n.same (keys_of rs)
  rest_distinct labels es rs r d = subst (λ xs. IsDistinct n.same (keys_of xs)) (sym r) (IsDistinct-keys_filter n.same (λ e. not (is_core n labels e.0)) es d)

  -- A value that is found is no deeper than all values.
  lookup_within : (d : ℕ) (l : N) (es : List (N × Item)) → AllByRecursion (λ e. depth e.1 ≤ d) es → Within d (lookup (n.same l) es)
  lookup_within d l [] h = tt
  lookup_within d l (e ∷ es) h = go (n.same l e.0) (lookup_within d l es h.1)
    where
      go : (b : Bool) → Within d (lookup (n.same l) es) → Within d (cond b (Some e.1) (lookup (n.same l) es))
      go true k = h.0
      go false k = k

  -- The test whether a label is new.
  new_tested : (l : N) (ls : List N) → list_all (λ m. not (n.same l m)) ls ≡ true → AllByRecursion (λ m. n.same l m ≡ false) ls
  new_tested l [] h = tt
  new_tested l (m ∷ ls) h = let k = and_parts (not (n.same l m)) (list_all (λ m. not (n.same l m)) ls) h in (not-true (n.same l m) k.0, new_tested l ls k.1)

  tested_new : (l : N) (ls : List N) → AllByRecursion (λ m. n.same l m ≡ false) ls → list_all (λ m. not (n.same l m)) ls ≡ true
  tested_new l [] h = refl
  tested_new l (m ∷ ls) h = rw h.0 (tested_new l ls h.1)

  -- The test whether labels are distinct.
  pub tested_distinct : (ls : List N) → IsDistinct n.same ls → are_distinct n.same ls ≡ true
  unfolding IsDistinct
  tested_distinct [] h = refl
  tested_distinct (l ∷ ls) h = rw (tested_new l ls h.0) (tested_distinct ls h.1)

  pub distinct_tested : (ls : List N) → are_distinct n.same ls ≡ true → IsDistinct n.same ls
  unfolding IsDistinct
  distinct_tested [] h = tt
  distinct_tested (l ∷ ls) h = let k = and_parts (list_all (λ m. not (n.same l m)) ls) (are_distinct n.same ls) h in
      (new_tested l ls k.0, distinct_tested ls k.1)

  -- The rest may be written if its labels are distinct.
  may_write_distinct : (checks : Bool) (rest : List (N × Item)) → IsDistinct n.same (keys_of rest) → may_write n checks rest ≡ true
  may_write_distinct true rest d = tested_distinct (keys_of rest) d
  may_write_distinct false rest d = refl

module _ {N : Type 0} (n : MapLabels N) (laws : LawfulMapLabels N n) where
  -- The test of labels says whether two labels are the same.
  pub not_same : (l m : N) → (l ≡ m → ⊥) → n.same l m ≡ false
  not_same l m h = false_from_ne_true (n.same l m) (λ p. h (laws.same_is l m p))

  pub apart_of : (l m : N) → n.same l m ≡ false → l ≡ m → ⊥
  apart_of l m h p = true≢false (sym (laws.same_self l) ∙ (ap (n.same l) p ∙ h))

  pub flip : (l m : N) → n.same l m ≡ false → n.same m l ≡ false
  flip l m h = not_same m l (λ p. apart_of l m h (sym p))

  -- The test is symmetric.
  same_flips : (l m : N) → n.same l m ≡ n.same m l
  same_flips l m =
      both_ways (n.same l m) (n.same m l) (λ h. subst (λ k. n.same k l ≡ true) (laws.same_is l m h) (laws.same_self l))
      (λ h. subst (λ k. n.same k m ≡ true) (laws.same_is m l h) (laws.same_self m))

  -- A label of a field is no label of the rest.
  pub core_apart : (labels : List N) (l m : N) → is_core n labels l ≡ false → is_core n labels m ≡ true → l ≡ m → ⊥
  core_apart labels l m p q e = true≢false (sym q ∙ (ap (is_core n labels) (sym e) ∙ p))

  rest_core : (labels : List N) (l m : N) → is_core n labels l ≡ false → is_core n labels m ≡ true → n.same l m ≡ false
  rest_core labels l m p q = not_same l m (core_apart labels l m p q)

  core_rest : (labels : List N) (l m : N) → is_core n labels l ≡ true → is_core n labels m ≡ false → n.same l m ≡ false
  core_rest labels l m p q = flip m l (rest_core labels m l q p)

  -- So a label of a field is new among the rest, and a label of the rest is new among the fields.
  new_core : (labels : List N) (l : N) (es : List (N × Item)) → is_core n labels l ≡ false → IsCore n labels es → IsNew n l es
  new_core labels l [] p h = tt
  new_core labels l (e ∷ es) p h = (rest_core labels l e.0 p h.0, new_core labels l es p h.1)

  new_rest : (labels : List N) (l : N) (es : List (N × Item)) → is_core n labels l ≡ true → IsRest n labels es → IsNew n l es
  new_rest labels l [] p h = tt
  new_rest labels l (e ∷ es) p h = (core_rest labels l e.0 p h.0, new_rest labels l es p h.1)

  -- Distinct labels stay distinct if a pair with a new label is added.
  pub distinct_snoc : (es : List (N × Item)) (m : N) (v : Item) → IsDistinct n.same (keys_of es) → IsNew n m es
      → IsDistinct n.same (keys_of (es ++ (m, v) ∷ []))
  unfolding IsDistinct
  distinct_snoc [] m v d a = (tt, tt)
  distinct_snoc (e ∷ es) m v d a = (new_append n e.0 es ((m, v) ∷ []) d.0 (flip m e.0 a.0, tt), distinct_snoc es m v d.1 a.1)

  -- ---- fields

  pub no_field_laws : LawfulFields N (Unit {0}) n no_field
  unfolding IsDistinct
  no_field_laws =
      record {
        unique = λ es x y p q. refl;
        frame = λ m v es x h p. tt;
        again = λ d es x h p. record { entries = []; is_image = refl; described = λ more k. tt; core = tt; distinct = tt; writable = tt };
        sound = λ es x m v e p q f. f;
        other = λ es x m v h p. tt;
        takes = λ es x y m v h p t. tt;
        fresh = λ es x y m v p t. absurd t;
        repeated = λ es x m p r h. r;
      }

  module _ {A B : Type 0} (l : N) (flat : Flat N n l) (h : FieldShape A) (hl : LawfulFieldShape A h) (fs : Fields N B) (fl : LawfulFields N B n fs)
      (new : is_core n fs.labels l ≡ false) where
    -- A label without a field differs from l and from the labels of the other fields.
    others : (m : N) → is_core n (l ∷ fs.labels) m ≡ false → (n.same l m ≡ false) × (is_core n fs.labels m ≡ false)
    others m c = let k : (n.same m l ≡ false) × (is_core n fs.labels m ≡ false) = or_parts (n.same m l) (is_core n fs.labels m) c in (flip m l k.0, k.1)

    rests : (es : List (N × Item)) → IsRest n (l ∷ fs.labels) es → IsRest n fs.labels es
    rests es k = all_map (λ e. is_core n (l ∷ fs.labels) e.0 ≡ false) (λ e. is_core n fs.labels e.0 ≡ false) (λ e q. (others e.0 q).1) es k

    cores : (es : List (N × Item)) → IsCore n fs.labels es → IsCore n (l ∷ fs.labels) es
    cores es c = all_map (λ e. is_core n fs.labels e.0 ≡ true) (λ e. is_core n (l ∷ fs.labels) e.0 ≡ true)
        (λ e q. or_right (n.same e.0 l) (is_core n fs.labels e.0) q) es c

    is_field : is_core n (l ∷ fs.labels) l ≡ true
    is_field = or_left (n.same l l) (is_core n fs.labels l) (laws.same_self l)

    -- l is the label of no other field.
    not_other : (m : N) → n.same l m ≡ true → is_core n fs.labels m ≡ false
    not_other m q = subst (λ k. is_core n fs.labels k ≡ false) (laws.same_is l m q) new

    -- A pair without a field, before the other pairs.
    field_frame : (m : N) (v : Item) (es : List (N × Item)) (x : A × B) → is_core n (l ∷ fs.labels) m ≡ false → (field n l h fs).describes es x
        → (field n l h fs).describes ((m, v) ∷ es) x
    field_frame m v es x c p = (rw (others m c).0 p.0, fl.frame m v es x.1 (others m c).1 p.1)

    -- The field as it is written.
    put_described :
        (o : Option Item) (cs : List (N × Item)) (x : A × B) → h.describes o x.0 → IsCore n fs.labels cs
        → ((more : List (N × Item)) → IsRest n fs.labels more → fs.describes (cs ++ more) x.1)
        → (more : List (N × Item)) → IsRest n (l ∷ fs.labels) more → (field n l h fs).describes (put_field l o cs ++ more) x
    put_described (Some v) cs x p c d more k = (rw (laws.same_self l) p, fl.frame l v (cs ++ more) x.1 new (d more (rests more k)))
    put_described None cs x p c d more k = (
      rw (lookup_none n l (cs ++ more) (new_append n l cs more (new_core fs.labels l cs new c) (new_rest (l ∷ fs.labels) l more is_field k))) p,
      d more (rests more k),
    )

    put_core : (o : Option Item) (cs : List (N × Item)) → IsCore n fs.labels cs → IsCore n (l ∷ fs.labels) (put_field l o cs)
    put_core (Some v) cs c = (is_field, cores cs c)
    put_core None cs c = cores cs c

    put_distinct : (o : Option Item) (cs : List (N × Item)) → IsCore n fs.labels cs → IsDistinct n.same (keys_of cs)
        → IsDistinct n.same (keys_of (put_field l o cs))
    unfolding IsDistinct
    put_distinct (Some v) cs c d = (new_core fs.labels l cs new c, d)
    put_distinct None cs c d = d

    put_writable : (d : ℕ) (o : Option Item) (cs : List (N × Item)) → Within d o → AllByRecursion (Writable N n d) cs
        → AllByRecursion (Writable N n d) (put_field l o cs)
    put_writable d (Some v) cs w k =
        (record { key = flat.key; is_image = flat.is_image; described = flat.described; shallow_key = omega (arith, flat.is_flat); shallow = w }, k)
    put_writable d None cs w k = k

    field_again : (d : ℕ) (es : List (N × Item)) (x : A × B) → AllByRecursion (λ e. depth e.1 ≤ d) es → (field n l h fs).describes es x
        → AgainFields N (A × B) n (field n l h fs) d x
    field_again d es x w p =
        let a : AgainFieldShape A h d x.0 = hl.again d (lookup (n.same l) es) x.0 (lookup_within n d l es w) p.0 in
        let b : AgainFields N B n fs d x.1 = fl.again d es x.1 w p.1 in
        record {
          entries = put_field l a.value b.entries;
          is_image = both-some (put_field l) (h.image x.0) (fs.image x.1) a.value b.entries a.is_image b.is_image;
          described = put_described a.value b.entries x a.described b.core b.described;
          core = put_core a.value b.entries b.core;
          distinct = put_distinct a.value b.entries b.core b.distinct;
          writable = put_writable d a.value b.entries a.shallow b.writable;
        }

    -- Faults in the field's value.
    field_sound : (es : List (N × Item)) (x : A × B) (m : N) (v : Item) (e : CoseError) → (field n l h fs).describes es x → lookup (n.same m) es ≡ Some v
        → (field n l h fs).faults m v e → ⊥
    field_sound es x m v e p q f =
        by_where (n.same l m) f
        (λ c g. hl.sound v x.0 e (subst (λ o. h.describes o x.0) (ap (λ k. lookup (n.same k) es) (laws.same_is l m c) ∙ q) p.0) g)
        (λ c g. fl.sound es x.1 m v e p.1 q g)

    -- A pair without a field, after the other pairs.
    field_other : (es : List (N × Item)) (x : A × B) (m : N) (v : Item) → is_core n (l ∷ fs.labels) m ≡ false → (field n l h fs).describes es x
        → (field n l h fs).describes (es ++ (m, v) ∷ []) x
    field_other es x m v c p = (rw (lookup_other (n.same l) es m v (others m c).0) p.0, fl.other es x.1 m v (others m c).1 p.1)

    -- A pair of this field (`take_here`), or of another field (`take_there`).
    take_here :
        (es : List (N × Item)) (x y : A × B) (m : N) (v : Item) → lookup (n.same m) es ≡ None → (field n l h fs).describes es x → n.same l m ≡ true
        → h.describes (Some v) y.0 → x.1 ≡ y.1
        → (field n l h fs).describes (es ++ (m, v) ∷ []) y
    take_here es x y m v k p c q r =
        let e : lookup (n.same l) es ≡ None = ap (λ j. lookup (n.same j) es) (laws.same_is l m c) ∙ k in
        (rw (lookup_new (n.same l) es m v e c) q, subst (fs.describes (es ++ (m, v) ∷ [])) r (fl.other es x.1 m v (not_other m c) p.1))

    take_there :
        (es : List (N × Item)) (x y : A × B) (m : N) (v : Item) → lookup (n.same m) es ≡ None → (field n l h fs).describes es x → n.same l m ≡ false → x.0 ≡ y.0
        → fs.takes m v x.1 y.1
        → (field n l h fs).describes (es ++ (m, v) ∷ []) y
    take_there es x y m v k p c q r = (
      rw (lookup_other (n.same l) es m v c) (subst (h.describes (lookup (n.same l) es)) q p.0),
      fl.takes es x.1 y.1 m v k p.1 r,
    )

    field_takes :
        (es : List (N × Item)) (x y : A × B) (m : N) (v : Item) → lookup (n.same m) es ≡ None → (field n l h fs).describes es x → (field n l h fs).takes m v x y
        → (field n l h fs).describes (es ++ (m, v) ∷ []) y
    field_takes es x y m v k p t = by_where (n.same l m) t (λ c g. take_here es x y m v k p c g.1 g.2) (λ c g. take_there es x y m v k p c g.0 g.1)

    -- If the absence of an item represents x, there is no item.
    none_there : (o : Option Item) (x : A) → h.describes o x → h.describes None x → o ≡ None
    none_there (Some v) x p q = absurd (hl.apart v x p q)
    none_there None x p q = refl

    field_fresh : (es : List (N × Item)) (x y : A × B) (m : N) (v : Item) → (field n l h fs).describes es x → (field n l h fs).takes m v x y
        → lookup (n.same m) es ≡ None
    field_fresh es x y m v p t =
        by_where (n.same l m) t
        (λ c g. ap (λ j. lookup (n.same j) es) (sym (laws.same_is l m c)) ∙ none_there (lookup (n.same l) es) x.0 p.0 g.0)
        (λ c g. fl.fresh es x.1 y.1 m v p.1 g.1)

    field_repeated : (es : List (N × Item)) (x : A × B) (m : N) → (field n l h fs).describes es x → (field n l h fs).repeats m x → lookup (n.same m) es ≡ None
        → ⊥
    field_repeated es x m p r k =
        by_where (n.same l m) r
        (λ c g. g (subst (λ o. h.describes o x.0) (ap (λ j. lookup (n.same j) es) (laws.same_is l m c) ∙ k) p.0))
        (λ c g. fl.repeated es x.1 m p.1 g k)

    pub field_laws : LawfulFields N (A × B) n (field n l h fs)
    field_laws =
        record {
          unique = λ es x y p q i. (hl.unique (lookup (n.same l) es) x.0 y.0 p.0 q.0 i, fl.unique es x.1 y.1 p.1 q.1 i);
          frame = field_frame;
          again = field_again;
          sound = field_sound;
          other = field_other;
          takes = field_takes;
          fresh = field_fresh;
          repeated = field_repeated;
        }

  -- ---- distinct labels

  -- Pairs of fields, and then other pairs.
  distinct_append :
      (labels : List N) (cs rs : List (N × Item)) → IsCore n labels cs → IsRest n labels rs → IsDistinct n.same (keys_of cs) → IsDistinct n.same (keys_of rs)
      → IsDistinct n.same (keys_of (cs ++ rs))
  unfolding IsDistinct
  distinct_append labels [] rs c r p q = q
  distinct_append labels (e ∷ cs) rs c r p q = (new_append n e.0 cs rs p.0 (new_rest labels e.0 rs c.0 r), distinct_append labels cs rs c.1 r p.1 q)

  -- A label is new if it is new among the pairs that pass, and differs from the labels of all others.
  new_filtered : (t : N × Item → Bool) (l : N) → ((e : N × Item) → t e ≡ false → n.same l e.0 ≡ false) → (es : List (N × Item)) → IsNew n l (filter t es)
      → IsNew n l es
  new_filtered t l f [] h = tt
  new_filtered t l f (e ∷ es) h = go (new_filtered t l f es) (t e) refl h
    where
      go : (IsNew n l (filter t es) → IsNew n l es) → (b : Bool) → t e ≡ b → IsNew n l (cond b (e ∷ filter t es) (filter t es)) → (n.same l e.0 ≡ false)
          × IsNew n l es
      go ih true q k = (k.0, ih k.1)
      go ih false q k = (f e q, ih k)

  -- A label of a field is new if it is new among the fields. Another label is new if it is new among the rest.
  pub new_field : (labels : List N) (l : N) (es : List (N × Item)) → is_core n labels l ≡ true → IsNew n l (filter (λ e. is_core n labels e.0) es)
      → IsNew n l es
  new_field labels l es c h = new_filtered (λ e. is_core n labels e.0) l (λ e q. core_rest labels l e.0 c q) es h

  pub new_other : (labels : List N) (l : N) (es : List (N × Item)) → is_core n labels l ≡ false → IsNew n l (rest_of n labels es) → IsNew n l es
  new_other labels l es c h = new_filtered (λ e. not (is_core n labels e.0)) l (λ e q. rest_core labels l e.0 c (not-false (is_core n labels e.0) q)) es h

  -- So all labels are distinct if those of the fields are, and those of the rest are.
  distinct_both :
      (labels : List N) (es : List (N × Item)) → IsDistinct n.same (keys_of (filter (λ e. is_core n labels e.0) es))
      → IsDistinct n.same (keys_of (rest_of n labels es)) → IsDistinct n.same (keys_of es)
  unfolding IsDistinct
  distinct_both labels [] p q = tt
  distinct_both labels (e ∷ es) p q = go (is_core n labels e.0) refl (distinct_both labels es) p q
    where
      cores : List (N × Item)
      cores = filter (λ f. is_core n labels f.0) es

      rests : List (N × Item)
      rests = rest_of n labels es

      go : (b : Bool) → is_core n labels e.0 ≡ b → (IsDistinct n.same (keys_of cores) → IsDistinct n.same (keys_of rests) → IsDistinct n.same (keys_of es))
          → IsDistinct n.same (keys_of (cond b (e ∷ cores) cores))
          → IsDistinct n.same (keys_of (cond (not b) (e ∷ rests) rests)) → IsNew n e.0 es × IsDistinct n.same (keys_of es)
      go true c ih p q = (new_field labels e.0 es c p.0, ih p.1 q)
      go false c ih p q = (new_other labels e.0 es c q.0, ih p q.1)

  -- ---- the whole map

  -- The labels of the pairs are unique.
  pub named_unique : (ps : Pairs) (es fs : List (N × Item)) → AreLabelled n.shape.describes ps es → AreLabelled n.shape.describes ps fs → es ≡ fs
  named_unique no_pairs [] [] p q = refl
  named_unique no_pairs [] (f ∷ fs) p q = absurd q
  named_unique no_pairs (e ∷ es) fs p q = absurd p
  named_unique (pair k v ps) [] fs p q = absurd p
  named_unique (pair k v ps) (e ∷ es) [] p q = absurd q
  named_unique (pair k v ps) (e ∷ es) (f ∷ fs) p q =
      λ i. (laws.shape.unique k e.0 f.0 p.0 q.0 i, (sym p.1 ∙ q.1) i) ∷ named_unique ps es fs p.2 q.2 i

  named_writable : (d : ℕ) (ps : Pairs) (es : List (N × Item)) → pairs_depth ps ≤ d → AreLabelled n.shape.describes ps es → AllByRecursion (Writable N n d) es
  named_writable d no_pairs [] b p = tt
  named_writable d no_pairs (e ∷ es) b p = absurd p
  named_writable d (pair k v ps) [] b p = absurd p
  named_writable d (pair k v ps) (e ∷ es) b p =
      let a : Again N n.shape k e.0 = laws.shape.again k e.0 p.0 in
      let deep : depth v ≡ depth e.1 = ap depth p.1 in (
        record { key = a.image; is_image = a.is_image; described = a.described; shallow_key = omega (arith, a.shallow); shallow = omega (arith, deep) },
        named_writable d ps es (omega arith) p.2,
      )

  written : (d : ℕ) (es : List (N × Item)) → AllByRecursion (Writable N n d) es → Written N n d es
  written d [] h = record { pairs = no_pairs; is_image = refl; named = tt; shallow = omega arith }
  written d (e ∷ es) h =
      let a : Writable N n d e = h.0 in
      let b : Written N n d es = written d es h.1 in
      record {
        pairs = pair a.key e.1 b.pairs;
        is_image = rw (a.is_image, b.is_image) refl;
        named = (a.described, refl, b.named);
        shallow = omega (arith, a.shallow_key, a.shallow, b.shallow);
      }

  -- A label of the pairs is not new.
  pub not_new : (ps : Pairs) (es : List (N × Item)) (l : N) → AreLabelled n.shape.describes ps es → HasLabel n.shape.describes l ps → IsNew n l es → ⊥
  not_new no_pairs es l p h a = h
  not_new (pair k v ps) [] l p h a = p
  not_new (pair k v ps) (e ∷ es) l p (inl g) a = apart_of l e.0 a.0 (laws.shape.unique k l e.0 g p.0)
  not_new (pair k v ps) (e ∷ es) l p (inr g) a = not_new ps es l p.2 g a.1

  not_distinct : (ps : Pairs) (es : List (N × Item)) → AreLabelled n.shape.describes ps es → RepeatsLabel n.shape.describes ps → IsDistinct n.same (keys_of es)
      → ⊥
  unfolding IsDistinct
  not_distinct no_pairs es p t d = t
  not_distinct (pair k v ps) [] p t d = p
  not_distinct (pair k v ps) (e ∷ es) p (inl g) d = not_new ps es e.0 p.2
      (subst (λ m. HasLabel n.shape.describes m ps) (laws.shape.unique k g.0 e.0 g.1 p.0) g.2) d.0
  not_distinct (pair k v ps) (e ∷ es) p (inr g) d = not_distinct ps es p.2 g d.1

  -- A label that is not new is a label of the pairs.
  pub has_label : (ps : Pairs) (es : List (N × Item)) (l : N) → AreLabelled n.shape.describes ps es → (IsNew n l es → ⊥) → HasLabel n.shape.describes l ps
  has_label no_pairs [] l p h = absurd (h tt)
  has_label no_pairs (e ∷ es) l p h = absurd p
  has_label (pair k v ps) [] l p h = absurd p
  has_label (pair k v ps) (e ∷ es) l p h = go (n.same l e.0) refl (has_label ps es l p.2)
    where
      go : (b : Bool) → n.same l e.0 ≡ b → ((IsNew n l es → ⊥) → HasLabel n.shape.describes l ps) → n.shape.describes k l ⊎ HasLabel n.shape.describes l ps
      go true q ih = inl (subst (n.shape.describes k) (sym (laws.same_is l e.0 q)) p.0)
      go false q ih = inr (ih (λ a. h (q, a)))

  twice : (ps : Pairs) (es : List (N × Item)) → AreLabelled n.shape.describes ps es → (IsDistinct n.same (keys_of es) → ⊥) → RepeatsLabel n.shape.describes ps
  unfolding IsDistinct
  twice no_pairs [] p h = absurd (h tt)
  twice no_pairs (e ∷ es) p h = absurd p
  twice (pair k v ps) [] p h = absurd p
  twice (pair k v ps) (e ∷ es) p h = go (list_all (λ m. not (n.same e.0 m)) (keys_of es)) refl (twice ps es p.2)
    where
      go : (b : Bool) → list_all (λ m. not (n.same e.0 m)) (keys_of es) ≡ b → ((IsDistinct n.same (keys_of es) → ⊥) → RepeatsLabel n.shape.describes ps)
          → ((l : N) × n.shape.describes k l × HasLabel n.shape.describes l ps) ⊎ RepeatsLabel n.shape.describes ps
      go true q ih = inr (ih (λ d. h (new_tested n e.0 (keys_of es) q, d)))
      go false q ih = inl (e.0, p.0, has_label ps es e.0 p.2 (λ a. true≢false (sym (tested_new n e.0 (keys_of es) a) ∙ q)))

  -- A look-up finds the same value after a pair with another label is put in front.
  pub lookup_later : (e : N × Item) (es : List (N × Item)) (m : N) (v : Item) → IsNew n e.0 es → lookup (n.same m) es ≡ Some v
      → lookup (n.same m) (e ∷ es) ≡ Some v
  lookup_later e es m v a q = go (n.same m e.0) refl
    where
      go : (b : Bool) → n.same m e.0 ≡ b → cond b (Some e.1) (lookup (n.same m) es) ≡ Some v
      go true c = absurd (some-none q (lookup_none n m es (subst (λ l. IsNew n l es) (sym (laws.same_is m e.0 c)) a)))
      go false c = q

  module _ {A : Type 0} (checks : Bool) (fs : Fields N A) (fl : LawfulFields N A n fs) where
    -- The laws of `Entries`.
    entries_unique : (ps : Pairs) (x y : A × List (N × Item)) → Entries N A n fs ps x → Entries N A n fs ps y → x ≡ y
    entries_unique ps x y p q =
        let e : p.entries ≡ q.entries = named_unique ps p.entries q.entries p.named q.named in
        let f : x.0 ≡ y.0 = fl.unique q.entries x.0 y.0 (subst (λ es. fs.describes es x.0) e p.fields) q.fields in
        let r : x.1 ≡ y.1 = p.rest ∙ (ap (rest_of n fs.labels) e ∙ sym q.rest) in
        λ i. (f i, r i)

    -- No pair has a fault if the labels are distinct, and if no value that a look-up finds has a fault.
    pairs_sound :
        (e : CoseError) (ps : Pairs) (es : List (N × Item)) → AreLabelled n.shape.describes ps es → IsDistinct n.same (keys_of es)
        → ((m : N) (v : Item) → lookup (n.same m) es ≡ Some v → fs.faults m v e → ⊥)
        → SomePair (PairFaults n fs e) ps → ⊥
    unfolding IsDistinct
    pairs_sound e no_pairs es p d s f = f
    pairs_sound e (pair k v ps) [] p d s f = p
    pairs_sound e (pair k v ps) (x ∷ es) p d s (inl (inl f)) = laws.shape.sound k x.0 e p.0 f
    pairs_sound e (pair k v ps) (x ∷ es) p d s (inl (inr f)) =
        let q : n.same f.0 x.0 ≡ true = subst (λ m. n.same m x.0 ≡ true) (laws.shape.unique k x.0 f.0 p.0 f.1) (laws.same_self x.0) in
        s f.0 v (rw q (ap Some (sym p.1))) f.2
    pairs_sound e (pair k v ps) (x ∷ es) p d s (inr f) = pairs_sound e ps es p.2 d.1 (λ m w q g. s m w (lookup_later x es m w d.0 q) g) f

    entries_sound : (ps : Pairs) (x : A × List (N × Item)) (e : CoseError) → Entries N A n fs ps x → MapFaults n fs ps e → ⊥
    entries_sound ps x e p (inl f) = pairs_sound e ps p.entries p.named p.distinct (λ m v q g. fl.sound p.entries x.0 m v e p.fields q g) f
    entries_sound ps x e p (inr f) = not_distinct ps p.entries p.named f.0 p.distinct

    -- Fields, and a rest in any order, are written as an item that represents them.
    entries_arranged : (ps : Pairs) (x : A × List (N × Item)) (rs : List (N × Item)) → Entries N A n fs ps x → IsPermutation x.1 rs
        → Again (A × List (N × Item)) (labelled_by checks n fs) (dict ps) (x.0, rs)
    entries_arranged ps x rs p moved =
        record {
          image = dict all.pairs;
          is_image = rw (may_write_distinct n checks rs distinct, core.is_image) (ap (option_map dict) all.is_image);
          described = (
            all.pairs,
            refl,
            record {
              entries = core.entries ++ rs;
              named = all.named;
              distinct = distinct_append fs.labels core.entries rs core.core rest core.distinct distinct;
              fields = core.described rs rest;
              rest = rest_again n fs.labels core.entries rs core.core rest;
            },
          );
          shallow = omega (arith, all.shallow);
        }
      where
        writable : AllByRecursion (Writable N n (pairs_depth ps)) p.entries
        writable = named_writable (pairs_depth ps) ps p.entries (omega arith) p.named

        core : AgainFields N A n fs (pairs_depth ps) x.0
        core = fl.again (pairs_depth ps) p.entries x.0
            (all_map (Writable N n (pairs_depth ps)) (λ e. depth e.1 ≤ pairs_depth ps) (λ e w. w.shallow) p.entries writable) p.fields

        rest : IsRest n fs.labels rs
        rest = all_moved (λ e. is_core n fs.labels e.0 ≡ false) x.1 rs moved (subst (IsRest n fs.labels) (sym p.rest) (rest_apart n fs.labels p.entries))

        distinct : IsDistinct n.same (keys_of rs)
        distinct = IsDistinct-IsPermutation n.same same_flips (keys_of x.1) (keys_of rs) (IsPermutation-map (λ e. e.0) x.1 rs moved)
            (rest_distinct n fs.labels p.entries x.1 p.rest p.distinct)

        writable_rest : AllByRecursion (Writable N n (pairs_depth ps)) rs
        writable_rest =
            all_moved (Writable N n (pairs_depth ps)) x.1 rs moved
            (subst (AllByRecursion (Writable N n (pairs_depth ps))) (sym p.rest)
            (all_filter (Writable N n (pairs_depth ps)) (λ e. not (is_core n fs.labels e.0)) p.entries writable))

        all : Written N n (pairs_depth ps) (core.entries ++ rs)
        all = written (pairs_depth ps) (core.entries ++ rs) (all_append (Writable N n (pairs_depth ps)) core.entries rs core.writable writable_rest)

    -- So a value that a map represents can be written with its rest in any order.
    pub labelled_arranged : (v : Item) (x : A × List (N × Item)) (rs : List (N × Item)) → (labelled_by checks n fs).describes v x → IsPermutation x.1 rs
        → Again (A × List (N × Item)) (labelled_by checks n fs) v (x.0, rs)
    labelled_arranged v x rs p moved = subst (λ w. Again (A × List (N × Item)) (labelled_by checks n fs) w (x.0, rs)) (as_map-is v p.0 p.1)
        (entries_arranged p.0 x rs p.2 moved)

    labelled_again : (v : Item) (x : A × List (N × Item)) → (labelled_by checks n fs).describes v x → Again (A × List (N × Item)) (labelled_by checks n fs) v x
    labelled_again v x p = labelled_arranged v x x.1 p (IsPermutation-refl x.1)

    pub labelled_laws : Lawful (A × List (N × Item)) (labelled_by checks n fs)
    labelled_laws =
        record {
          unique = λ v x y p q. entries_unique p.0 x y p.2 (subst (λ ps. Entries N A n fs ps y) (some-one q.1 p.1) q.2);
          again = labelled_again;
          sound = λ v x e p f. elim f [
            | inl g ↦ some-none p.1 g.0
            | inr g ↦ entries_sound g.0 x e
                (subst (λ ps. Entries N A n fs ps x) (some-one p.1 g.1) p.2) g.2
          ];
        }

  module _ {A : Type 0} (fs : Fields N A) (fl : LawfulFields N A n fs) where
    -- No pairs yet.
    pub so_far_none : (x : A) → fs.describes [] x → SoFar N A n fs no_pairs (x, [])
    unfolding IsDistinct
    so_far_none x p = record { entries = []; named = tt; once = tt; fields = p; rest = refl }

    -- One more pair, of a field (`more_field`) or of the rest (`more_rest`).
    more_field :
        (ps : Pairs) (k v : Item) (m : N) (x y : A × List (N × Item)) → SoFar N A n fs ps x → n.shape.describes k m → is_core n fs.labels m ≡ true
        → fs.takes m v x.0 y.0 × (y.1 ≡ x.1) → SoFar N A n fs (with_pair ps k v) y
    more_field ps k v m x y s q c t =
        let new : lookup (n.same m) s.entries ≡ None = fl.fresh s.entries x.0 y.0 m v s.fields t.0 in
        record {
          entries = s.entries ++ (m, v) ∷ [];
          named = named_snoc n.shape.describes ps s.entries k v m s.named q;
          once = rw (filter_kept (λ e. is_core n fs.labels e.0) s.entries (m, v) c)
              (distinct_snoc _ m v s.once (new_filter n (λ e. is_core n fs.labels e.0) m s.entries (new_of n m s.entries new)));
          fields = fl.takes s.entries x.0 y.0 m v new s.fields t.0;
          rest = t.1 ∙ (s.rest ∙ sym (filter_left (λ e. not (is_core n fs.labels e.0)) s.entries (m, v) (ap not c)));
        }

    more_rest :
        (ps : Pairs) (k v : Item) (m : N) (x y : A × List (N × Item)) → SoFar N A n fs ps x → n.shape.describes k m → is_core n fs.labels m ≡ false
        → (x.0 ≡ y.0) × (y.1 ≡ x.1 ++ (m, v) ∷ [])
        → SoFar N A n fs (with_pair ps k v) y
    more_rest ps k v m x y s q c t =
        record {
          entries = s.entries ++ (m, v) ∷ [];
          named = named_snoc n.shape.describes ps s.entries k v m s.named q;
          once = rw (filter_left (λ e. is_core n fs.labels e.0) s.entries (m, v) c) s.once;
          fields = subst (fs.describes (s.entries ++ (m, v) ∷ [])) t.0 (fl.other s.entries x.0 m v c s.fields);
          rest = t.1 ∙ (ap (λ r. r ++ (m, v) ∷ []) s.rest ∙ sym (filter_kept (λ e. not (is_core n fs.labels e.0)) s.entries (m, v) (ap not c)));
        }

    pub so_far_more : (ps : Pairs) (k v : Item) (m : N) (x y : A × List (N × Item)) → SoFar N A n fs ps x → n.shape.describes k m → Adds n fs m v x y
        → SoFar N A n fs (with_pair ps k v) y
    so_far_more ps k v m x y s q a = by_where (is_core n fs.labels m) a (more_field ps k v m x y s q) (more_rest ps k v m x y s q)

    -- All the pairs.
    pub so_far_all : (ps : Pairs) (x : A × List (N × Item)) → SoFar N A n fs ps x → IsDistinct n.same (keys_of x.1) → Entries N A n fs ps x
    so_far_all ps x s d =
        record {
          entries = s.entries;
          named = s.named;
          distinct = distinct_both fs.labels s.entries s.once (subst (λ r. IsDistinct n.same (keys_of r)) s.rest d);
          fields = s.fields;
          rest = s.rest;
        }

    -- Or a label of the rest occurs twice, whatever pairs follow.
    pub so_far_twice : (ps : Pairs) (x : A × List (N × Item)) → SoFar N A n fs ps x → are_distinct n.same (keys_of x.1) ≡ false → (more : Pairs)
        → RepeatsLabel n.shape.describes (and_pairs ps more)
    so_far_twice ps x s h more =
        twice_and n.shape.describes ps more
        (twice ps s.entries s.named (λ d. true≢false (sym (tested_distinct n (keys_of x.1) (rest_distinct n fs.labels s.entries x.1 s.rest d)) ∙ h)))

    -- A pair that is refused has a fault, whatever pairs follow.
    refused :
        (ps : Pairs) (k v : Item) (m : N) (x : A × List (N × Item)) (e : CoseError) → SoFar N A n fs ps x → n.shape.describes k m
        → (fs.repeats m x.0 × (e ≡ DuplicateMapKey)) ⊎ fs.faults m v e → (more : Pairs)
        → MapFaults n fs (and_pairs (with_pair ps k v) more) e
    refused ps k v m x e s q (inl f) more =
        let label : HasLabel n.shape.describes m ps = has_label ps s.entries m s.named
        (λ a. fl.repeated s.entries x.0 m s.fields f.0 (lookup_none n m s.entries a)) in
        inr (twice_last n.shape.describes ps k v m more label q, f.1)
    refused ps k v m x e s q (inr f) more = inl (some_last (PairFaults n fs e) ps k v more (inr (m, q, f)))

    pub refuses_fault :
        (ps : Pairs) (k v : Item) (m : N) (x : A × List (N × Item)) (e : CoseError) → SoFar N A n fs ps x → n.shape.describes k m → Refuses n fs m v x e
        → (more : Pairs)
        → MapFaults n fs (and_pairs (with_pair ps k v) more) e
    refuses_fault ps k v m x e s q r more = by_where (is_core n fs.labels m) r (λ c g. refused ps k v m x e s q g more) (λ c g. absurd g)
