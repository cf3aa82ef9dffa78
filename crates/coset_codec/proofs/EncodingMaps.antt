-- Maps that are written pair by pair.
use Rattle.std.proofs.Common.{◌≡◌, ℕ, suc, ℤ, ◌+◌, ◌<◌, ◌≤◌, ◌^◌, List, [], ◌∷◌, ◌++◌, map, take, drop, get_or, length, Bool, true, false, Option, Some, None}
use Rattle.std.proofs.Common.{option_map, refl, sym, ◌∙◌, ap, subst, append-nil, append_assoc, arith}
use Rattle.std.specs.Prelude.{◌==◌, is_some, filter, not, Result, Ok, Err, OnOk, IfErr}
use Rattle.std.proofs.lemmas.Grind.{common_steps}
use Rattle.std.proofs.lemmas.List.{take_all, take_more, map_push, map-append, take-append-drop, length-append, length-map}
use Rattle.coset_value.specs.Item.{Item, integer, dict, Pairs, no_pairs, pair, pairs_count}
use Rattle.coset_value.specs.Range.{ArePairsInRange}
use Rattle.coset_cbor.specs.Least.{Extends, least_head, least_encoding, least_pair_encodings}
use Rattle.coset_codec.specs.declared.error.CoseError.{CoseError}
use Rattle.coset_codec.specs.Encoding.{AppendsItem, AppendsImage, Encodes, HasNoImage, AppendsPairs, AppendsAll, AppendsField}
use Rattle.coset_codec.specs.Maps.{MapLabels, field_shape_image, labelled_image, and_pairs, put_field, entries_image, is_nonempty}
use Rattle.coset_codec.specs.RestLaws.{as_view}
use Rattle.coset_codec.specs.Shape.{both, present_image}
use Rattle.coset_codec.proofs.Pushing.{labelled_image-append, labelled_image-none}

-- ---- pairs after other pairs

least_pair_encodings-and : (ps qs : Pairs) → least_pair_encodings (and_pairs ps qs) ≡ least_pair_encodings ps ++ least_pair_encodings qs
least_pair_encodings-and no_pairs qs = refl
least_pair_encodings-and (pair k v ps) qs = rw (least_pair_encodings-and ps qs)
    (sym (append_assoc (least_encoding k) (least_encoding v ++ least_pair_encodings ps) (least_pair_encodings qs)
    ∙ ap (λ s. least_encoding k ++ s) (append_assoc (least_encoding v) (least_pair_encodings ps) (least_pair_encodings qs))))

in_range-and : (ps qs : Pairs) → ArePairsInRange ps → ArePairsInRange qs → ArePairsInRange (and_pairs ps qs)
in_range-and no_pairs qs h k = k
in_range-and (pair j v ps) qs h k = (h.0, h.1, in_range-and ps qs h.2 k)

-- An item that is present.
pub item-is : {v : Item} {old new : List ℕ} → AppendsImage (Some v) old new → AppendsItem old new v
item-is {v} {old} {new} p = let same : p.0 ≡ v = cc in subst (AppendsItem old new) same p.2

-- A key, followed by its value.
pub pair-added : {old mid new : List ℕ} (k v : Item) → AppendsItem old mid k → AppendsItem mid new v → AppendsPairs old new (pair k v no_pairs)
pair-added {old} {mid} {new} k v key value = record {
  in_range = (key.in_range, value.in_range, tt);
  parts =
      value.parts ∙ (ap (λ s. s ++ least_encoding v) key.parts
      ∙ (append_assoc old (least_encoding k) (least_encoding v) ∙ ap (λ s. old ++ (least_encoding k ++ s)) (sym (append-nil (least_encoding v)))));
}

pub field-written : {T : Type 0} (r : Result T CoseError) (i : ℤ) (o : Option Item) {old mid : List ℕ} (new : List ℕ) → AppendsItem old mid (integer i)
    → Encodes o mid new r → OnOk r (AppendsField i (option_map Some o) old new)
field-written (Ok x) i o new key value = (Some value.0, ap (option_map Some) value.1, pair-added (integer i) value.0 key value.2)
field-written (Err e) i o new key value = tt

pub nothing-added : (s : List ℕ) → AppendsPairs s s no_pairs
nothing-added s = record { in_range = tt; parts = sym (append-nil s) }

then-added : {old mid new : List ℕ} (ps qs : Pairs) → AppendsPairs old mid ps → AppendsPairs mid new qs → AppendsPairs old new (and_pairs ps qs)
then-added {old} {mid} {new} ps qs p q = record {
  in_range = in_range-and ps qs p.in_range q.in_range;
  parts =
      q.parts ∙ (ap (λ s. s ++ least_pair_encodings qs) p.parts
      ∙ (append_assoc old (least_pair_encodings ps) (least_pair_encodings qs) ∙ ap (λ s. old ++ s) (sym (least_pair_encodings-and ps qs))));
}

-- ---- the fields of a map, and the rest

-- new is old, followed by the pairs of the fields that are present.
pub record AppendsFields (N : Type 0) (f : N → Option Item) (o : Option (List (N × Item))) (there : List Bool) (old new : List ℕ) : Type 0 where
  pub entries : List (N × Item)
  pub image : o ≡ Some entries
  pub count : length entries ≡ length (filter (λ b. b) there)
  pub appended : AppendsAll (labelled_image f entries) old new

pub no-field : {N : Type 0} (f : N → Option Item) (s : List ℕ) → AppendsFields N f (Some []) [] s s
no-field f s = record { entries = []; image = refl; count = refl; appended = (no_pairs, refl, nothing-added s) }

pub field-put :
    {N : Type 0} (f : N → Option Item) {l : N} {i : ℤ} (b : Bool) (o : Option Item) {os : Option (List (N × Item))} {there : List Bool} {old mid new : List ℕ}
    → f l ≡ Some (integer i) → AppendsField i (field_shape_image b o) old mid
    → AppendsFields N f os there mid new → AppendsFields N f (both (put_field l) (field_shape_image b o) os) (b ∷ there) old new
field-put {N} f {l} {i} true (Some w) label (Some v, e, p) more = record {
  entries = (l, v) ∷ more.entries;
  image = λ j. both (put_field l) (e j) (more.image j);
  count = ap suc more.count;
  appended = (
    pair (integer i) v more.appended.0,
    (λ j. both (λ k qs. pair k v qs) (label j) (more.appended.1 j)),
    then-added (pair (integer i) v no_pairs) more.appended.0 p more.appended.2,
  );
}
field-put f true (Some w) label (None, e, p) more = absurd (cc)
field-put f true None label (q, e, p) more = absurd (cc)
field-put {N} f {l} false o label (None, e, p) more = record {
  entries = more.entries;
  image = λ j. both (put_field l) (e j) (more.image j);
  count = more.count;
  appended = (more.appended.0, more.appended.1, then-added no_pairs more.appended.0 p more.appended.2);
}
field-put f false o label (Some v, e, p) more = absurd (cc)

-- A field that may be left out, as contracts see it.
pub optional-view :
    {X Y : Type 0} (see : X → Y) (f : Y → Option Item) (o : Option X)
    → field_shape_image (is_some o) (present_image (λ x. f (see x)) o) ≡ field_shape_image (is_some (option_map see o)) (present_image f (option_map see o))
optional-view see f (Some x) = refl
optional-view see f None = refl

pub optional-put :
    {N X Y : Type 0} (f : N → Option Item) (see : X → Y) (g : Y → Option Item) (x : Option X) {l : N} {i : ℤ} {os : Option (List (N × Item))}
    {there : List Bool} {old mid new : List ℕ} → f l ≡ Some (integer i)
    → AppendsField i (field_shape_image (is_some x) (present_image (λ y. g (see y)) x)) old mid → AppendsFields N f os there mid new
    → AppendsFields N f (both (put_field l) (field_shape_image (is_some (option_map see x)) (present_image g (option_map see x))) os)
    (is_some x ∷ there) old new
optional-put f see g (Some y) label put more = field-put f true (g (see y)) label put more
optional-put f see g None label put more = field-put f false None label put more

-- A list that is left out if it is empty.
pub listed-put :
    {N X : Type 0} (f : N → Option Item) (g : List X → Option Item) (xs : List X) (b : Bool) {l : N} {i : ℤ} {os : Option (List (N × Item))} {there : List Bool}
    {old mid new : List ℕ} → is_nonempty xs ≡ b → f l ≡ Some (integer i)
    → AppendsField i (field_shape_image (is_nonempty xs) (g xs)) old mid → AppendsFields N f os there mid new
    → AppendsFields N f (both (put_field l) (field_shape_image (is_nonempty xs) (g xs)) os) (b ∷ there) old new
listed-put {N} f g xs b {l} {os} {there} {old} {new} told label put more =
    subst (λ c. AppendsFields N f (both (put_field l) (field_shape_image (is_nonempty xs) (g xs)) os) (c ∷ there) old new) told
    (field-put f (is_nonempty xs) (g xs) label put more)

-- The pairs of the rest, as contracts see their labels.
pub rest-view :
    {L V N : Type 0} (see : L → N) (value_item : V → Item) (f : N → Option Item) (xs : List (L × V))
    → labelled_image (λ l. f (see l)) (map (λ x. (x.0, value_item x.1)) xs) ≡ labelled_image f (map (λ x. (see x.0, value_item x.1)) xs)
rest-view see value_item f [] = refl
rest-view see value_item f (x ∷ xs) = ap (λ o. both (λ k ps. pair k (value_item x.1) ps) (f (see x.0)) o) (rest-view see value_item f xs)

-- There are as many pairs as labels.
named-count : {N : Type 0} (f : N → Option Item) (es : List (N × Item)) (ps : Pairs) → labelled_image f es ≡ Some ps → pairs_count ps ≡ length es
named-count f [] ps e = let none : no_pairs ≡ ps = cc in ap pairs_count (sym none)
named-count f (x ∷ es) ps e = by (f x.0) (labelled_image f es) (named-count f es) e
  where
    by : (k : Option Item) (o : Option Pairs) → ((qs : Pairs) → o ≡ Some qs → pairs_count qs ≡ length es) → both (λ j qs. pair j x.1 qs) k o ≡ Some ps
        → pairs_count ps ≡ suc (length es)
    by (Some k) (Some qs) more h = let same : pair k x.1 qs ≡ ps = cc in ap pairs_count (sym same) ∙ ap suc (more qs refl)
    by (Some k) None more h = absurd (cc)
    by None o more h = absurd (cc)

-- There is no map if a label of the rest has no item.
unwritten : {N : Type 0} (n : MapLabels N) (b : Bool) (rest : List (N × Item)) (o : Option (List (N × Item))) → labelled_image n.shape.image rest ≡ None
    → entries_image n b rest o ≡ None
unwritten n true rest None e = refl
unwritten n false rest o e = refl
unwritten {N} n true rest (Some es) e = rw (none es) refl
  where
    none : (es : List (N × Item)) → labelled_image n.shape.image (es ++ rest) ≡ None
    none [] = e
    none (x ∷ es) = last (n.shape.image x.0) (none es)
      where
        last : (k : Option Item) → labelled_image n.shape.image (es ++ rest) ≡ None
            → both (λ j ps. pair j x.1 ps) k (labelled_image n.shape.image (es ++ rest)) ≡ None
        last (Some k) h = rw h refl
        last None h = refl

-- A map is written as its head, the present fields and the rest, if it may be written. The head counts the fields and
-- the rest.
pub map-written :
    {N L V T : Type 0} (n : MapLabels N) (see : L → N) (value_item : V → Item) (xs : List (L × V)) {o : Option (List (N × Item))} (b : Bool) (there : List Bool)
    {head mid : List ℕ} (old new : List ℕ) (r : Result T CoseError) → b ≡ true
    → length (filter (λ b. b) there) + length xs < 2 ^ 64
    → head ≡ old ++ least_head 5 (length (filter (λ b. b) there) + length xs)
    → AppendsFields N n.shape.image o there head mid
    → OnOk r (AppendsAll (labelled_image (λ l. n.shape.image (see l)) (map (λ x. (x.0, value_item x.1)) xs)) mid new)
    → IfErr r (HasNoImage (labelled_image (λ l. n.shape.image (see l)) (map (λ x. (x.0, value_item x.1)) xs)))
    → Encodes (entries_image n b (map (as_view see value_item) xs) o) old new r
map-written n see value_item xs {o} b there old new (Ok x) may small first fields (qs, d, q) refused =
    let es = fields.entries in
    let ps = fields.appended.0 in
    let rest = map (as_view see value_item) xs in
    let all = then-added ps qs fields.appended.2 q in
    let image : labelled_image n.shape.image (es ++ rest) ≡ Some (and_pairs ps qs) =
    labelled_image-append n.shape.image es rest ps qs fields.appended.1 (sym (rest-view see value_item n.shape.image xs) ∙ d) in
    let count : pairs_count (and_pairs ps qs) ≡ length (filter (λ b. b) there) + length xs = named-count n.shape.image (es ++ rest) (and_pairs ps qs) image
    ∙ (length-append es rest ∙ (λ i. fields.count i + length-map xs (as_view see value_item) i)) in (
      dict (and_pairs ps qs),
      (λ i. entries_image n (may i) rest (fields.image i)) ∙ ap (option_map dict) image,
      record {
        in_range = (subst (λ k. k < 2 ^ 64) (sym count) small, all.in_range);
        parts =
            all.parts ∙ (ap (λ s. s ++ least_pair_encodings (and_pairs ps qs)) first
            ∙ (append_assoc old (least_head 5 (length (filter (λ b. b) there) + length xs)) (least_pair_encodings (and_pairs ps qs))
            ∙ ap (λ k. old ++ (least_head 5 k ++ least_pair_encodings (and_pairs ps qs))) (sym count)));
      },
    )
map-written n see value_item xs {o} b there old new (Err e) may small first fields rest refused =
    λ m. let none = refused m in (none.0, unwritten n b (map (as_view see value_item) xs) o (sym (rest-view see value_item n.shape.image xs) ∙ none.1))

-- ---- which fields are present

-- A list is present if and only if it is not empty.
pub filled-there : {X : Type 0} (xs : List X) (b : Bool) → b ≡ (length xs == 0) → is_nonempty xs ≡ not b
filled-there [] b e = sym (ap not e)
filled-there (x ∷ xs) b e = sym (ap not e ∙ grind (arith, common_steps))

pub filled-view : {X Y : Type 0} (see : X → Y) (xs : List X) (b : Bool) → b ≡ (length xs == 0) → is_nonempty (map see xs) ≡ not b
filled-view see xs b e = filled-there (map see xs) b (e ∙ ap (λ n. n == 0) (sym (length-map xs see)))

-- A field that is absent appends nothing.
pub left-out : (l : ℤ) (s : List ℕ) (b : Bool) (o : Option Item) → b ≡ false → AppendsField l (field_shape_image b o) s s
left-out l s b o e = (None, ap (λ c. field_shape_image c o) e, nothing-added s)

-- If every value has an item, each field has one.
pub optional-has : {X : Type 0} (f : X → Option Item) → ((x : X) → f x ≡ None → ⊥) → (o : Option X) → field_shape_image (is_some o) (present_image f o) ≡ None
    → ⊥
optional-has f has (Some x) e = go (f x) (has x) e
  where
    go : (q : Option Item) → (q ≡ None → ⊥) → option_map Some q ≡ None → ⊥
    go (Some v) h e = absurd (cc)
    go None h e = h refl
optional-has f has None e = absurd (cc)

-- ---- several pairs

pub taken : {X Y : Type 0} (see : X → Y) (xs : List X) (i : ℕ) (x : X) → i < length xs → x ≡ get_or xs i x
    → map see (take (i + 1) xs) ≡ map see (take i xs) ++ see x ∷ []
taken see xs i x lt is = ap (map see) (take_more xs i x lt) ∙ (map_push see (take i xs) (get_or xs i x) ∙ ap (λ y. map see (take i xs) ++ see y ∷ []) (sym is))

pub row-added :
    {L V : Type 0} (f : L → Option Item) (see : L × V → L × Item) (xs : List (L × V)) (i : ℕ) (x : L × V) {old mid new : List ℕ} → i < length xs
    → x ≡ get_or xs i x → AppendsAll (labelled_image f (map see (take i xs))) old mid
    → AppendsAll (labelled_image f (see x ∷ [])) mid new → AppendsAll (labelled_image f (map see (take (i + 1) xs))) old new
row-added f see xs i x lt is p q = (
  and_pairs p.0 q.0,
  ap (labelled_image f) (taken see xs i x lt is) ∙ labelled_image-append f (map see (take i xs)) (see x ∷ []) p.0 q.0 p.1 q.1,
  then-added p.0 q.0 p.2 q.2,
)

pub around :
    {X Y : Type 0} (see : X → Y) (xs : List X) (i : ℕ) (x : X) → i < length xs → x ≡ get_or xs i x
    → map see xs ≡ map see (take i xs) ++ see x ∷ map see (drop (i + 1) xs)
around see xs i x lt is =
    let after = map see (drop (i + 1) xs) in
    ap (map see) (sym (take-append-drop (i + 1) xs))
    ∙ (map-append see (take (i + 1) xs) (drop (i + 1) xs)
    ∙ (ap (λ ys. ys ++ after) (taken see xs i x lt is) ∙ append_assoc (map see (take i xs)) (see x ∷ []) after))

pub row-none :
    {L V : Type 0} (f : L → Option Item) (value_item : V → Item) (xs : List (L × V)) (i : ℕ) (x : L × V) → i < length xs → x ≡ get_or xs i x → f x.0 ≡ None
    → labelled_image f (map (λ e. (e.0, value_item e.1)) xs) ≡ None
row-none f value_item xs i x lt is e =
    ap (labelled_image f) (around (λ e. (e.0, value_item e.1)) xs i x lt is)
    ∙ labelled_image-none f (map (λ e. (e.0, value_item e.1)) (take i xs)) (map (λ e. (e.0, value_item e.1)) (drop (i + 1) xs)) x.0 (value_item x.1) e

-- No pair is left.
pub rows-done :
    {L V : Type 0} (f : L → Option Item) (see : L × V → L × Item) (xs : List (L × V)) (i : ℕ) {old new : List ℕ} → length xs ≤ i
    → AppendsAll (labelled_image f (map see (take i xs))) old new → AppendsAll (labelled_image f (map see xs)) old new
rows-done f see xs i {old} {new} le p = subst (λ ys. AppendsAll (labelled_image f (map see ys)) old new) (take_all i xs le) p

-- The pairs so far follow the old bytes.
pub rows-kept : {o : Option Pairs} (old new : List ℕ) → AppendsAll o old new → Extends old new
rows-kept old new p = (least_pair_encodings p.0, p.2.parts)

pub label-added : {o : Option Item} {v : Item} {old mid new : List ℕ} → AppendsImage o old mid → AppendsItem mid new v
    → AppendsAll (both (λ k ps. pair k v ps) o (Some no_pairs)) old new
label-added {o} {v} p q = (pair p.0 v no_pairs, ap (λ k. both (λ k ps. pair k v ps) k (Some no_pairs)) p.1, pair-added p.0 v p.2 q)
