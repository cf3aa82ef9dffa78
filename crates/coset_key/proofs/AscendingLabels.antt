-- The labels of a key whose params are in order ascend, except for label 0.
use Rattle.std.proofs.Common.{◌≡◌, ◌≤◌, ◌<◌, ℕ, zero, suc, List, [], ◌∷◌, ◌++◌, Option, Some, None, Bool, true, false, option_map, Contains, refl, sym, ◌∙◌, ap}
use Rattle.std.proofs.Common.{subst, inl, inr, arith, true≢false, Ordering, Less, nat_cmp}
use Rattle.std.specs.Prelude.{◌≢◌, pos, negsuc}
use Rattle.std.specs.List.{AllByRecursion}
use Rattle.std.specs.List.Sorted.{IsPermutation, IsStrictlySortedBy}
use Rattle.std.specs.Map.{keys_of}
use Rattle.std.specs.Ordering.{ordering_then, is_lt}
use Rattle.std.proofs.lemmas.List.Elements.{All-from_recursion, recursion_from_All}
use Rattle.std.proofs.lemmas.List.Sorted.{All-permutation, Contains-permutation}
use Rattle.coset_value.specs.Item.{Item, dict, Pairs, pair, no_pairs}
use Rattle.coset_codec.specs.MapLaws.{IsRest, rest_apart}
use Rattle.coset_codec.specs.Maps.{AreLabelled, entries_image, may_write, labelled_image, put_field}
use Rattle.coset_codec.specs.Shape.{both}
use Rattle.coset_codec.specs.ShapeLaws.{some-one}
use Rattle.coset_label.specs.Labels.{label, cose_labels}
use Rattle.coset_label.specs.LabelData.{LabelView, number, text_label, argument, encoded_length, head_length, label_cmp, label_item}
use Rattle.coset_label.specs.Orderings.{label_cmp_by}
use Rattle.coset_label.specs.SortedLaws.{strictly, above, in-cases}
use Rattle.coset_label.specs.declared.ordering.CborOrdering.{CborOrdering}
use Rattle.coset_label.specs.declared.ordering.CborOrdering.TheVariants.{Lexicographic, LengthFirstLexicographic}
use Rattle.coset_key.specs.Canonical.{IsCanonicalOf, LabelsAscend, ZeroAfterFields, is_field}
use Rattle.coset_key.specs.Keys.{KeyView, FieldTuple, key, fields, parts_of}
use Rattle.coset_key.proofs.CanonicalKeys.{canonical_differ, total_by}

-- ---- the labels that are written

label_of_item : (a b : LabelView) → label.describes (label_item a) b → b ≡ a
label_of_item (number i) (number j) d = ap number (sym (some-one refl d.1.0))
label_of_item (number i) (text_label s) d = absurd (true≢false d.0)
label_of_item (text_label s) (number j) d = absurd (true≢false (sym d.0))
label_of_item (text_label s) (text_label t) d = ap text_label (sym (some-one refl d.1))

label_image : (a : LabelView) → label.image a ≡ Some (label_item a)
label_image (number i) = refl
label_image (text_label s) = refl

both-parts : {A B C : Type 0} (f : A → B → C) (p : Option A) (q : Option B) (c : C) → both f p q ≡ Some c → (a : A) × (b : B) × (p ≡ Some a) × (q ≡ Some b)
    × (f a b ≡ c)
both-parts f (Some a) (Some b) c h = (a, b, refl, refl, some-one refl h)
both-parts f (Some a) None c h = absurd (cc)
both-parts f None q c h = absurd (cc)

-- The pairs of an image have the labels from which they were written.
none_written : (es : List (LabelView × Item)) → AreLabelled label.describes no_pairs es → es ≡ []
none_written [] n = refl
none_written (e ∷ es) n = absurd n

first_written :
    (f : LabelView × Item) (fs : List (LabelView × Item)) (k : Item) (qs : Pairs) (es : List (LabelView × Item)) → k ≡ label_item f.0
    → ((ds : List (LabelView × Item)) → AreLabelled label.describes qs ds → ds ≡ fs)
    → AreLabelled label.describes (pair k f.1 qs) es → es ≡ f ∷ fs
first_written f fs k qs [] same later n = absurd n
first_written f fs k qs (e ∷ es) same later n =
    let l : e.0 ≡ f.0 = label_of_item f.0 e.0 (subst (λ j. label.describes j e.0) same n.0) in
    λ i. (l i, sym n.1 i) ∷ later es n.2 i

labels_written : (fs : List (LabelView × Item)) (ps : Pairs) (es : List (LabelView × Item)) → labelled_image label.image fs ≡ Some ps
    → AreLabelled label.describes ps es → es ≡ fs
labels_written [] ps es h p = none_written es (subst (λ qs. AreLabelled label.describes qs es) (sym (some-one refl h)) p)
labels_written (f ∷ fs) ps es h p =
    let b = both-parts (λ k qs. pair k f.1 qs) (label.image f.0) (labelled_image label.image fs) ps h in
    first_written f fs b.0 b.1 es (some-one b.2 (label_image f.0)) (λ ds n. labels_written fs b.1 ds b.3 n)
    (subst (λ qs. AreLabelled label.describes qs es) (sym b.4) p)

image_parts : (b : Bool) (rest : List (LabelView × Item)) (m : Option (List (LabelView × Item))) (ps : Pairs) → entries_image cose_labels b rest m
    ≡ Some (dict ps)
    → (cs : List (LabelView × Item)) × (m ≡ Some cs) × (labelled_image label.image (cs ++ rest) ≡ Some ps)
image_parts true rest (Some cs) ps h = (cs, refl, go (labelled_image label.image (cs ++ rest)) h)
  where
    go : (o : Option Pairs) → option_map dict o ≡ Some (dict ps) → o ≡ Some ps
    go None k = absurd (cc)
    go (Some qs) k = ap Some (cc)
image_parts true rest None ps h = absurd (cc)
image_parts false rest m ps h = absurd (cc)

-- The pairs of an image are the fields of the key, followed by its params.
pub fields_and_params : (x : KeyView) (ps : Pairs) (es : List (LabelView × Item)) → key.image x ≡ Some (dict ps) → AreLabelled label.describes ps es
    → (cs : List (LabelView × Item)) × (fields.image (parts_of x).0 ≡ Some cs) × (es ≡ cs ++ x.params)
unfolding key
fields_and_params x ps es h p =
    let i = image_parts (may_write cose_labels true x.params) x.params (fields.image (parts_of x).0) ps h in
    (i.0, i.1, labels_written (i.0 ++ x.params) ps es i.2 p)

-- ---- the order of two labels

less : (m n : ℕ) → m < n → nat_cmp m n ≡ Less
less m n h = grind arith

head-filled : (n : ℕ) → 1 ≤ head_length n
head-filled n = grind arith

filled : (b : LabelView) → 1 ≤ encoded_length b
filled b = omega (arith, head-filled (argument b))

head-one : (n : ℕ) → n < 24 → head_length n ≡ 1
head-one n h = grind arith

then-less : (n : ℕ) (p : Ordering) → 1 ≤ n → p ≡ Less → ordering_then (nat_cmp 1 n) p ≡ Less
then-less n p h q = grind arith

then-not-less : (n : ℕ) (p : Ordering) → 1 ≤ n → is_lt p ≡ false → is_lt (ordering_then (nat_cmp n 1) p) ≡ false
then-not-less n p h q = grind arith

-- If `label_cmp` puts a one-byte number before a label, both orders do, because no encoding is shorter than one byte.
less-by : (o : CborOrdering) (c : ℕ) (b : LabelView) → c < 24 → label_cmp (number (pos c)) b ≡ Less → label_cmp_by o (number (pos c)) b ≡ Less
less-by Lexicographic c b k h = h
less-by LengthFirstLexicographic c b k h =
    let e : encoded_length (number (pos c)) ≡ 1 = omega (arith, head-one c k) in
    (λ i. ordering_then (nat_cmp (e i) (encoded_length b)) (label_cmp (number (pos c)) b))
    ∙ then-less (encoded_length b) (label_cmp (number (pos c)) b) (filled b) h

-- The labels of the fields ascend.
ascends : (o : CborOrdering) (m n : ℕ) → m < n → n ≤ 5 → label_cmp_by o (number (pos m)) (number (pos n)) ≡ Less
ascends o m n h k = less-by o m (number (pos n)) (omega arith) (rw (less m n h) refl)

-- A label that is neither a field's nor 0.
abbrev IsOther : LabelView → Type 0
IsOther l = (is_field l ≡ false) × (l ≢ number (pos 0))

beyond : (n : ℕ) → IsOther (number (pos n)) → 5 < n
beyond zero h = absurd (h.1 refl)
beyond (suc zero) h = absurd (true≢false h.0)
beyond (suc (suc zero)) h = absurd (true≢false h.0)
beyond (suc (suc (suc zero))) h = absurd (true≢false h.0)
beyond (suc (suc (suc (suc zero)))) h = absurd (true≢false h.0)
beyond (suc (suc (suc (suc (suc zero))))) h = absurd (true≢false h.0)
beyond (suc (suc (suc (suc (suc (suc n)))))) h = omega arith

is_field-number : (n : ℕ) → 1 ≤ n → n ≤ 5 → is_field (number (pos n)) ≡ true
is_field-number zero h k = absurd (omega (arith, h))
is_field-number (suc zero) h k = refl
is_field-number (suc (suc zero)) h k = refl
is_field-number (suc (suc (suc zero))) h k = refl
is_field-number (suc (suc (suc (suc zero)))) h k = refl
is_field-number (suc (suc (suc (suc (suc zero))))) h k = refl
is_field-number (suc (suc (suc (suc (suc (suc n)))))) h k = absurd (omega (arith, k))

-- The labels 0 to 5 are less than all labels that are neither a field's nor 0.
above-fields : (o : CborOrdering) (c : ℕ) (b : LabelView) → c ≤ 5 → IsOther b → label_cmp_by o (number (pos c)) b ≡ Less
above-fields o c b k h = less-by o c b (omega arith) (by b h)
  where
    by : (b : LabelView) → IsOther b → label_cmp (number (pos c)) b ≡ Less
    by (number (pos n)) h = rw (less c n (omega (arith, beyond n h, k))) refl
    by (number (negsuc n)) h = refl
    by (text_label s) h = refl

-- No label is less than 0.
zero_least : (o : CborOrdering) (b : LabelView) → is_lt (label_cmp_by o b (number (pos 0))) ≡ false
zero_least o b = by o
  where
    first : (b : LabelView) → is_lt (label_cmp b (number (pos 0))) ≡ false
    first (number (pos n)) = grind arith
    first (number (negsuc n)) = refl
    first (text_label s) = refl

    by : (o : CborOrdering) → is_lt (label_cmp_by o b (number (pos 0))) ≡ false
    by Lexicographic = first b
    by LengthFirstLexicographic = then-not-less (encoded_length b) (label_cmp b (number (pos 0))) (filled b) (first b)

-- ---- the fields

all-keys : (P : LabelView → Type 0) (es : List (LabelView × Item)) → AllByRecursion (λ e. P e.0) es → AllByRecursion P (keys_of es)
all-keys P [] h = tt
all-keys P (e ∷ es) h = (h.0, all-keys P es h.1)

all-of-keys : (P : LabelView → Type 0) (es : List (LabelView × Item)) → AllByRecursion P (keys_of es) → AllByRecursion (λ e. P e.0) es
all-of-keys P [] h = tt
all-of-keys P (e ∷ es) h = (h.0, all-of-keys P es h.1)

all-weaker : {X : Type 0} (P Q : X → Type 0) → ((x : X) → P x → Q x) → (xs : List X) → AllByRecursion P xs → AllByRecursion Q xs
all-weaker P Q f [] h = tt
all-weaker P Q f (x ∷ xs) h = (f x h.0, all-weaker P Q f xs h.1)

all-and : {X : Type 0} (P Q : X → Type 0) (xs : List X) → AllByRecursion P xs → AllByRecursion Q xs → AllByRecursion (λ x. P x × Q x) xs
all-and P Q [] h k = tt
all-and P Q (x ∷ xs) h k = ((h.0, k.0), all-and P Q xs h.1 k.1)

all-both : {X : Type 0} (P : X → Type 0) (xs ys : List X) → AllByRecursion P xs → AllByRecursion P ys → AllByRecursion P (xs ++ ys)
all-both P [] ys h k = k
all-both P (x ∷ xs) ys h k = (h.0, all-both P xs ys h.1 k)

all-moved : {X : Type 0} (P : X → Type 0) (xs ys : List X) → IsPermutation xs ys → AllByRecursion P xs → AllByRecursion P ys
all-moved P xs ys m h = recursion_from_All P ys (All-permutation P xs ys m (All-from_recursion P xs h))

-- The label is a number from `c` to 5.
record IsFrom (c : ℕ) (l : LabelView) : Type 0 where
  pub at : ℕ
  pub is : l ≡ number (pos at)
  pub low : c ≤ at
  pub high : at ≤ 5

-- Pairs whose labels ascend and are numbers from `c` to 5.
record Rises (o : CborOrdering) (c : ℕ) (es : List (LabelView × Item)) : Type 0 where
  pub each : AllByRecursion (λ e. IsFrom c e.0) es
  pub ascending : IsStrictlySortedBy (label_cmp_by o) (keys_of es)

put_rises : (o : CborOrdering) (c : ℕ) (q : Option Item) (es : List (LabelView × Item)) → c ≤ 5 → Rises o (suc c) es
    → Rises o c (put_field (number (pos c)) q es)
unfolding IsStrictlySortedBy
put_rises o c q es h r = by q
  where
    later : AllByRecursion (λ e. IsFrom c e.0) es
    later = all-weaker (λ e. IsFrom (suc c) e.0) (λ e. IsFrom c e.0)
        (λ e f. record { at = f.at; is = f.is; low = omega (arith, f.low); high = f.high }) es r.each

    greater : (l : LabelView) → IsFrom (suc c) l → label_cmp_by o (number (pos c)) l ≡ Less
    greater l f = subst (λ m. label_cmp_by o (number (pos c)) m ≡ Less) (sym f.is) (ascends o c f.at (omega (arith, f.low)) f.high)

    by : (q : Option Item) → Rises o c (put_field (number (pos c)) q es)
    by (Some v) =
        record {
          each = (record { at = c; is = refl; low = omega arith; high = h }, later);
          ascending = (
            all-keys (λ l. label_cmp_by o (number (pos c)) l ≡ Less) es
                (all-weaker (λ e. IsFrom (suc c) e.0) (λ e. label_cmp_by o (number (pos c)) e.0 ≡ Less) (λ e f. greater e.0 f) es r.each),
            r.ascending,
          );
        }
    by None = record { each = later; ascending = r.ascending }

field_rises :
    (o : CborOrdering) (c : ℕ) (p : Option (Option Item)) (q : Option (List (LabelView × Item))) → c ≤ 5
    → ((es : List (LabelView × Item)) → q ≡ Some es → Rises o (suc c) es)
    → (es : List (LabelView × Item)) → both (put_field (number (pos c))) p q ≡ Some es → Rises o c es
field_rises o c p q k rises es h =
    let b = both-parts (put_field (number (pos c))) p q es h in
    subst (Rises o c) b.4 (put_rises o c b.0 b.1 k (rises b.1 b.3))

none_rises : (o : CborOrdering) (c : ℕ) (es : List (LabelView × Item)) → Some [] ≡ Some es → Rises o c es
unfolding IsStrictlySortedBy
none_rises o c es h = subst (Rises o c) (some-one refl h) (record { each = tt; ascending = tt })

fields_rise : (o : CborOrdering) (x : FieldTuple) (es : List (LabelView × Item)) → fields.image x ≡ Some es → Rises o 1 es
fields_rise o x =
    field_rises o 1 _ _ (omega arith)
    (field_rises o 2 _ _ (omega arith)
    (field_rises o 3 _ _ (omega arith)
    (field_rises o 4 _ _ (omega arith)
    (field_rises o 5 _ _ (omega arith) (none_rises o 6)))))

-- ---- fields, followed by others

-- A field's label is less than all labels that are neither a field's nor 0.
less-than-others : (o : CborOrdering) (l m : LabelView) → IsFrom 1 l → IsOther m → label_cmp_by o l m ≡ Less
less-than-others o l m f h = subst (λ n. label_cmp_by o n m ≡ Less) (sym f.is) (above-fields o f.at m f.high h)

joined : (o : CborOrdering) (cs rs : List (LabelView × Item)) → Rises o 1 cs → IsStrictlySortedBy (label_cmp_by o) (keys_of rs)
    → AllByRecursion (λ e. IsOther e.0) rs
    → IsStrictlySortedBy (label_cmp_by o) (keys_of (cs ++ rs))
unfolding IsStrictlySortedBy
joined o [] rs r s h = s
joined o (c ∷ cs) rs r s h =
    let below : LabelView → Type 0 = λ l. label_cmp_by o c.0 l ≡ Less in
    let others = all-weaker (λ e. IsOther e.0) (λ e. below e.0) (λ e f. less-than-others o c.0 e.0 r.each.0 f) rs h in (
      all-keys below (cs ++ rs) (all-both (λ e. below e.0) cs rs (all-of-keys below cs r.ascending.0) others),
      joined o cs rs (record { each = r.each.1; ascending = r.ascending.1 }) s h,
    )

-- No param has a field's label, also once the params are in order.
others_apart : (o : CborOrdering) (v : Item) (k x : KeyView) → key.describes v k → IsCanonicalOf o k x → AllByRecursion (λ e. is_field e.0 ≡ false) x.params
unfolding key
others_apart o v k x p c =
    let e = p.0.2 in
    all-moved (λ e. is_field e.0 ≡ false) k.params x.params c.agree.params
    (subst (IsRest cose_labels fields.labels) (sym e.rest) (rest_apart cose_labels fields.labels e.entries))

params_ascend : (o : CborOrdering) (v : Item) (k x : KeyView) → key.describes v k → IsCanonicalOf o k x → IsStrictlySortedBy (label_cmp_by o) (keys_of x.params)
params_ascend o v k x p c = strictly (total_by o) x.params (canonical_differ o v k x p c) c.ordered

pub labels_ascend : (o : CborOrdering) → LabelsAscend o
labels_ascend o k es w none =
    let x = w.canonical in
    let f = fields_and_params x w.pairs es w.is_image w.named in
    let others = all-and (λ e. is_field e.0 ≡ false) (λ e. e.0 ≢ number (pos 0)) x.params (others_apart o w.source k x w.read w.is_canonical)
    (all-moved (λ e. e.0 ≢ number (pos 0)) k.params x.params w.is_canonical.agree.params none) in
    subst (λ fs. IsStrictlySortedBy (label_cmp_by o) (keys_of fs)) (sym f.2)
    (joined o f.0 x.params (fields_rise o (parts_of x).0 f.0 f.1) (params_ascend o w.source k x w.read w.is_canonical) others)

-- ---- label 0

-- If the labels ascend, label 0 is the first.
zero_first :
    (o : CborOrdering) (v : Item) (es : List (LabelView × Item)) → IsStrictlySortedBy (label_cmp_by o) (keys_of es) → Contains es (number (pos 0), v)
    → (back : List (LabelView × Item)) × (es ≡ (number (pos 0), v) ∷ back)
zero_first o v [] s c = absurd (omega (arith, c.1))
zero_first o v (e ∷ es) s c =
    elim (in-cases (total_by o) e es (number (pos 0), v) c) [
      | inl h ↦ (es, λ i. h i ∷ es)
      | inr m ↦ absurd (true≢false (sym (ap is_lt (above (total_by o) e es (number (pos 0), v) s m)) ∙ zero_least o e.0))
    ]

-- No later label is 0.
no-zero : (o : CborOrdering) (v : Item) (es : List (LabelView × Item)) → IsStrictlySortedBy (label_cmp_by o) (keys_of ((number (pos 0), v) ∷ es))
    → AllByRecursion (λ e. e.0 ≢ number (pos 0)) es
unfolding IsStrictlySortedBy
no-zero o v es s =
    all-weaker (λ e. label_cmp_by o (number (pos 0)) e.0 ≡ Less) (λ e. e.0 ≢ number (pos 0))
    (λ e h q. itself (subst (λ l. label_cmp_by o (number (pos 0)) l ≡ Less) q h)) es
    (all-of-keys (λ l. label_cmp_by o (number (pos 0)) l ≡ Less) es s.0)
  where
    itself : label_cmp_by o (number (pos 0)) (number (pos 0)) ≡ Less → ⊥
    itself h = true≢false (sym (ap is_lt h) ∙ zero_least o (number (pos 0)))

tail_ascends : (o : CborOrdering) (e : LabelView × Item) (es : List (LabelView × Item)) → IsStrictlySortedBy (label_cmp_by o) (keys_of (e ∷ es))
    → IsStrictlySortedBy (label_cmp_by o) (keys_of es)
unfolding IsStrictlySortedBy
tail_ascends o e es s = s.1

pub zero_after_fields : (o : CborOrdering) → ZeroAfterFields o
zero_after_fields o k es v w c =
    let x = w.canonical in
    let f = fields_and_params x w.pairs es w.is_image w.named in
    let rises = fields_rise o (parts_of x).0 f.0 f.1 in
    let s = params_ascend o w.source k x w.read w.is_canonical in
    let z = zero_first o v x.params s (Contains-permutation k.params x.params (number (pos 0), v) w.is_canonical.agree.params c) in
    let t : IsStrictlySortedBy (label_cmp_by o) (keys_of ((number (pos 0), v) ∷ z.0)) = subst (λ fs. IsStrictlySortedBy (label_cmp_by o) (keys_of fs)) z.1 s in
    let apart : AllByRecursion (λ e. is_field e.0 ≡ false) ((number (pos 0), v) ∷ z.0) =
    subst (AllByRecursion (λ e. is_field e.0 ≡ false)) z.1 (others_apart o w.source k x w.read w.is_canonical) in
    record {
      front = f.0;
      back = z.0;
      parts = f.2 ∙ ap (λ fs. f.0 ++ fs) z.1;
      fields = all-weaker (λ e. IsFrom 1 e.0) (λ e. is_field e.0 ≡ true) (λ e i. ap is_field i.is ∙ is_field-number i.at i.low i.high) f.0 rises.each;
      params = apart.1;
      others = joined o f.0 z.0 rises (tail_ascends o (number (pos 0), v) z.0 t)
          (all-and (λ e. is_field e.0 ≡ false) (λ e. e.0 ≢ number (pos 0)) z.0 apart.1 (no-zero o v z.0 t));
    }
