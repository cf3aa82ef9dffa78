-- Items at the start of the input, and the elements of an array or map after its head.
use Rattle.std.proofs.Common.{◌≡◌, ◌≢◌, ℕ, zero, suc, ◌+◌, ◌<◌, ◌≤◌, true, false, ltb, List, [], ◌∷◌, ◌++◌, length, drop, ◌-◌, inl, inr, ◌⊎◌, Option, Some}
use Rattle.std.proofs.Common.{None, Result, Ok, Err, option_map, refl, sym, ap, subst, ◌∙◌, arith}
use Rattle.std.proofs.lemmas.List.{length-append}
use Rattle.std.proofs.lemmas.Bool.{true≢false, ltb-false}
use Rattle.std.specs.Prelude.{◌/◌, ◌^◌}
use Rattle.coset_cbor.specs.declared.cursor.Remaining.{Remaining}
use Rattle.coset_cbor.specs.declared.fault.Fault.{Fault}
use Rattle.coset_cbor.specs.declared.fault.Fault.TheVariants.{End}
use Rattle.coset_cbor.specs.declared.head.MajorType.{MajorType}
use Rattle.coset_cbor.specs.declared.head.MajorType.TheVariants as major_types
use Rattle.coset_cbor.specs.Heads.{Argument, HeadView, major_type_number}
use Rattle.coset_cbor.specs.Heads as places
use Rattle.coset_value.specs.Item.{Item, array, dict, Items, no_items, item, items_count}
use Rattle.coset_value.specs.View.{items_of, pairs_of}
use Rattle.coset_value.specs.Parts.{as_array}
use Rattle.coset_cbor.specs.Grammar.{IsItem}
use Rattle.coset_cbor.specs.Reading.{◌>>=◌, number_of, head_at, begins_break, times_at, until_at, pair_at, things, item_by, item_at}
use Rattle.coset_cbor.specs.Skips.{item_major_type}
use Rattle.coset_cbor.specs.Cursors.{ItemAt, AreAt, AreWithin, Doubles, keys_and_values, map_items}
use Rattle.coset_cbor.proofs.Takes.{IsBytes, IsArgumentEncoding, bind_ok, ok_is, guard_ok, chosen, break_is, head_takes, item_takes}
use Rattle.coset_cbor.proofs.Again.{IsEncoding-begins, item_again}
use Rattle.coset_cbor.proofs.Between.{major_type_by, is_array, is_map}

abbrev done : Item × List ℕ → Result (Item × List ℕ) Fault
done x = Ok x

abbrev one_of : Item × List ℕ → Item
one_of x = x.0

abbrev rest_of : {A : Type 0} → A × List ℕ → List ℕ
rest_of x = x.1

-- ---- an item at the start

pub stands_read : (v : Item) (s a : List ℕ) → ItemAt v s a → item_at 256 s ≡ Ok (v, a)
unfolding ItemAt
stands_read v s a (f, e, is) = ap (item_at 256) e ∙ item_again 256 v f a is.0 is.1

pub stands_item : (v : Item) (f s a : List ℕ) → IsItem f v → s ≡ f ++ a → ItemAt v s a
unfolding ItemAt
stands_item v f s a is e = (f, e, is)

pub stands_same : (v w : Item) (s a b : List ℕ) → ItemAt v s a → ItemAt w s b → a ≡ b
stands_same v w s a b e f = ap rest_of (ok_is (v, a) (w, b) (sym (stands_read v s a e) ∙ stands_read w s b f))

-- At most one item is at the start.
pub stands_is : (v w : Item) (s a b : List ℕ) → ItemAt v s a → ItemAt w s b → v ≡ w
stands_is v w s a b e f = ap one_of (ok_is (v, a) (w, b) (sym (stands_read v s a e) ∙ stands_read w s b f))

-- An item takes at least one byte.
pub stands_shorter : (v : Item) (s a : List ℕ) → ItemAt v s a → length a < length s
unfolding ItemAt
stands_shorter v s a (f, parts, is) =
    let g = IsEncoding-begins v f is.0 in
    let some : length f ≡ suc (length g.more) = ap length g.parts in
    let size : length s ≡ length f + length a = ap length parts ∙ length-append f a in
    omega arith

pub stands_begins : (v : Item) (s a : List ℕ) → ItemAt v s a → (f : List ℕ) × (s ≡ f ++ a) × IsItem f v
unfolding ItemAt
stands_begins v s a stands = stands

err_ok : {A : Type 0} (f : Fault) (y : A) → ◌≡◌ {A = Result A Fault} (Err f) (Ok y) → ⊥
err_ok f y e = cc

pub stands_head : (v : Item) (s a : List ℕ) (f : Fault) → ItemAt v s a → head_at s ≡ Err f → ⊥
unfolding item_at
stands_head v s a f whole e =
    err_ok f (v, a) (sym (ap (λ (r : Result (HeadView × List ℕ) Fault). r >>= λ x. item_by (things (item_at 255)) (length s) x.0.argument x.0.major_type x.1) e)
    ∙ stands_read v s a whole)

pub stands_by : (v : Item) (s a : List ℕ) (h : HeadView × List ℕ) → ItemAt v s a → head_at s ≡ Ok h
    → item_by (things (item_at 255)) (length s) h.0.argument h.0.major_type h.1 ≡ Ok (v, a)
unfolding item_at
stands_by v s a h whole e =
    sym (ap (λ (r : Result (HeadView × List ℕ) Fault). r >>= λ x. item_by (things (item_at 255)) (length s) x.0.argument x.0.major_type x.1) e)
    ∙ stands_read v s a whole

pub stands_major_type : (v : Item) (s a : List ℕ) (h : HeadView × List ℕ) → ItemAt v s a → head_at s ≡ Ok h → item_major_type v ≡ h.0.major_type
stands_major_type v s a h whole e = major_type_by (things (item_at 255)) (length s) h.0.argument h.0.major_type h.1 (v, a) (stands_by v s a h whole e)

-- ---- elements

deeper : (s : List ℕ) (x : Item × List ℕ) → IsBytes s → item_at 255 s ≡ Ok x → ItemAt x.0 s x.1
unfolding ItemAt
deeper s x fits e =
    let t = item_takes 255 s x fits e in
    let low = t.encoding.1 in
    (t.front, t.parts, (t.encoding.0, omega arith))

elements_times : (n : ℕ) (s : List ℕ) (x : List Item × List ℕ) → IsBytes s → times_at (item_at 255) n s ≡ Ok x → (n ≡ items_count (items_of x.0))
    × AreAt (items_of x.0) s x.1
unfolding times_at AreAt
elements_times zero s x fits e =
    let same = ok_is ([], s) x e in
    subst (λ (y : List Item × List ℕ). (0 ≡ items_count (items_of y.0)) × AreAt (items_of y.0) s y.1) same (refl, refl)
elements_times (suc n) s x fits e =
    let a = bind_ok (item_at 255 s) (λ x. times_at (item_at 255) n x.1 >>= λ xs. Ok (x.0 ∷ xs.0, xs.1)) x e in
    let b = bind_ok (times_at (item_at 255) n a.0.1) (λ xs. Ok (a.0.0 ∷ xs.0, xs.1)) x a.2 in
    let t = item_takes 255 s a.0 fits a.1 in
    let others = elements_times n a.0.1 b.0 t.rest_fits b.1 in
    let made : List Item × List ℕ = (a.0.0 ∷ b.0.0, b.0.1) in
    subst (λ (y : List Item × List ℕ). (suc n ≡ items_count (items_of y.0)) × AreAt (items_of y.0) s y.1) (ok_is made x b.2)
    (ap suc others.0, (a.0.1, deeper s a.0 fits a.1, others.1))

elements_until : (turns : ℕ) (s : List ℕ) (x : List Item × List ℕ) → IsBytes s → until_at (item_at 255) turns s ≡ Ok x → AreAt (items_of x.0) s (255 ∷ x.1)
unfolding until_at AreAt
elements_until zero s x fits e = absurd cc
elements_until (suc turns) s x fits e = elim (chosen (begins_break s) _ _ _ e) [
  | inl c ↦ subst (λ (y : List Item × List ℕ). AreAt (items_of y.0) s (255 ∷ y.1)) (ok_is ([], drop 1 s) x c.1) (break_is s c.0)
  | inr c ↦
      let a = bind_ok (item_at 255 s) (λ x. until_at (item_at 255) turns x.1 >>= λ xs. Ok (x.0 ∷ xs.0, xs.1)) x c.1 in
      let b = bind_ok (until_at (item_at 255) turns a.0.1) (λ xs. Ok (a.0.0 ∷ xs.0, xs.1)) x a.2 in
      let t = item_takes 255 s a.0 fits a.1 in
      let made : List Item × List ℕ = (a.0.0 ∷ b.0.0, b.0.1) in
      subst (λ (y : List Item × List ℕ). AreAt (items_of y.0) s (255 ∷ y.1)) (ok_is made x b.2)
      (a.0.1, deeper s a.0 fits a.1, elements_until turns a.0.1 b.0 t.rest_fits b.1)
]

-- ---- arrays

some_is : (m n : ℕ) → ◌≡◌ {A = Option ℕ} (Some m) (Some n) → m ≡ n
some_is m n e = cc

none_some : (n : ℕ) → ◌≡◌ {A = Option ℕ} None (Some n) → ⊥
none_some n e = cc

within_by : (o : Option ℕ) (s : List ℕ) (y : List Item × List ℕ) → IsBytes s → (things (item_at 255)).items o s ≡ Ok y
    → AreWithin (record { left = o }) (items_of y.0) s y.1
unfolding things
within_by None s y fits e = record {
  definite = λ n is. absurd (none_some n is);
  indefinite = λ _. elements_until (length s) s y fits e;
}
within_by (Some n) s y fits e =
    let all = elements_times n s y fits (guard_ok (ltb (length s) n) End (times_at (item_at 255) n s) y e).1 in
    record {
      definite = λ m is. (sym (some_is n m is) ∙ all.0, all.1);
      indefinite = λ is. absurd (none_some n (sym is));
    }

-- The elements of the array begin after its head.
pub record Entered (v : Item) (o : Option ℕ) (s a : List ℕ) : Type 0 where
  pub elements : Items
  pub is_array : as_array v ≡ Some elements
  pub within : AreWithin (record { left = o }) elements s a

array_by_major_type : (left : ℕ) (g : Argument) (k : MajorType) (s : List ℕ) (v : Item) (a : List ℕ) → IsBytes s → k ≡ major_types.Array
    → item_by (things (item_at 255)) left g k s ≡ Ok (v, a) → Entered v (number_of g) s a
array_by_major_type left g major_types.Array s v a fits k e =
    let r = bind_ok ((things (item_at 255)).items (number_of g) s) (λ y. Ok (array (items_of y.0), y.1)) (v, a) e in
    let same = ok_is (array (items_of r.0.0), r.0.1) (v, a) r.2 in
    record {
      elements = items_of r.0.0;
      is_array = ap (λ (x : Item × List ℕ). as_array x.0) (sym same);
      within = subst (λ (b : List ℕ). AreWithin (record { left = number_of g }) (items_of r.0.0) s b) (ap rest_of same)
          (within_by (number_of g) s r.0 fits r.1);
    }
array_by_major_type left g major_types.Unsigned s v a fits k e = absurd cc
array_by_major_type left g major_types.Negative s v a fits k e = absurd cc
array_by_major_type left g major_types.Bytes s v a fits k e = absurd cc
array_by_major_type left g major_types.Text s v a fits k e = absurd cc
array_by_major_type left g major_types.Map s v a fits k e = absurd cc
array_by_major_type left g major_types.Tag s v a fits k e = absurd cc
array_by_major_type left g major_types.Simple s v a fits k e = absurd cc

pub array_read : (v : Item) (s a : List ℕ) (h : HeadView × List ℕ) (o : Option ℕ) → IsBytes s → ItemAt v s a → head_at s ≡ Ok h
    → h.0.major_type ≡ major_types.Array → o ≡ number_of h.0.argument → Entered v o h.1 a
array_read v s a h o fits whole e k number =
    subst (λ (p : Option ℕ). Entered v p h.1 a) (sym number)
    (array_by_major_type (length s) h.0.argument h.0.major_type h.1 v a (head_takes s h fits e).rest_fits k (stands_by v s a h whole e))

pub no_array : (v : Item) (s a : List ℕ) (h : HeadView × List ℕ) → ItemAt v s a → head_at s ≡ Ok h → h.0.major_type ≢ major_types.Array → as_array v ≡ None
no_array v s a h whole e k = elim (is_array v) [
  | inl x ↦ absurd (k (sym (stands_major_type v s a h whole e) ∙ ap item_major_type x.1))
  | inr x ↦ x.0
]

head_some : (m : ℕ) (g : Argument) (f : List ℕ) → IsArgumentEncoding m g f → 0 < length f
head_some m (places.Within n) f h = let l = ap length h.1 in omega (arith, l)
head_some m (places.One n) f h = let l = ap length h.1 in omega (arith, l)
head_some m (places.Two n) f h = let l = ap length h.1 in omega (arith, l)
head_some m (places.Four n) f h = let l = ap length h.1 in omega (arith, l)
head_some m (places.Eight n) f h = let l = ap length h.1 in omega (arith, l)
head_some m places.Indefinite f h = let l = ap length h in omega (arith, l)

pub head_shorter : (s : List ℕ) (h : HeadView × List ℕ) → IsBytes s → head_at s ≡ Ok h → length h.1 < length s
head_shorter s h fits e =
    let t = head_takes s h fits e in
    let some = head_some (major_type_number h.0.major_type) h.0.argument t.front t.encoding in
    let size : length s ≡ length t.front + length h.1 = ap length t.parts ∙ length-append t.front h.1 in
    omega arith

-- ---- maps

abbrev Entry : Type 0
Entry = Item × Item

-- A key and then its value are at the start of s.
record PairAt (s : List ℕ) (y : Entry × List ℕ) : Type 0 where
  pub mid : List ℕ
  pub key : item_at 255 s ≡ Ok (y.0.0, mid)
  pub value : item_at 255 mid ≡ Ok (y.0.1, y.1)

pair_parts : (s : List ℕ) (y : Entry × List ℕ) → pair_at (item_at 255) s ≡ Ok y → PairAt s y
pair_parts s y e =
    let a = bind_ok (item_at 255 s) (λ k. item_at 255 k.1 >>= λ v. Ok ((k.0, v.0), v.1)) y e in
    let b = bind_ok (item_at 255 a.0.1) (λ v. Ok ((a.0.0, v.0), v.1)) y a.2 in
    let made : Entry × List ℕ = ((a.0.0, b.0.0), b.0.1) in
    subst (λ (z : Entry × List ℕ). PairAt s z) (ok_is made y b.2) (record { mid = a.0.1; key = a.1; value = b.1 })

-- The input after an item is bytes too.
rest_fits : (s : List ℕ) (x : Item × List ℕ) → IsBytes s → item_at 255 s ≡ Ok x → IsBytes x.1
rest_fits s x fits e = (item_takes 255 s x fits e).rest_fits

pair_fits : (s : List ℕ) (y : Entry × List ℕ) → IsBytes s → PairAt s y → IsBytes y.1
pair_fits s y fits p = rest_fits p.mid (y.0.1, y.1) (rest_fits s (y.0.0, p.mid) fits p.key) p.value

pair_stands : (s : List ℕ) (y : Entry × List ℕ) (vs : Items) (a : List ℕ) → IsBytes s → PairAt s y → AreAt vs y.1 a → AreAt (item y.0.0 (item y.0.1 vs)) s a
unfolding AreAt
pair_stands s y vs a fits p h =
    (p.mid, deeper s (y.0.0, p.mid) fits p.key, (y.1, deeper p.mid (y.0.1, y.1) (rest_fits s (y.0.0, p.mid) fits p.key) p.value, h))

pairs_times : (n : ℕ) (s : List ℕ) (x : List Entry × List ℕ) → IsBytes s → times_at (pair_at (item_at 255)) n s ≡ Ok x
    → (n + n ≡ items_count (keys_and_values (pairs_of x.0))) × AreAt (keys_and_values (pairs_of x.0)) s x.1
unfolding times_at AreAt
pairs_times zero s x fits e =
    let same = ok_is ([], s) x e in
    subst (λ (y : List Entry × List ℕ). (0 ≡ items_count (keys_and_values (pairs_of y.0))) × AreAt (keys_and_values (pairs_of y.0)) s y.1) same (refl, refl)
pairs_times (suc n) s x fits e =
    let a = bind_ok (pair_at (item_at 255) s) (λ x. times_at (pair_at (item_at 255)) n x.1 >>= λ xs. Ok (x.0 ∷ xs.0, xs.1)) x e in
    let b = bind_ok (times_at (pair_at (item_at 255)) n a.0.1) (λ xs. Ok (a.0.0 ∷ xs.0, xs.1)) x a.2 in
    let p = pair_parts s a.0 a.1 in
    let others = pairs_times n a.0.1 b.0 (pair_fits s a.0 fits p) b.1 in
    let made : List Entry × List ℕ = (a.0.0 ∷ b.0.0, b.0.1) in
    let count = others.0 in
    subst (λ (y : List Entry × List ℕ). (suc n + suc n ≡ items_count (keys_and_values (pairs_of y.0))) × AreAt (keys_and_values (pairs_of y.0)) s y.1)
    (ok_is made x b.2)
    (omega (arith, count), pair_stands s a.0 (keys_and_values (pairs_of b.0.0)) b.0.1 fits p others.1)

pairs_until : (turns : ℕ) (s : List ℕ) (x : List Entry × List ℕ) → IsBytes s → until_at (pair_at (item_at 255)) turns s ≡ Ok x
    → AreAt (keys_and_values (pairs_of x.0)) s (255 ∷ x.1)
unfolding until_at AreAt
pairs_until zero s x fits e = absurd cc
pairs_until (suc turns) s x fits e = elim (chosen (begins_break s) _ _ _ e) [
  | inl c ↦ subst (λ (y : List Entry × List ℕ). AreAt (keys_and_values (pairs_of y.0)) s (255 ∷ y.1)) (ok_is ([], drop 1 s) x c.1) (break_is s c.0)
  | inr c ↦
      let a = bind_ok (pair_at (item_at 255) s) (λ x. until_at (pair_at (item_at 255)) turns x.1 >>= λ xs. Ok (x.0 ∷ xs.0, xs.1)) x c.1 in
      let b = bind_ok (until_at (pair_at (item_at 255)) turns a.0.1) (λ xs. Ok (a.0.0 ∷ xs.0, xs.1)) x a.2 in
      let p = pair_parts s a.0 a.1 in
      let made : List Entry × List ℕ = (a.0.0 ∷ b.0.0, b.0.1) in
      subst (λ (y : List Entry × List ℕ). AreAt (keys_and_values (pairs_of y.0)) s (255 ∷ y.1)) (ok_is made x b.2)
      (pair_stands s a.0 (keys_and_values (pairs_of b.0.0)) (255 ∷ b.0.1) fits p (pairs_until turns a.0.1 b.0 (pair_fits s a.0 fits p) b.1))
]

-- If m is at most half of n, m pairs have at most n items.
few_pairs : (n m : ℕ) → ltb (n / 2) m ≡ false → m + m ≤ n
few_pairs n m e = let h = ltb-false (n / 2) m e in omega (arith, h)

pairs_within :
    (o d : Option ℕ) (s : List ℕ) (y : List Entry × List ℕ) → IsBytes s → length s < 2 ^ 64 → Doubles o d → (things (item_at 255)).pairs o s ≡ Ok y
    → AreWithin (record { left = d }) (keys_and_values (pairs_of y.0)) s y.1
unfolding things
pairs_within None None s y fits least_encoding twice e = record {
  definite = λ n is. absurd (none_some n is);
  indefinite = λ _. pairs_until (length s) s y fits e;
}
pairs_within None (Some n) s y fits least_encoding twice e = absurd (none_some twice.0 twice.1)
pairs_within (Some n) None s y fits least_encoding twice e = absurd (none_some n (sym twice))
pairs_within (Some n) (Some d) s y fits least_encoding twice e =
    let g = guard_ok (ltb (length s / 2) n) End (times_at (pair_at (item_at 255)) n s) y e in
    let all = pairs_times n s y fits g.1 in
    let count = all.0 in
    let few = few_pairs (length s) n g.0 in
    let same : n ≡ twice.0 = some_is n twice.0 twice.1 in
    let fits_in : twice.0 + twice.0 < 2 ^ 64 = omega (arith, few, same, least_encoding) in
    let is_twice : d ≡ twice.0 + twice.0 = twice.2 fits_in in
    record {
      definite = λ m is. (omega (arith, count, same, is_twice, some_is d m is), all.1);
      indefinite = λ is. absurd (none_some d (sym is));
    }

-- The keys and values of the map begin after its head.
pub record EnteredMap (v : Item) (o : Option ℕ) (s a : List ℕ) : Type 0 where
  pub elements : Items
  pub is_map : map_items v ≡ Some elements
  pub within : AreWithin (record { left = o }) elements s a

map_by_major_type :
    (left : ℕ) (g : Argument) (d : Option ℕ) (k : MajorType) (s : List ℕ) (v : Item) (a : List ℕ) → IsBytes s → length s < 2 ^ 64 → Doubles (number_of g) d
    → k ≡ major_types.Map
    → item_by (things (item_at 255)) left g k s ≡ Ok (v, a) → EnteredMap v d s a
map_by_major_type left g d major_types.Map s v a fits least_encoding twice k e =
    let r = bind_ok ((things (item_at 255)).pairs (number_of g) s) (λ y. Ok (dict (pairs_of y.0), y.1)) (v, a) e in
    let same = ok_is (dict (pairs_of r.0.0), r.0.1) (v, a) r.2 in
    record {
      elements = keys_and_values (pairs_of r.0.0);
      is_map = ap (λ (x : Item × List ℕ). map_items x.0) (sym same);
      within = subst (λ (b : List ℕ). AreWithin (record { left = d }) (keys_and_values (pairs_of r.0.0)) s b) (ap rest_of same)
          (pairs_within (number_of g) d s r.0 fits least_encoding twice r.1);
    }
map_by_major_type left g d major_types.Unsigned s v a fits least_encoding twice k e = absurd cc
map_by_major_type left g d major_types.Negative s v a fits least_encoding twice k e = absurd cc
map_by_major_type left g d major_types.Bytes s v a fits least_encoding twice k e = absurd cc
map_by_major_type left g d major_types.Text s v a fits least_encoding twice k e = absurd cc
map_by_major_type left g d major_types.Tag s v a fits least_encoding twice k e = absurd cc
map_by_major_type left g d major_types.Array s v a fits least_encoding twice k e = absurd cc
map_by_major_type left g d major_types.Simple s v a fits least_encoding twice k e = absurd cc

pub map_read :
    (v : Item) (s a : List ℕ) (h : HeadView × List ℕ) (d : Option ℕ) → IsBytes s → length s < 2 ^ 64 → ItemAt v s a → head_at s ≡ Ok h
    → h.0.major_type ≡ major_types.Map → Doubles (number_of h.0.argument) d → EnteredMap v d h.1 a
map_read v s a h d fits least_encoding whole e k twice =
    let shorter = head_shorter s h fits e in
    map_by_major_type (length s) h.0.argument d h.0.major_type h.1 v a (head_takes s h fits e).rest_fits (omega (arith, least_encoding, shorter)) twice k
    (stands_by v s a h whole e)

pub no_map : (v : Item) (s a : List ℕ) (h : HeadView × List ℕ) → ItemAt v s a → head_at s ≡ Ok h → h.0.major_type ≢ major_types.Map → map_items v ≡ None
no_map v s a h whole e k = elim (is_map v) [
  | inl x ↦ absurd (k (sym (stands_major_type v s a h whole e) ∙ ap item_major_type x.1))
  | inr x ↦ ap (option_map keys_and_values) x.0
]

-- ---- the next element

-- No item begins with the break.
pub no_item_at_break : (v : Item) (s a : List ℕ) → ItemAt v s a → begins_break s ≡ true → ⊥
unfolding item_at head_at
no_item_at_break v s a whole e =
    let here : item_at 256 (255 ∷ drop 1 s) ≡ Ok (v, a) = ap (item_at 256) (sym (break_is s e)) ∙ stands_read v s a whole in
    err_ok _ (v, a) here

none_left : (vs : Items) → 0 ≡ items_count vs → vs ≡ no_items
none_left no_items e = refl
none_left (item v vs) e = absurd cc

pub next_none : (vs : Items) (s a : List ℕ) (p : Remaining) (n : ℕ) → p.left ≡ Some n → n ≡ 0 → AreWithin p vs s a → (vs ≡ no_items) × AreWithin p no_items s a
next_none vs s a p n left none w =
    let is = none_left vs (sym none ∙ (w.definite n left).0) in
    (is, subst (λ (ws : Items). AreWithin p ws s a) is w)

abbrev pub Element : Items → List ℕ → List ℕ → Remaining → Type 0
Element vs s a p = (v : Item) × (others : Items) × (mid : List ℕ) × (vs ≡ item v others) × ItemAt v s mid × AreWithin p others mid a

counted_next : (vs : Items) (s a : List ℕ) (n : ℕ) → n ≢ 0 → n ≡ items_count vs → AreAt vs s a → Element vs s a (record { left = Some (n - 1) })
unfolding AreAt
counted_next no_items s a n some count at = absurd (some count)
counted_next (item v vs) s a n some count at = (
  v,
  vs,
  at.0,
  refl,
  at.1,
  record {
    definite = λ m is. (omega (arith, some_is (n - 1) m is), at.2);
    indefinite = λ is. absurd (none_some (n - 1) (sym is));
  },
)

pub next_counted : (vs : Items) (s a : List ℕ) (p : Remaining) (n : ℕ) → p.left ≡ Some n → n ≢ 0 → AreWithin p vs s a
    → Element vs s a (record { left = Some (n - 1) })
next_counted vs s a p n is some w = let d = w.definite n is in counted_next vs s a n some d.0 d.1

broken_next : (vs : Items) (s a : List ℕ) (p : Remaining) → p.left ≡ None → begins_break s ≡ false → AreAt vs s (255 ∷ a) → Element vs s a p
unfolding AreAt
broken_next no_items s a p none e at = absurd (true≢false (sym (ap begins_break at) ∙ e))
broken_next (item v vs) s a p none e at = (
  v,
  vs,
  at.0,
  refl,
  at.1,
  record {
    definite = λ m is. absurd (none_some m (sym none ∙ is));
    indefinite = λ _. at.2;
  },
)

broken_end : (vs : Items) (s a : List ℕ) → begins_break s ≡ true → AreAt vs s (255 ∷ a) → vs ≡ no_items
unfolding AreAt
broken_end no_items s a e at = refl
broken_end (item v vs) s a e at = absurd (no_item_at_break v s at.0 at.1 e)

pub next_more : (vs : Items) (s a : List ℕ) (p : Remaining) → p.left ≡ None → begins_break s ≡ false → AreWithin p vs s a → Element vs s a p
next_more vs s a p none e w = broken_next vs s a p none e (w.indefinite none)

pub next_end : (vs : Items) (s a : List ℕ) (p : Remaining) → p.left ≡ None → begins_break s ≡ true → AreWithin p vs s a → (vs ≡ no_items)
    × AreWithin p no_items s a
next_end vs s a p none e w =
    let is = broken_end vs s a e (w.indefinite none) in
    (is, subst (λ (ws : Items). AreWithin p ws s a) is w)

-- ---- the end of an array

pub close_counted : (p : Remaining) (n : ℕ) (s a : List ℕ) → p.left ≡ Some n → AreWithin p no_items s a → s ≡ a
unfolding AreAt
close_counted p n s a is w = (w.definite n is).1

close_broken : (p : Remaining) (s a : List ℕ) → p.left ≡ None → AreWithin p no_items s a → s ≡ 255 ∷ a
unfolding AreAt
close_broken p s a is w = w.indefinite is

pub close_dropped : (p : Remaining) (s a : List ℕ) → p.left ≡ None → AreWithin p no_items s a → drop 1 s ≡ a
close_dropped p s a is w = ap (drop 1) (close_broken p s a is w)

pub close_no_break : (p : Remaining) (s a : List ℕ) → p.left ≡ None → begins_break s ≡ false → AreWithin p no_items s a → ⊥
close_no_break p s a is e w = true≢false (sym (ap begins_break (close_broken p s a is w)) ∙ e)

-- No item is in an empty input.
nothing_there : (v : Item) (t b : List ℕ) → length t ≡ 0 → ItemAt v t b → ⊥
nothing_there v t b e stands = let some = stands_shorter v t b stands in omega (arith, e, some)

no_element_there : (vs : Items) (s b : List ℕ) → length s ≡ 0 → AreAt vs s b → vs ≡ no_items
unfolding AreAt
no_element_there no_items s b e at = refl
no_element_there (item v vs) s b e at = absurd (nothing_there v s at.0 e at.1)

left_by : (o : Option ℕ) → (o ≡ None) ⊎ ((n : ℕ) × (o ≡ Some n))
left_by None = inl refl
left_by (Some n) = inr (n, refl)

pub close_empty : (vs : Items) (p : Remaining) (s a : List ℕ) → length s ≡ 0 → AreWithin p vs s a → vs ≡ no_items
close_empty vs p s a e w = elim (left_by p.left) [
  | inl is ↦ no_element_there vs s (255 ∷ a) e (w.indefinite is)
  | inr is ↦ no_element_there vs s a e (w.definite is.0 is.1).1
]

-- If `left` is zero, no items remain.
pub none_within : (s : List ℕ) → AreWithin (record { left = Some 0 }) no_items s s
unfolding AreAt
none_within s = record { definite = λ n e. (sym (one_of e), refl); indefinite = λ e. absurd (cc) }
  where
    one_of : {n : ℕ} → ◌≡◌ {A = Option ℕ} (Some 0) (Some n) → 0 ≡ n
    one_of e = cc
