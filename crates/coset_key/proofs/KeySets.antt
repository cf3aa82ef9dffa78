-- Sets in memory, their views, and arrays whose elements are read into sets.
use Rattle.std.proofs.Common.{◌≡◌, ◌⊎◌, ◌||◌, List, [], ◌∷◌, ◌++◌, map, Bool, true, false, Some, Result, Ok, Err, Contains, length, refl, sym, ◌∙◌, ap, subst}
use Rattle.std.proofs.Common.{inl, inr, arith, true≢false, Ordering, Less, Equal, Greater}
use Rattle.std.specs.Cmp.{IsTotalOrder}
use Rattle.std.specs.Prelude.{IsErrAnd}
use Rattle.std.specs.BTreeMap.{is_at}
use Rattle.std.specs.BTreeSet.{insert_key}
use Rattle.std.specs.List.{list_any, IsDistinct}
use Rattle.std.specs.Ordering.{eq_by_cmp, is_eq, match_ordering, on}
use Rattle.std.proofs.lemmas.Map.Lookups.{CmpEqualImpliesEq}
use Rattle.std.proofs.lemmas.Map.Views.{tells_apart}
use Rattle.coset_value.specs.Item.{Item, Items, no_items, item}
use Rattle.coset_value.specs.Parts.{as_array}
use Rattle.coset_codec.specs.Errors.{IsUnexpected, UnlessMemory}
use Rattle.coset_codec.specs.Inputs.{State, AreWithin, Nexts, ReadsAt}
use Rattle.coset_codec.specs.declared.read.decoder.ArrayElements.{ArrayElements}
use Rattle.coset_key.specs.Reading.{ReadsSet}
use Rattle.coset_codec.specs.declared.error.CoseError.{CoseError}
use Rattle.coset_codec.specs.Sets.{IsSetOf, IsDistinctBy, HasElement, Repeats, set_of}
use Rattle.coset_codec.specs.SetLaws.{set_has, set_push, distinct_push, set_of_none}
use Rattle.coset_codec.specs.Shape.{Shape, Each, EachFaults}
use Rattle.coset_codec.proofs.Encoding.{and_items}

-- ---- views

module _ {K N : Type 0} (view : K → N) where
  pub no-keys : (ks : List K) → length ks ≡ 0 → map view ks ≡ []
  no-keys [] e = refl
  no-keys (x ∷ xs) e = absurd (omega (arith, e))

  pub some-keys : (ks : List K) (b : Bool) → (length ks ≡ 0 → b ≡ true) → b ≡ false → map view ks ≡ [] → ⊥
  some-keys [] b t f e = true≢false (sym (t refl) ∙ f)
  some-keys (x ∷ xs) b t f e = absurd (cc)

module _ {K N : Type 0} (view : K → N) (cmp : N → N → Ordering) where
  pub insert-view : (ks : List K) (k : K) → map view (insert_key (on view cmp) ks k) ≡ insert_key cmp (map view ks) (view k)
  insert-view [] k = refl
  insert-view (x ∷ xs) k = by (cmp (view k) (view x)) (insert-view xs k)
    where
      by : (r : Ordering) → map view (insert_key (on view cmp) xs k) ≡ insert_key cmp (map view xs) (view k)
          → map view (match_ordering r (k ∷ x ∷ xs) (x ∷ xs) (x ∷ insert_key (on view cmp) xs k))
          ≡ match_ordering r (view k ∷ view x ∷ map view xs) (view x ∷ map view xs) (view x ∷ insert_key cmp (map view xs) (view k))
      by Less h = refl
      by Equal h = refl
      by Greater h = ap (λ ys. view x ∷ ys) h

  pub contains-view : (ks : List K) (k : K) → list_any (is_at (on view cmp k)) ks ≡ list_any (eq_by_cmp cmp (view k)) (map view ks)
  contains-view [] k = refl
  contains-view (x ∷ xs) k = ap (λ b. is_eq (cmp (view k) (view x)) || b) (contains-view xs k)

-- ---- arrays that are read into sets

and_items-assoc : (us vs ws : Items) → and_items (and_items us vs) ws ≡ and_items us (and_items vs ws)
and_items-assoc no_items vs ws = refl
and_items-assoc (item u us) vs ws = ap (item u) (and_items-assoc us vs ws)

and_items-none : (vs : Items) → and_items vs no_items ≡ vs
and_items-none no_items = refl
and_items-none (item v vs) = ap (item v) (and_items-none vs)

module _ {A : Type 0} (cmp : A → A → Ordering) (o : IsTotalOrder cmp) (exact : CmpEqualImpliesEq cmp) (s : Shape A) where
  each-more : (vs : Items) (xs : List A) (v : Item) (x : A) → Each s.describes vs xs → s.describes v x
      → Each s.describes (and_items vs (item v no_items)) (xs ++ x ∷ [])
  each-more no_items [] v x p d = (d, tt)
  each-more no_items (y ∷ ys) v x p d = absurd p
  each-more (item w ws) [] v x p d = absurd p
  each-more (item w ws) (y ∷ ys) v x p d = (p.0, each-more ws ys v x p.1 d)

  fault-behind : (vs ws : Items) (e : CoseError) → EachFaults s.faults ws e → EachFaults s.faults (and_items vs ws) e
  fault-behind no_items ws e f = f
  fault-behind (item v vs) ws e f = inr (fault-behind vs ws e f)

  element-behind : (vs ws : Items) (x : A) → HasElement s.describes x ws → HasElement s.describes x (and_items vs ws)
  element-behind no_items ws x f = f
  element-behind (item v vs) ws x f = inr (element-behind vs ws x f)

  -- An item that describes an earlier value again is a repeat.
  repeats-behind : (vs : Items) (xs : List A) (v : Item) (ws : Items) (x : A) → Each s.describes vs xs → list_any (eq_by_cmp cmp x) xs ≡ true → s.describes v x
      → Repeats s.describes (and_items vs (item v ws))
  repeats-behind no_items [] v ws x p h d = absurd (true≢false (sym h))
  repeats-behind no_items (y ∷ ys) v ws x p h d = absurd p
  repeats-behind (item u us) [] v ws x p h d = absurd p
  repeats-behind (item u us) (y ∷ ys) v ws x p h d = by (is_eq (cmp x y)) refl h (repeats-behind us ys v ws x p.1)
    where
      by : (b : Bool) → is_eq (cmp x y) ≡ b → (b || list_any (eq_by_cmp cmp x) ys) ≡ true
          → (list_any (eq_by_cmp cmp x) ys ≡ true → s.describes v x → Repeats s.describes (and_items us (item v ws)))
          → ((z : A) × s.describes u z × HasElement s.describes z (and_items us (item v ws))) ⊎ Repeats s.describes (and_items us (item v ws))
      by true e q later = inl (x, subst (s.describes u) (sym (tells_apart exact x y e)) p.0, element-behind us (item v ws) x (inl d))
      by false e q later = inr (later q d)

  -- Some items of an array were read and make this set. The items `left` follow.
  pub record Gathered (all : Items) (set : List A) (left : Items) : Type 0 where
    pub done : Items
    pub read : List A
    pub parts : all ≡ and_items done left
    pub each : Each s.describes done read
    pub is_set : IsSetOf cmp read set
    pub distinct : IsDistinctBy cmp read

  pub none_gathered : (all : Items) → Gathered all [] all
  unfolding IsDistinct
  none_gathered all = record { done = no_items; read = []; parts = refl; each = tt; is_set = set_of_none cmp; distinct = tt }

  -- One more item was read, and its value is new.
  pub more_gathered :
      (all old new : Items) (set : List A) (v : Item) (x : A) → Gathered all set old → old ≡ item v new → s.describes v x
      → list_any (eq_by_cmp cmp x) set ≡ false → Gathered all (insert_key cmp set x) new
  more_gathered all old new set v x g e d h =
      record {
        done = and_items g.done (item v no_items);
        read = g.read ++ x ∷ [];
        parts = g.parts ∙ (ap (and_items g.done) e ∙ sym (and_items-assoc g.done (item v no_items) new));
        each = each-more g.done g.read v x g.each d;
        is_set = set_push o exact g.read set x g.is_set;
        distinct = distinct_push o exact g.read set x g.is_set g.distinct h;
      }

  -- All items were read.
  all_each : (all left : Items) (set : List A) (g : Gathered all set left) → left ≡ no_items → Each s.describes all g.read
  all_each all left set g n = subst (λ vs. Each s.describes vs g.read) (sym (g.parts ∙ (ap (and_items g.done) n ∙ and_items-none g.done))) g.each

  -- ---- positions

  -- Some items were read, and the others are at the input.
  pub record Midway (all : Items) (z : State) (m : ArrayElements) (t : State) (set : List A) : Type 0 where
    pub left : Items
    pub gathered : Gathered all set left
    pub within : AreWithin m left t z

  -- The next item was consumed, whether or not reading it succeeded.
  pub passed : (t u z : State) (m : ArrayElements) (left : Items) (Q : Item → Type 0) → Nexts left t z m true → ReadsAt t u Q → (others : Items)
      × AreWithin m others u z
  passed t u z m left Q next read = (next.1, subst (λ (y : State). AreWithin m next.1 y z) (sym (read next.0 next.2 next.4).0) next.5)

  -- The value of the next item is new.
  pub one_more :
      (all : Items) (r t u z : State) (m n : ArrayElements) (set : List A) (x : A) → (w : Midway all z m r set) → Nexts w.left t z n true
      → ReadsAt t u (λ v. s.describes v x) → list_any (eq_by_cmp cmp x) set ≡ false
      → Midway all z n u (insert_key cmp set x)
  one_more all r t u z m n set x w next read fresh =
      let here = read next.0 next.2 next.4 in
      record {
        left = next.1;
        gathered = more_gathered all w.left next.1 set next.0 x w.gathered next.3 here.1 fresh;
        within = subst (λ (y : State). AreWithin n next.1 y z) (sym here.0) next.5;
      }

  module _ {T : Type 0} (view : T → List A) where
    -- The set contains the value already.
    pub stands_twice :
        (all : Items) (r t u z : State) (m n : ArrayElements) (set : List A) (x : A) (e : CoseError) → (w : Midway all z m r set) → Nexts w.left t z n true
        → ReadsAt t u (λ v. s.describes v x)
        → list_any (eq_by_cmp cmp x) set ≡ true → IsUnexpected e → ((left : Items) × AreWithin n left u z) × ReadsSet cmp s view all (Err e)
    stands_twice all r t u z m n set x e w next read again is =
        let g = w.gathered in
        let stands : Repeats s.describes (and_items g.done (item next.0 next.1)) =
        repeats-behind g.done g.read next.0 next.1 x g.each (sym (set_has o exact g.read set g.is_set x) ∙ again) (read next.0 next.2 next.4).1 in (
          passed t u z n w.left (λ v. s.describes v x) next read,
          λ i. inr (is, subst (Repeats s.describes) (sym (g.parts ∙ ap (and_items g.done) next.3)) stands),
        )

    -- The next item is at fault.
    pub is_refused :
        (all : Items) (r t u z : State) (m n : ArrayElements) (set : List A) (e : CoseError) (q : Result T CoseError) → (w : Midway all z m r set)
        → Nexts w.left t z n true → ReadsAt t u (λ v. UnlessMemory e (s.faults v)) → IsErrAnd q (λ f. f ≡ e)
        → ((left : Items) × AreWithin n left u z) × ReadsSet cmp s view all q
    is_refused all r t u z m n set e (Ok x) w next read is = absurd is
    is_refused all r t u z m n set e (Err f) w next read is = (
      passed t u z n w.left (λ v. UnlessMemory e (s.faults v)) next read,
      λ i.
          let g = w.gathered in
          let fault : s.faults next.0 f = subst (s.faults next.0) (sym is) ((read next.0 next.2 next.4).1 (λ h. i (is ∙ h))) in
          inl (subst (λ vs. EachFaults s.faults vs f) (sym (g.parts ∙ ap (and_items g.done) next.3)) (fault-behind g.done (item next.0 next.1) f (inl fault))),
    )

    -- No item is left.
    pub all_gathered :
        (all : Items) (r t z : State) (m n : ArrayElements) (x : T) → (w : Midway all z m r (view x)) → Nexts w.left t z n false
        → ((left : Items) × AreWithin n left t z) × ReadsSet cmp s view all (Ok x)
    all_gathered all r t z m n x w next = (
      (no_items, next.1),
      (w.gathered.read, all_each all w.left (view x) w.gathered next.0, w.gathered.distinct, w.gathered.is_set),
    )

    -- ---- all elements of an array

    pub set_refused : (v : Item) (all : Items) (e : CoseError) → as_array v ≡ Some all
        → UnlessMemory e (λ f. EachFaults s.faults all f ⊎ (IsUnexpected f × Repeats s.describes all)) → UnlessMemory e ((set_of cmp s).faults v)
    set_refused v all e a h = λ i. fault (h i)
      where
        fault : EachFaults s.faults all e ⊎ (IsUnexpected e × Repeats s.describes all) → (set_of cmp s).faults v e
        fault (inl f) = inl (inl (inr (all, a, inr (λ m. m, f))))
        fault (inr f) = inr (f.0, (all, a, f.1))

    pub set_read : (v : Item) (all : Items) (x : T) → as_array v ≡ Some all → ReadsSet cmp s view all (Ok x) → (view x ≡ [] → ⊥)
        → (set_of cmp s).describes v (view x)
    set_read v all x a r some = (r.0, (((all, a, r.1), λ none. some (no-set r.0 (view x) none r.3)), r.2), r.3)
      where
        no-set : (xs ys : List A) → xs ≡ [] → IsSetOf cmp xs ys → ys ≡ []
        no-set xs [] e m = refl
        no-set xs (y ∷ ys) e m = let c : Contains [] y = subst (λ zs. Contains zs y) e ((m.elements y).0 (0, omega arith, refl)) in absurd (omega (arith, c.1))

    pub set_empty : (v : Item) (all : Items) (x : T) (e : CoseError) → as_array v ≡ Some all → ReadsSet cmp s view all (Ok x) → view x ≡ [] → IsUnexpected e
        → (set_of cmp s).faults v e
    set_empty v all x e a r none u = inl (inr (u, (r.0, (all, a, r.1), λ some. some (no-list r.0 (view x) none r.3))))
      where
        no-list : (xs ys : List A) → ys ≡ [] → IsSetOf cmp xs ys → xs ≡ []
        no-list [] ys e m = refl
        no-list (x ∷ xs) ys e m = let c : Contains [] x = subst (λ zs. Contains zs x) e ((m.elements x).1 (0, omega arith, refl)) in absurd (omega (arith, c.1))
