-- Laws of sets. A list has one set, and if the list grows at its end, the set grows by `insert_key`. Also the laws of
-- the shapes of sets.
use Rattle.std.proofs.Common.{◌≡◌, ◌⊎◌, ◌≤◌, ℕ, suc, List, [], ◌∷◌, ◌++◌, length, get_or, All, Contains, refl, sym, ◌∙◌, ap, ap₂, subst, true, false}
use Rattle.std.proofs.Common.{true≢false, length-append, inl, inr, arith, Ordering, Less, Equal, Greater}
use Rattle.std.specs.Cmp.{IsTotalOrder, both_ways}
use Rattle.std.specs.Ordering.{eq_by_cmp, match_ordering, ordering_reverse}
use Rattle.std.specs.List.Sorted.{IsStrictlySortedBy}
use Rattle.std.specs.List.{list_any}
use Rattle.std.specs.BTreeSet.{BTreeSet, insert_key}
use Rattle.std.proofs.lemmas.List.Elements.{All-nil, All-cons, All-weaker, All-contains, All-contains_itself, Contains-append_left, Contains-append_right}
use Rattle.std.proofs.lemmas.List.Elements.{Contains-append_cases, Contains-push, Contains-push_cases, recursion_from_All, All-from_recursion}
use Rattle.std.proofs.lemmas.Cmp.{eq_by_cmp_equiv}
use Rattle.std.proofs.lemmas.List.{get_or_append_left}
use Rattle.std.proofs.Math.Seq.{get_or-append_seam}
use Rattle.std.proofs.lemmas.Map.Keys.{IsDistinct-from_sorted, IsDistinct-head, IsDistinct-tail, IsDistinct-push, apart_from_distinct}
use Rattle.std.proofs.lemmas.Map.Lookups.{CmpEqualImpliesEq, btree_set_from_contains}
use Rattle.std.proofs.lemmas.Map.Views.{All-insert_key, All-after_first, Contains-from_any, list_any-from_Contains, tells_apart}
use Rattle.coset_value.specs.Item.{Item, array, Items, no_items, item, depth, items_depth}
use Rattle.coset_codec.specs.Shape.{Shape, Each, IsNonempty, some_of}
use Rattle.coset_codec.specs.ShapeLaws.{Again, Lawful, some-one, some_of_laws, up_to_laws, as_array-depth}
use Rattle.coset_codec.specs.Sets.{IsSetOf, IsDistinctBy, HasElement, Repeats, distinct_of, set_of}

-- ---- sets of lists

module _ {A : Type 0} {cmp : A → A → Ordering} where
  -- The set of a list is its own set, and no two of its elements are the same.
  pub set_of_itself : (xs ys : List A) → IsSetOf cmp xs ys → IsSetOf cmp ys ys
  set_of_itself xs ys m = record { sorted = m.sorted; elements = λ x. (λ c. c, λ c. c) }

  pub set_distinct : (xs ys : List A) → IsSetOf cmp xs ys → IsDistinctBy cmp ys
  set_distinct xs ys m = IsDistinct-from_sorted cmp ys m.sorted

  -- The set of a list that is not empty is not empty.
  pub set_nonempty : (xs ys : List A) → IsNonempty xs → IsSetOf cmp xs ys → IsNonempty ys
  set_nonempty [] ys f m e = f refl
  set_nonempty (x ∷ xs) ys f m e = let c : Contains ys x = (m.elements x).1 (0, omega arith, refl) in omega (arith, c.1, ap length e)

  -- A property of each element of a list holds of each element of its set.
  pub All-set : (P : A → Type 0) (xs ys : List A) → IsSetOf cmp xs ys → All P xs → All P ys
  All-set P xs ys m h = All-weaker (Contains ys) P (λ y c. All-contains P xs y h ((m.elements y).0 c)) ys (All-contains_itself ys)

module _ {A : Type 0} {cmp : A → A → Ordering} (o : IsTotalOrder cmp) (exact : CmpEqualImpliesEq cmp) where
  -- A list and its set have the same keys.
  pub set_has : (xs ys : List A) → IsSetOf cmp xs ys → (q : A) → list_any (eq_by_cmp cmp q) ys ≡ list_any (eq_by_cmp cmp q) xs
  set_has xs ys m q =
      let found = λ (ks : List A). Contains-from_any (tells_apart exact) q ks in
      let finds = λ (ks : List A). list_any-from_Contains (eq_by_cmp_equiv o) q ks in
      both_ways _ _ (λ h. finds xs ((m.elements q).0 (found ys h))) (λ h. finds ys ((m.elements q).1 (found xs h)))

  -- A list has only one set.
  pub set_unique : (xs ys zs : List A) → IsSetOf cmp xs ys → IsSetOf cmp xs zs → ys ≡ zs
  set_unique xs ys zs m n =
      let s : BTreeSet A = record { keys = ys } in
      let t : BTreeSet A = record { keys = zs } in
      btree_set_from_contains o s t m.sorted n.sorted (λ q. set_has xs ys m q ∙ sym (set_has xs zs n q)) exact

  -- ---- one more element

  -- `insert_key` keeps the keys in order.
  pub IsStrictlySortedBy-insert_key : (ks : List A) (k : A) → IsStrictlySortedBy cmp ks → IsStrictlySortedBy cmp (insert_key cmp ks k)
  unfolding IsStrictlySortedBy
  IsStrictlySortedBy-insert_key [] k s = (tt, tt)
  IsStrictlySortedBy-insert_key (x ∷ xs) k s = by (IsStrictlySortedBy-insert_key xs k s.1) (cmp k x) refl
    where
      above : All (λ y. cmp x y ≡ Less) xs
      above = All-after_first cmp x xs s

      by : IsStrictlySortedBy cmp (insert_key cmp xs k) → (r : Ordering) → cmp k x ≡ r
          → IsStrictlySortedBy cmp (match_ordering r (k ∷ x ∷ xs) (x ∷ xs) (x ∷ insert_key cmp xs k))
      by rest Less p = (
        (
          p,
          recursion_from_All (λ y. cmp k y ≡ Less) xs
              (All-weaker (λ y. cmp x y ≡ Less) (λ y. cmp k y ≡ Less) (λ y. o.trans k x y p) xs above),
        ),
        s,
      )
      by rest Equal p = s
      by rest Greater p =
          let q : cmp x k ≡ Less = o.antisymm x k ∙ ap ordering_reverse p in
          (recursion_from_All (λ y. cmp x y ≡ Less) (insert_key cmp xs k) (All-insert_key cmp k (λ y. cmp x y ≡ Less) xs above q), rest)

  -- The keys are then the old keys and the new one.
  Contains-insert_key_cases : (ks : List A) (k x : A) → Contains (insert_key cmp ks k) x → Contains ks x ⊎ (k ≡ x)
  Contains-insert_key_cases ks k x =
      let P : A → Type 0 = λ y. Contains ks y ⊎ (k ≡ y) in
      All-contains P (insert_key cmp ks k) x (All-insert_key cmp k P ks (All-weaker (Contains ks) P (λ y. inl) ks (All-contains_itself ks)) (inr refl))

  Contains-insert_key : (ks : List A) (k x : A) → Contains ks x ⊎ (k ≡ x) → Contains (insert_key cmp ks k) x
  Contains-insert_key [] k x (inl c) = absurd (omega (arith, c.1))
  Contains-insert_key [] k x (inr e) = (0, omega arith, e)
  Contains-insert_key (y ∷ ys) k x h = by (Contains-insert_key ys k x) (cmp k y) refl h
    where
      by : (Contains ys x ⊎ (k ≡ x) → Contains (insert_key cmp ys k) x) → (r : Ordering) → cmp k y ≡ r → Contains (y ∷ ys) x ⊎ (k ≡ x)
          → Contains (match_ordering r (k ∷ y ∷ ys) (y ∷ ys) (y ∷ insert_key cmp ys k)) x
      by later Less p (inl c) = Contains-append_right (k ∷ []) (y ∷ ys) x c
      by later Less p (inr e) = (0, omega arith, e)
      by later Equal p (inl c) = c
      by later Equal p (inr e) = (0, omega arith, sym (exact k y p) ∙ e)
      by later Greater p (inl c) =
          elim (Contains-append_cases (y ∷ []) ys x c) [
            | inl d ↦ Contains-append_left (y ∷ []) (insert_key cmp ys k) x d
            | inr d ↦ Contains-append_right (y ∷ []) (insert_key cmp ys k) x (later (inl d))
          ]
      by later Greater p (inr e) = Contains-append_right (y ∷ []) (insert_key cmp ys k) x (later (inr e))

  -- The set of a list with one more element at its end.
  pub set_push : (xs ys : List A) (k : A) → IsSetOf cmp xs ys → IsSetOf cmp (xs ++ k ∷ []) (insert_key cmp ys k)
  set_push xs ys k m =
      record {
        sorted = IsStrictlySortedBy-insert_key ys k m.sorted;
        elements = λ x. (
          (λ c. elim (Contains-insert_key_cases ys k x c)
              [ inl d ↦ Contains-append_left xs (k ∷ []) x ((m.elements x).0 d) | inr e ↦ subst (Contains (xs ++ k ∷ [])) e (Contains-push xs k) ]),
          λ c. Contains-insert_key ys k x (elim (Contains-push_cases xs k x c) [ inl d ↦ inl ((m.elements x).1 d) | inr e ↦ inr e ]),
        );
      }

  -- A list without repeats stays so if a new key is added.
  pub distinct_push : (xs ys : List A) (k : A) → IsSetOf cmp xs ys → IsDistinctBy cmp xs → list_any (eq_by_cmp cmp k) ys ≡ false
      → IsDistinctBy cmp (xs ++ k ∷ [])
  distinct_push xs ys k m d h = IsDistinct-push (eq_by_cmp_equiv o) xs k d (sym (set_has xs ys m k) ∙ h)

  -- A key that is there already repeats, whatever elements follow.
  pub repeated : (xs ys zs : List A) (k : A) → IsSetOf cmp xs ys → list_any (eq_by_cmp cmp k) ys ≡ true → IsDistinctBy cmp (xs ++ k ∷ zs) → ⊥
  repeated xs ys zs k m h d =
      let all = xs ++ k ∷ zs in
      let c : Contains xs k = Contains-from_any (tells_apart exact) k xs (sym (set_has xs ys m k) ∙ h) in
      let apart = apart_from_distinct (eq_by_cmp cmp) all c.0 (length xs) k d c.1 (omega (arith, length-append xs (k ∷ zs))) in
      let first : get_or all c.0 k ≡ k = get_or_append_left xs (k ∷ zs) k c.0 c.1 ∙ c.2 in
      let second : get_or all (length xs) k ≡ k = get_or-append_seam xs k zs k in
      true≢false (sym ((eq_by_cmp_equiv o).refl k) ∙ (sym (ap₂ (eq_by_cmp cmp) first second) ∙ apart))

-- The set of no elements.
pub set_of_none : {A : Type 0} (cmp : A → A → Ordering) → IsSetOf cmp [] []
unfolding IsStrictlySortedBy
set_of_none cmp = record { sorted = tt; elements = λ x. (λ c. c, λ c. c) }

-- ---- shapes of sets

module _ {A : Type 0} (s : Shape A) where
  -- An item of at most this depth represents x.
  abbrev HasItem : ℕ → A → Type 0
  HasItem d x = (w : Item) × s.describes w x × (depth w ≤ d)

  -- Each of the values is represented by one of the items.
  each_has : (vs : Items) (xs : List A) → Each s.describes vs xs → All (HasItem (items_depth vs)) xs
  each_has no_items [] p = All-nil (HasItem 0)
  each_has no_items (x ∷ xs) p = absurd p
  each_has (item v vs) [] p = absurd p
  each_has (item v vs) (x ∷ xs) p =
      let d = items_depth (item v vs) in
      All-cons (HasItem d) x xs (v, p.0, omega arith) (All-weaker (HasItem (items_depth vs)) (HasItem d) (λ y h. (h.0, h.1, omega (arith, h.2))) xs
      (each_has vs xs p.1))

  -- If each value has an item, there is a list of items, one for each value.
  each_of : (d : ℕ) (xs : List A) → All (HasItem d) xs → (vs : Items) × Each s.describes vs xs × (items_depth vs ≤ d)
  each_of d [] h = (no_items, tt, omega arith)
  each_of d (x ∷ xs) h =
      let a = h 0 x (omega arith) in
      let b = each_of d xs (λ k e l. h (suc k) e (omega arith)) in
      (item a.0 b.0, (a.1, b.1), omega (arith, a.2, b.2))

module _ {A : Type 0} (cmp : A → A → Ordering) (o : IsTotalOrder cmp) (exact : CmpEqualImpliesEq cmp) (s : Shape A) (l : Lawful A s) where
  -- A value that one of the items represents is one of the values.
  element_contained : (vs : Items) (xs : List A) (x : A) → Each s.describes vs xs → HasElement s.describes x vs → Contains xs x
  element_contained no_items xs x p h = absurd h
  element_contained (item v vs) [] x p h = absurd p
  element_contained (item v vs) (y ∷ ys) x p (inl d) = (0, omega arith, l.unique v y x p.0 d)
  element_contained (item v vs) (y ∷ ys) x p (inr h) = Contains-append_right (y ∷ []) ys x (element_contained vs ys x p.1 h)

  -- If no two values are the same, no two items represent the same value.
  no_repeats : (vs : Items) (xs : List A) → Each s.describes vs xs → IsDistinctBy cmp xs → Repeats s.describes vs → ⊥
  no_repeats no_items xs p d h = h
  no_repeats (item v vs) [] p d h = p
  no_repeats (item v vs) (x ∷ xs) p d (inl h) =
      let same : h.0 ≡ x = l.unique v h.0 x h.1 p.0 in
      let c : Contains xs x = element_contained vs xs x p.1 (subst (λ y. HasElement s.describes y vs) same h.2) in
      let P : A → Type 0 = λ y. eq_by_cmp cmp x y ≡ false in
      true≢false (sym ((eq_by_cmp_equiv o).refl x) ∙ All-contains P xs x (All-from_recursion P xs (IsDistinct-head (eq_by_cmp cmp) x xs d)) c)
  no_repeats (item v vs) (x ∷ xs) p d (inr h) = no_repeats vs xs p.1 (IsDistinct-tail (eq_by_cmp cmp) x xs d) h

  pub distinct_of_laws : Lawful (List A) (distinct_of cmp s)
  distinct_of_laws =
      let m : Lawful (List A) (some_of s) = some_of_laws s l in
      record {
        unique = λ v x y p q. m.unique v x y p.0 q.0;
        again = λ v x p.
            let a : Again (List A) (some_of s) v x = m.again v x p.0 in
            record { image = a.image; is_image = a.is_image; described = (a.described, p.1); shallow = a.shallow };
        sound = λ v x e p f.
            elim f [
              | inl g ↦ m.sound v x e p.0 g
              | inr g ↦ no_repeats g.1.0 x (subst (λ vs. Each s.describes vs x) (some-one p.0.0.1 g.1.1) p.0.0.2) p.1 g.1.2
            ];
      }

  -- Each element of the set is an element of the list, so it has an item.
  set_again : (v : Item) (xs ys : List A) → (distinct_of cmp s).describes v xs → IsSetOf cmp xs ys → Again (List A) (distinct_of cmp s) v ys
  set_again v xs ys p m =
      let vs : Items = p.0.0.0 in
      let deep : suc (items_depth vs) ≡ depth v = as_array-depth v vs p.0.0.1 in
      let us = each_of s (items_depth vs) ys (All-set (HasItem s (items_depth vs)) xs ys m (each_has s vs xs p.0.0.2)) in
      let a : Again (List A) (distinct_of cmp s) (array us.0) ys =
      distinct_of_laws.again (array us.0) ys (((us.0, refl, us.1), set_nonempty xs ys p.0.1 m), set_distinct xs ys m) in
      record { image = a.image; is_image = a.is_image; described = a.described; shallow = omega (arith, a.shallow, deep, us.2) }

  pub set_of_laws : Lawful (List A) (set_of cmp s)
  set_of_laws = up_to_laws (IsSetOf cmp) (distinct_of cmp s) (set_unique o exact) set_of_itself set_again distinct_of_laws
