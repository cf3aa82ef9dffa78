-- A list of pairs with distinct labels has one sorted order.
use Rattle.std.proofs.Common.{◌≡◌, ◌⊎◌, ◌+◌, ℕ, suc, List, [], ◌∷◌, get_or, Contains, false, refl, sym, ◌∙◌, ap, subst, true≢false, inl, inr, arith, Ordering}
use Rattle.std.proofs.Common.{Less, Equal, Greater}
use Rattle.std.specs.Cmp.{IsTotalOrder}
use Rattle.std.specs.List.{AllByRecursion, IsDistinct}
use Rattle.std.specs.List.Sorted.{IsStrictlySortedBy}
use Rattle.std.specs.Map.{keys_of}
use Rattle.std.specs.Ordering.{eq_by_cmp, is_eq, is_lt, ordering_reverse}
use Rattle.std.proofs.lemmas.Cmp.{eq_by_cmp_equiv}
use Rattle.std.proofs.lemmas.List.Elements.{All-contains, All-from_recursion, All-weaker, recursion_from_All, Contains-append_right, Contains-append_cases}
use Rattle.std.proofs.lemmas.List.Elements.{Contains-push_cases}
use Rattle.std.proofs.lemmas.List.Sorted.{Contains-permutation, IsPermutation-sym, IsPermutation-map}
use Rattle.std.proofs.lemmas.Map.Keys.{IsDistinct-head, IsDistinct-tail, IsDistinct-IsPermutation}
use Rattle.std.proofs.lemmas.Map.Views.{All-after_first}
use Rattle.coset_value.specs.Item.{Item}
use Rattle.coset_label.specs.Sorted.{AreInOrder, HasOneOrder}

-- An ordering that is neither `Greater` nor `Equal` is `Less`.
less-of : (p q : Ordering) → q ≡ ordering_reverse p → is_lt q ≡ false → is_eq p ≡ false → p ≡ Less
less-of Less q r h d = refl
less-of Equal q r h d = absurd (true≢false d)
less-of Greater q r h d = absurd (true≢false (sym (ap is_lt r) ∙ h))

module _ {N : Type 0} {cmp : N → N → Ordering} (o : IsTotalOrder cmp) where
  next : (e : N × Item) (es : List (N × Item)) (k : ℕ) (x : N × Item)
      → is_lt (cmp (get_or (e ∷ es) (suc k + 1) x).0 (get_or es k x).0) ≡ false → is_lt (cmp (get_or es (k + 1) x).0 (get_or es k x).0) ≡ false
  next e es k x h =
      let one-more : suc k + 1 ≡ suc (k + 1) = omega arith in
      subst (λ n. is_lt (cmp (get_or (e ∷ es) n x).0 (get_or es k x).0) ≡ false) one-more h

  -- In a sorted list with distinct labels, each label is less than all later labels.
  pub strictly : (es : List (N × Item)) → IsDistinct (eq_by_cmp cmp) (keys_of es) → AreInOrder cmp es → IsStrictlySortedBy cmp (keys_of es)
  unfolding IsStrictlySortedBy
  strictly [] d s = tt
  strictly (e ∷ []) d s = (tt, tt)
  strictly (e ∷ f ∷ es) d s =
      let rest = strictly (f ∷ es) (IsDistinct-tail (eq_by_cmp cmp) e.0 (keys_of (f ∷ es)) d)
      (λ k x a b. next e (f ∷ es) k x (s (suc k) x (omega arith) (omega (arith, b)))) in
      let below : cmp e.0 f.0 ≡ Less = less-of (cmp e.0 f.0) (cmp f.0 e.0) (o.antisymm f.0 e.0) (s 0 e (omega arith) (omega arith))
      (IsDistinct-head (eq_by_cmp cmp) e.0 (keys_of (f ∷ es)) d).0 in (
        (
          below,
          recursion_from_All (λ k. cmp e.0 k ≡ Less) (keys_of es)
              (All-weaker (λ k. cmp f.0 k ≡ Less) (λ k. cmp e.0 k ≡ Less) (λ k. o.trans e.0 f.0 k below) (keys_of es)
              (All-after_first cmp f.0 (keys_of es) rest)),
        ),
        rest,
      )

  -- An element of a list is its first element or is in the rest.
  pub in-cases : (y : N × Item) (ys : List (N × Item)) (x : N × Item) → Contains (y ∷ ys) x → (y ≡ x) ⊎ Contains ys x
  in-cases y ys x c =
      elim (Contains-append_cases (y ∷ []) ys x c) [
        | inl d ↦ elim (Contains-push_cases [] y x d) [ inl n ↦ absurd (omega (arith, n.1)) | inr h ↦ inl h ]
        | inr d ↦ inr d
      ]

  -- If P holds for all labels of a list, it holds for the label of each pair.
  of-labels : (P : N → Type 0) (es : List (N × Item)) → AllByRecursion P (keys_of es) → AllByRecursion (λ e. P e.0) es
  of-labels P [] a = tt
  of-labels P (e ∷ es) a = (a.0, of-labels P es a.1)

  -- A label after the first is greater than the first.
  pub above : (y : N × Item) (ys : List (N × Item)) (x : N × Item) → IsStrictlySortedBy cmp (keys_of (y ∷ ys)) → Contains ys x → cmp y.0 x.0 ≡ Less
  above y ys x s c =
      let P : N → Type 0 = λ k. cmp y.0 k ≡ Less in
      All-contains (λ e. P e.0) ys x (All-from_recursion (λ e. P e.0) ys
      (of-labels P ys (recursion_from_All P (keys_of ys) (All-after_first cmp y.0 (keys_of ys) s)))) c

  not-both : (a b : N) → cmp a b ≡ Less → cmp b a ≡ Less → ⊥
  not-both a b p q = true≢false (sym (ap is_lt p) ∙ ap is_lt (o.antisymm a b) ∙ ap (λ r. is_lt (ordering_reverse r)) q)

  rises : (y : N × Item) (ys : List (N × Item)) → IsStrictlySortedBy cmp (keys_of (y ∷ ys)) → IsStrictlySortedBy cmp (keys_of ys)
  unfolding IsStrictlySortedBy
  rises y ys s = s.1

  first : (x y : N × Item) (xs ys : List (N × Item)) → IsStrictlySortedBy cmp (keys_of (x ∷ xs)) → IsStrictlySortedBy cmp (keys_of (y ∷ ys))
      → Contains (y ∷ ys) x → Contains (x ∷ xs) y → x ≡ y
  first x y xs ys s t c d =
      elim (in-cases y ys x c) [
        | inl h ↦ sym h
        | inr m ↦ elim (in-cases x xs y d) [ inl h ↦ h | inr n ↦ absurd (not-both x.0 y.0 (above x xs y s n) (above y ys x t m)) ]
      ]

  -- If two strictly sorted lists have the same first element, an element of both that comes later in one also comes
  -- later in the other.
  behind : (x y : N × Item) (xs ys : List (N × Item)) (e : N × Item) → IsStrictlySortedBy cmp (keys_of (x ∷ xs)) → x ≡ y → Contains (y ∷ ys) e → Contains xs e
      → Contains ys e
  behind x y xs ys e s one d c =
      elim (in-cases y ys e d) [
        | inl h ↦
            let itself : cmp x.0 x.0 ≡ Less = subst (λ z. cmp x.0 z.0 ≡ Less) (sym (one ∙ h)) (above x xs e s c) in
            absurd (not-both x.0 x.0 itself itself)
        | inr m ↦ m
      ]

  -- Two strictly sorted lists with the same elements are equal.
  alike : (xs ys : List (N × Item)) → IsStrictlySortedBy cmp (keys_of xs) → IsStrictlySortedBy cmp (keys_of ys)
      → ((e : N × Item) → Contains xs e → Contains ys e) → ((e : N × Item) → Contains ys e → Contains xs e) → xs ≡ ys
  alike [] [] s t f g = refl
  alike [] (y ∷ ys) s t f g = absurd (omega (arith, (g y (0, omega arith, refl)).1))
  alike (x ∷ xs) [] s t f g = absurd (omega (arith, (f x (0, omega arith, refl)).1))
  alike (x ∷ xs) (y ∷ ys) s t f g =
      let one : x ≡ y = first x y xs ys s t (f x (0, omega arith, refl)) (g y (0, omega arith, refl)) in
      let onward = λ (e : N × Item) (c : Contains xs e). behind x y xs ys e s one (f e (Contains-append_right (x ∷ []) xs e c)) c in
      let back = λ (e : N × Item) (c : Contains ys e). behind y x ys xs e t (sym one) (g e (Contains-append_right (y ∷ []) ys e c)) c in
      λ i. one i ∷ alike xs ys (rises x xs s) (rises y ys t) onward back i

  pub has_one_order : HasOneOrder cmp
  has_one_order xs ys d p s t =
      let e = IsDistinct-IsPermutation (eq_by_cmp cmp) (eq_by_cmp_equiv o).symm (keys_of xs) (keys_of ys) (IsPermutation-map (λ e. e.0) xs ys p) d in
      alike xs ys (strictly xs d s) (strictly ys e t) (λ x. Contains-permutation xs ys x p) (λ x. Contains-permutation ys xs x (IsPermutation-sym xs ys p))
