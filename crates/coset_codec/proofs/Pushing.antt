-- The pairs that some labels and values are written as, followed by others.
use Rattle.std.proofs.Common.{◌≡◌, ◌++◌, ◌∷◌, [], List, Option, Some, None, refl, ◌∙◌, ap}
use Rattle.coset_value.specs.Item.{Item, Pairs, no_pairs, pair}
use Rattle.coset_codec.specs.Shape.{both}
use Rattle.coset_codec.specs.Maps.{labelled_image, and_pairs}

module _ {N : Type 0} (f : N → Option Item) where
  both-is : (o : Option Item) (q : Option Pairs) (v : Item) (k : Item) (ps : Pairs) → o ≡ Some k → q ≡ Some ps
      → both (λ j qs. pair j v qs) o q ≡ Some (pair k v ps)
  both-is o q v k ps p r = rw (p, r) refl

  -- Some pairs, followed by others.
  pub labelled_image-append : (es fs : List (N × Item)) (ps qs : Pairs) → labelled_image f es ≡ Some ps → labelled_image f fs ≡ Some qs
      → labelled_image f (es ++ fs) ≡ Some (and_pairs ps qs)
  labelled_image-append [] fs ps qs p q = let h : no_pairs ≡ ps = cc in q ∙ ap (λ rs. Some (and_pairs rs qs)) h
  labelled_image-append (e ∷ es) fs ps qs p q = go (λ ts b. labelled_image-append es fs ts qs b q) (f e.0) (labelled_image f es) refl refl p
    where
      go : ((ts : Pairs) → labelled_image f es ≡ Some ts → labelled_image f (es ++ fs) ≡ Some (and_pairs ts qs)) → (o : Option Item) (r : Option Pairs) → f e.0
          ≡ o
          → labelled_image f es ≡ r → both (λ k ts. pair k e.1 ts) o r ≡ Some ps
          → both (λ k ts. pair k e.1 ts) (f e.0) (labelled_image f (es ++ fs)) ≡ Some (and_pairs ps qs)
      go ih (Some k) (Some ts) a b h =
          let same : pair k e.1 ts ≡ ps = cc in
          both-is (f e.0) (labelled_image f (es ++ fs)) e.1 k (and_pairs ts qs) a (ih ts b) ∙ ap (λ rs. Some (and_pairs rs qs)) same
      go ih (Some k) None a b h = absurd (cc)
      go ih None r a b h = absurd (cc)

  -- If one label has no item, the pairs have none.
  pub labelled_image-none : (es fs : List (N × Item)) (m : N) (v : Item) → f m ≡ None → labelled_image f (es ++ (m, v) ∷ fs) ≡ None
  labelled_image-none [] fs m v e = rw e refl
  labelled_image-none (x ∷ es) fs m v e = rw (labelled_image-none es fs m v e) (none-after (f x.0))
    where
      none-after : (o : Option Item) → both (λ k ps. pair k x.1 ps) o None ≡ None
      none-after (Some k) = refl
      none-after None = refl
