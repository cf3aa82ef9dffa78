-- Properties of values that were read, and of values read from the images of others, by their shapes.
use Rattle.std.proofs.Common.{◌≡◌, ℕ, zero, suc, List, [], ◌∷◌, Bool, true, false, Option, Some, None, option_map, refl, sym, ◌∙◌, ap, subst}
use Rattle.coset_value.specs.Item.{Item, Items, no_items, item, array, tag}
use Rattle.coset_value.specs.Parts.{as_array, as_tag}
use Rattle.coset_codec.specs.AsWritten.{AsWritten, WhenRead, ElementsAsWritten, ElementsWhenRead}
use Rattle.coset_codec.specs.Lists.{EachHas, EachWith}
use Rattle.coset_codec.specs.Recursive.{nested, recursive}
use Rattle.coset_codec.specs.RecursiveLaws.{Step, written_nested}
use Rattle.coset_codec.specs.Shape.{Shape, Elements, both, array_of, ◌then◌, any_number, list_of, images}
use Rattle.coset_codec.specs.Shape.{Each, optional_last, last_image, LastDescribes, tagged, bstr}
use Rattle.coset_codec.specs.Shape.{or_nil}
use Rattle.coset_codec.specs.ShapeLaws.{some-one, bstr_laws, bytes_no_nil, or_nil_laws}

-- ---- under a tag

-- The item under a tag that was written.
under_tag : (n : ℕ) (o : Option Item) (v u : Item) → option_map (tag n) o ≡ Some v → as_tag v ≡ Some (n, u) → o ≡ Some u
under_tag n None v u e d = absurd (cc)
under_tag n (Some w) v u e d =
    let same : tag n w ≡ v = some-one refl e in
    let inside : (n, w) ≡ (n, u) = some-one (ap as_tag (sym same)) d in
    ap Some (ap (λ x. x.1) inside)

module _ {A : Type 0} (n : ℕ) (s : Shape A) where
  pub tagged_as_written : (R : A → A → Type 0) → AsWritten s R → AsWritten (tagged n s) R
  tagged_as_written R h v x y e d = h d.0 x y (under_tag n (s.image x) v d.0 e d.1) d.2

  pub tagged_when_read : (P : A → Type 0) → WhenRead s P → WhenRead (tagged n s) P
  tagged_when_read P h v x d = h d.0 x d.2

-- ---- arrays

-- An array that was written is read as the same elements.
elements_written : (os : Option Items) (v : Item) → option_map array os ≡ Some v → (vs : Items) × (os ≡ Some vs) × (as_array v ≡ Some vs)
elements_written None v e = absurd (cc)
elements_written (Some vs) v e = let same : array vs ≡ v = some-one refl e in (vs, refl, ap as_array (sym same))

module _ {A : Type 0} (ps : Elements A) where
  pub array_as_written : (R : A → A → Type 0) → ElementsAsWritten ps R → AsWritten (array_of ps) R
  array_as_written R h v x y e d =
      let m = elements_written (ps.image x) v e in
      h m.0 x y m.1 (subst (λ vs. ps.describes vs y) (some-one d.1 m.2) d.2)

  pub array_when_read : (P : A → Type 0) → ElementsWhenRead ps P → WhenRead (array_of ps) P
  array_when_read P h v x d = h d.0 x d.2

-- The first element that was written, and the elements after it.
place_written : (o : Option Item) (os : Option Items) (vs : Items) → both item o os ≡ Some vs → (u : Item) × (us : Items) × (o ≡ Some u) × (os ≡ Some us)
    × (vs ≡ item u us)
place_written None os vs e = absurd (cc)
place_written (Some u) None vs e = absurd (cc)
place_written (Some u) (Some us) vs e = (u, us, refl, refl, sym (some-one refl e))

module _ {A B : Type 0} (s : Shape A) (ps : Elements B) where
  pub then_as_written : (R : A → A → Type 0) (Q : B → B → Type 0) → AsWritten s R → ElementsAsWritten ps Q
      → ElementsAsWritten (s then ps) (λ x y. R x.0 y.0 × Q x.1 y.1)
  then_as_written R Q one more vs x y e d =
      let p = place_written (s.image x.0) (ps.image x.1) vs e in
      let both_read = subst (λ ws. (s then ps).describes ws y) p.4 d in
      (one p.0 x.0 y.0 p.2 both_read.0, more p.1 x.1 y.1 p.3 both_read.1)

  pub then_when_read : (P : A → Type 0) (Q : B → Type 0) → WhenRead s P → ElementsWhenRead ps Q → ElementsWhenRead (s then ps) (λ x. P x.0 × Q x.1)
  then_when_read P Q one more no_items x d = absurd d
  then_when_read P Q one more (item v vs) x d = (one v x.0 d.0, more vs x.1 d.1)

-- ---- lists

module _ {A : Type 0} (s : Shape A) (R : A → A → Type 0) (h : AsWritten s R) where
  none_read : (ys : List A) → Each s.describes no_items ys → EachWith R [] ys
  none_read [] d = tt
  none_read (y ∷ ys) d = absurd d

  one_more_read :
      (x : A) (xs : List A) (u : Item) (us : Items) → s.image x ≡ Some u → ((ys : List A) → Each s.describes us ys → EachWith R xs ys) → (ys : List A)
      → Each s.describes (item u us) ys → EachWith R (x ∷ xs) ys
  one_more_read x xs u us e more [] d = absurd d
  one_more_read x xs u us e more (y ∷ ys) d = (h u x y e d.0, more ys d.1)

  each_as_written : (xs ys : List A) (vs : Items) → images s.image xs ≡ Some vs → Each s.describes vs ys → EachWith R xs ys
  each_as_written [] ys vs e d = none_read ys (subst (λ ws. Each s.describes ws ys) (sym (some-one refl e)) d)
  each_as_written (x ∷ xs) ys vs e d =
      let p = place_written (s.image x) (images s.image xs) vs e in
      one_more_read x xs p.0 p.1 p.2 (λ zs f. each_as_written xs zs p.1 p.3 f) ys (subst (λ ws. Each s.describes ws ys) p.4 d)

  pub list_as_written : AsWritten (list_of s) (EachWith R)
  list_as_written = array_as_written (any_number s) (EachWith R) (λ vs xs ys. each_as_written xs ys vs)

module _ {A : Type 0} (s : Shape A) (P : A → Type 0) (h : WhenRead s P) where
  all_read : (vs : Items) (xs : List A) → Each s.describes vs xs → EachHas P xs
  all_read no_items [] d = tt
  all_read no_items (x ∷ xs) d = absurd d
  all_read (item v vs) [] d = absurd d
  all_read (item v vs) (x ∷ xs) d = (h v x d.0, all_read vs xs d.1)

  pub list_when_read : WhenRead (list_of s) (EachHas P)
  list_when_read = array_when_read (any_number s) (EachHas P) all_read

-- ---- a last element that may be missing

module _ {A : Type 0} (absent : A) (shows : A → Bool) (s : Shape A) where
  shown_as_written : (o : Option Item) (vs : Items) → last_image true o ≡ Some vs → (u : Item) × (o ≡ Some u) × (vs ≡ item u no_items)
  shown_as_written None vs e = absurd (cc)
  shown_as_written (Some u) vs e = (u, refl, sym (some-one refl e))

  -- The two cases: the element is written, or it is not.
  last_as_written :
      (R : A → A → Type 0) → AsWritten s R → (x y : A) → (shows x ≡ false → R x absent) → (vs : Items) (b : Bool) → shows x ≡ b
      → last_image b (s.image x) ≡ Some vs
      → LastDescribes absent s.describes vs y → R x y
  last_as_written R h x y hidden vs true is e d =
      let p = shown_as_written (s.image x) vs e in h p.0 x y p.1 (subst (λ ws. LastDescribes absent s.describes ws y) p.2 d)
  last_as_written R h x y hidden vs false is e d =
      let none : y ≡ absent = subst (λ ws. LastDescribes absent s.describes ws y) (sym (some-one refl e)) d in
      subst (R x) (sym none) (hidden is)

  pub optional_last_as_written : (R : A → A → Type 0) → AsWritten s R → ((x : A) → shows x ≡ false → R x absent)
      → ElementsAsWritten (optional_last absent shows s) R
  optional_last_as_written R h hidden vs x y e d = last_as_written R h x y (hidden x) vs (shows x) refl e d

  pub optional_last_when_read : (P : A → Type 0) → WhenRead s P → P absent → ElementsWhenRead (optional_last absent shows s) P
  optional_last_when_read P h missing no_items x d = subst P (sym d) missing
  optional_last_when_read P h missing (item v no_items) x d = h v x d
  optional_last_when_read P h missing (item v (item w vs)) x d = absurd d

-- ---- types that contain others of their own type

module _ {A : Type 0} (step : Shape A → Shape A) (image : A → Option Item) where
  nested_as_written : (R : A → A → Type 0) → ((s : Shape A) → AsWritten s R → AsWritten (step s) R) → (n : ℕ) → AsWritten (nested step image n) R
  nested_as_written R h zero v x y e d = absurd d
  nested_as_written R h (suc n) v x y e d = h (nested step image n) (nested_as_written R h n) v x y e d

  pub recursive_as_written : Step A step image → (R : A → A → Type 0) → ((s : Shape A) → AsWritten s R → AsWritten (step s) R)
      → AsWritten (recursive step image) R
  recursive_as_written k R h v x y e d = nested_as_written R h d.0 v x y (written_nested step image k d.0 x ∙ e) d.1

  nested_when_read : (P : A → Type 0) → ((s : Shape A) → WhenRead s P → WhenRead (step s) P) → (n : ℕ) → WhenRead (nested step image n) P
  nested_when_read P h zero v x d = absurd d
  nested_when_read P h (suc n) v x d = h (nested step image n) (nested_when_read P h n) v x d

  pub recursive_when_read : (P : A → Type 0) → ((s : Shape A) → WhenRead s P → WhenRead (step s) P) → WhenRead (recursive step image) P
  recursive_when_read P h v x d = nested_when_read P h d.0 v x d.1

-- ---- byte strings

pub bstr_as_written : AsWritten bstr (λ s t. t ≡ s)
bstr_as_written v s t e d = bstr_laws.unique v t s d (subst (λ w. bstr.describes w s) (some-one refl e) refl)

pub or_nil_as_written : AsWritten (or_nil bstr) (λ p q. q ≡ p)
or_nil_as_written v None q e d = (or_nil_laws bstr bytes_no_nil bstr_laws).unique v q None d
    (subst (λ w. (or_nil bstr).describes w None) (some-one refl e) (refl, refl))
or_nil_as_written v (Some s) q e d =
    (or_nil_laws bstr bytes_no_nil bstr_laws).unique v q (Some s) d (subst (λ w. (or_nil bstr).describes w (Some s)) (some-one refl e) (refl, refl))
