-- Laws of types that contain others of their own type, from the laws of the step. The recursive shape equals the step
-- over itself.
use Rattle.std.proofs.Common.{◌≡◌, ◌≤◌, ◌+◌, ℕ, zero, suc, List, [], ◌∷◌, Bool, Option, refl, sym, ◌∙◌, inl, inr, arith}
use Rattle.coset_value.specs.Item.{Item, Items, no_items, item}
use Rattle.coset_codec.specs.declared.error.CoseError.{CoseError}
use Rattle.coset_codec.specs.Recursive.{nested, recursive}
use Rattle.coset_codec.specs.Shape.{Shape, Elements, ElementsFaults, array_of, ◌then◌, mapped, Each}
use Rattle.coset_codec.specs.Shape.{EachFaults, any_number, list_of, optional_last, LastDescribes}
use Rattle.coset_codec.specs.Shape.{LastFaults}
use Rattle.coset_codec.specs.ShapeLaws.{Again, Lawful}

-- ---- shapes that describe no more than others

-- Each value that s describes is described by one of the shapes t. Each fault of s is a fault of one of them.
pub record IsCoveredBy (I : Type 0) (A : Type 0) (s : Shape A) (t : I → Shape A) : Type 0 where
  pub describes : (v : Item) (x : A) → s.describes v x → (i : I) × (t i).describes v x
  pub faults : (v : Item) (e : CoseError) → s.faults v e → (i : I) × (t i).faults v e

-- The same as `IsCoveredBy`, for the elements of arrays. A number of elements is wrong for s if and only if it is wrong
-- for t.
pub record ElementsAreCovered (I : Type 0) (A : Type 0) (s : Elements A) (t : I → Elements A) : Type 0 where
  pub describes : (vs : Items) (x : A) → s.describes vs x → (i : I) × (t i).describes vs x
  pub wrong_length : (i : I) (vs : Items) → s.wrong_length vs → (t i).wrong_length vs
  pub fits : (i : I) (vs : Items) → (t i).wrong_length vs → s.wrong_length vs
  pub faults : (vs : Items) (e : CoseError) → s.faults vs e → (i : I) × (t i).faults vs e

-- `IsCoveredBy` for two single shapes.
abbrev pub Below : (A : Type 0) → Shape A → Shape A → Type 0
Below A s t = IsCoveredBy (Unit {0}) A s (λ i. t)

pub below : {A : Type 0} (s t : Shape A) → ((v : Item) (x : A) → s.describes v x → t.describes v x) → ((v : Item) (e : CoseError) → s.faults v e → t.faults v e)
    → Below A s t
below s t d f = record { describes = λ v x h. (tt, d v x h); faults = λ v e h. (tt, f v e h) }

module _ {I : Type 0} (some : I) where
  -- An array, by its elements.
  faults_pass : {A : Type 0} (s : Elements A) (t : I → Elements A) → ElementsAreCovered I A s t → (vs : Items) (e : CoseError) → ElementsFaults s vs e → (i : I)
      × ElementsFaults (t i) vs e
  faults_pass s t p vs e (inl h) = (some, inl (p.wrong_length some vs h.0, h.1))
  faults_pass s t p vs e (inr h) = let g = p.faults vs e h.1 in (g.0, inr ((λ m. h.0 (p.fits g.0 vs m)), g.1))

  array_faults : {A : Type 0} (s : Elements A) (t : I → Elements A) → ElementsAreCovered I A s t → (v : Item) (e : CoseError) → (array_of s).faults v e
      → (i : I)
      × (array_of (t i)).faults v e
  array_faults s t p v e (inl h) = (some, inl h)
  array_faults s t p v e (inr h) = let g = faults_pass s t p h.0 e h.2 in (g.0, inr (h.0, h.1, g.1))

  pub array_passes : {A : Type 0} (s : Elements A) (t : I → Elements A) → ElementsAreCovered I A s t → IsCoveredBy I A (array_of s) (λ i. array_of (t i))
  array_passes s t p = record { describes = λ v x h. let g = p.describes h.0 x h.2 in (g.0, (h.0, h.1, g.1)); faults = array_faults s t p }

  -- An element before others.
  module _ {A B : Type 0} (a : Shape A) (s : Elements B) (t : I → Elements B) (p : ElementsAreCovered I B s t) where
    then_describes : (vs : Items) (x : A × B) → (a then s).describes vs x → (i : I) × (a then t i).describes vs x
    then_describes no_items x h = absurd h
    then_describes (item v vs) x h = let g = p.describes vs x.1 h.1 in (g.0, (h.0, g.1))

    then_wrong_length : (i : I) (vs : Items) → (a then s).wrong_length vs → (a then t i).wrong_length vs
    then_wrong_length i no_items h = h
    then_wrong_length i (item v vs) h = p.wrong_length i vs h

    then_fits : (i : I) (vs : Items) → (a then t i).wrong_length vs → (a then s).wrong_length vs
    then_fits i no_items h = h
    then_fits i (item v vs) h = p.fits i vs h

    then_faults : (vs : Items) (e : CoseError) → (a then s).faults vs e → (i : I) × (a then t i).faults vs e
    then_faults no_items e h = absurd h
    then_faults (item v vs) e (inl h) = (some, inl h)
    then_faults (item v vs) e (inr h) = let g = p.faults vs e h in (g.0, inr g.1)

    pub then_passes : ElementsAreCovered I (A × B) (a then s) (λ i. a then t i)
    then_passes = record { describes = then_describes; wrong_length = then_wrong_length; fits = then_fits; faults = then_faults }

  -- A last element that may be missing.
  module _ {A : Type 0} (absent : A) (shows : A → Bool) (s : Shape A) (t : I → Shape A) (p : IsCoveredBy I A s t) where
    last_describes : (vs : Items) (x : A) → LastDescribes absent s.describes vs x → (i : I) × LastDescribes absent (t i).describes vs x
    last_describes no_items x h = (some, h)
    last_describes (item v no_items) x h = p.describes v x h
    last_describes (item v (item w vs)) x h = absurd h

    last_faults : (vs : Items) (e : CoseError) → LastFaults s.faults vs e → (i : I) × LastFaults (t i).faults vs e
    last_faults no_items e h = absurd h
    last_faults (item v vs) e h = p.faults v e h

    pub optional_last_passes : ElementsAreCovered I A (optional_last absent shows s) (λ i. optional_last absent shows (t i))
    optional_last_passes = record { describes = last_describes; wrong_length = λ i vs h. h; fits = λ i vs h. h; faults = last_faults }

-- A shape that is seen as another type.
pub mapped_passes : {I A B : Type 0} (to : A → B) (from : B → A) (s : Shape A) (t : I → Shape A) → IsCoveredBy I A s t
    → IsCoveredBy I B (mapped to from s) (λ i. mapped to from (t i))
mapped_passes to from s t p = record { describes = λ v x h. p.describes v (from x) h; faults = p.faults }

-- A list, whose elements all pass on to the same shape.
module _ {A : Type 0} (s t : Shape A) (p : Below A s t) where
  each_above : (vs : Items) (xs : List A) → Each s.describes vs xs → Each t.describes vs xs
  each_above no_items [] h = h
  each_above no_items (x ∷ xs) h = absurd h
  each_above (item v vs) [] h = absurd h
  each_above (item v vs) (x ∷ xs) h = ((p.describes v x h.0).1, each_above vs xs h.1)

  each_faults_above : (vs : Items) (e : CoseError) → EachFaults s.faults vs e → EachFaults t.faults vs e
  each_faults_above no_items e h = h
  each_faults_above (item v vs) e (inl h) = inl (p.faults v e h).1
  each_faults_above (item v vs) e (inr h) = inr (each_faults_above vs e h)

  pub list_below : Below (List A) (list_of s) (list_of t)
  list_below =
      array_passes tt (any_number s) (λ i. any_number t)
      (record {
        describes = λ vs x h. (tt, each_above vs x h);
        wrong_length = λ i vs h. h;
        fits = λ i vs h. h;
        faults = λ vs e h.
            (tt, each_faults_above vs e h);
      })

-- ---- types that contain others of their own type

-- The premises on a step and on `image`. `lawful`: the step's shape is lawful if the shape of the parts is. `rises`:
-- the step describes no less if the shape of the parts describes no less. `gathers`: an item needs only a finite
-- nesting of parts. `written`: a value is written as `image` says if its parts are.
pub record Step (A : Type 0) (step : Shape A → Shape A) (image : A → Option Item) : Type 1 where
  pub lawful : (s : Shape A) → Lawful A s → Lawful A (step s)
  pub rises : (s t : Shape A) → Below A s t → Below A (step s) (step t)
  pub gathers : (s : Shape A) (t : ℕ → Shape A) → IsCoveredBy ℕ (List A) (list_of s) (λ n. list_of (t n)) → IsCoveredBy ℕ A (step s) (λ n. step (t n))
  pub written : (s : Shape A) → ((x : A) → s.image x ≡ image x) → (x : A) → (step s).image x ≡ image x

module _ {A : Type 0} (step : Shape A → Shape A) (image : A → Option Item) (k : Step A step image) where
  up : (n m : ℕ) → n ≤ m → Below A (nested step image n) (nested step image m)
  up zero m h = below (nested step image zero) (nested step image m) (λ v x d. absurd d) (λ v e f. absurd f)
  up (suc n) zero h = absurd (omega (arith, h))
  up (suc n) (suc m) h = k.rises (nested step image n) (nested step image m) (up n m (omega (arith, h)))

  lawful_nested : (n : ℕ) → Lawful A (nested step image n)
  lawful_nested zero = record { unique = λ v x y p q. absurd p; again = λ v x p. absurd p; sound = λ v x e p f. p }
  lawful_nested (suc n) = k.lawful (nested step image n) (lawful_nested n)

  -- Each value is written as `image` says, at any nesting.
  pub written_nested : (n : ℕ) (x : A) → (nested step image n).image x ≡ image x
  written_nested zero x = refl
  written_nested (suc n) x = k.written (nested step image n) (written_nested n) x

  -- An item represents at most one value. A value that was read is written and read again. An item that represents a
  -- value has no fault.
  pub recursive_laws : Lawful A (recursive step image)
  recursive_laws =
      record {
        unique = λ v x y p q.
            let n = p.0 + q.0 in
            (lawful_nested n).unique v x y ((up p.0 n (omega arith)).describes v x p.1).1 ((up q.0 n (omega arith)).describes v y q.1).1;
        again = λ v x p.
            let a : Again A (nested step image p.0) v x = (lawful_nested p.0).again v x p.1 in
            record { image = a.image; is_image = sym (written_nested p.0 x) ∙ a.is_image; described = (p.0, a.described); shallow = a.shallow };
        sound = λ v x e p f.
            let n = p.0 + f.0 in
            (lawful_nested n).sound v x e ((up p.0 n (omega arith)).describes v x p.1).1 ((up f.0 n (omega arith)).faults v e f.1).1;
      }

  -- Parts that are each nested finitely all fit one common nesting.
  each_gathered : (vs : Items) (xs : List A) → Each (recursive step image).describes vs xs → (n : ℕ) × Each (nested step image n).describes vs xs
  each_gathered no_items [] h = (0, h)
  each_gathered no_items (x ∷ xs) h = absurd h
  each_gathered (item v vs) [] h = absurd h
  each_gathered (item v vs) (x ∷ xs) h =
      let g = each_gathered vs xs h.1 in
      let n = h.0.0 + g.0 in
      (n, (((up h.0.0 n (omega arith)).describes v x h.0.1).1, each_above (nested step image g.0) (nested step image n) (up g.0 n (omega arith)) vs xs g.1))

  each_faults_gathered : (vs : Items) (e : CoseError) → EachFaults (recursive step image).faults vs e → (n : ℕ) × EachFaults (nested step image n).faults vs e
  each_faults_gathered no_items e h = absurd h
  each_faults_gathered (item v vs) e (inl h) = (h.0, inl h.1)
  each_faults_gathered (item v vs) e (inr h) = let g = each_faults_gathered vs e h in (g.0, inr g.1)

  list_gathered : IsCoveredBy ℕ (List A) (list_of (recursive step image)) (λ n. list_of (nested step image n))
  list_gathered =
      array_passes 0 (any_number (recursive step image)) (λ n. any_number (nested step image n))
      (record { describes = each_gathered; wrong_length = λ i vs h. h; fits = λ i vs h. h; faults = each_faults_gathered })

  -- The step over the recursive shape describes no more than the recursive shape, and has no more faults.
  pub recursive_step : Below A (step (recursive step image)) (recursive step image)
  recursive_step =
      let g = k.gathers (recursive step image) (nested step image) list_gathered in
      below (step (recursive step image)) (recursive step image) (λ v x h. let p = g.describes v x h in (suc p.0, p.1))
      (λ v e h. let p = g.faults v e h in (suc p.0, p.1))

  -- Conversely, the recursive shape describes no more than the step over it, and has no more faults.
  inside : (n : ℕ) → Below A (nested step image n) (recursive step image)
  inside n = below (nested step image n) (recursive step image) (λ v x h. (n, h)) (λ v e h. (n, h))

  described_by_step : (n : ℕ) (v : Item) (x : A) → (nested step image n).describes v x → (step (recursive step image)).describes v x
  described_by_step zero v x h = absurd h
  described_by_step (suc n) v x h = ((k.rises (nested step image n) (recursive step image) (inside n)).describes v x h).1

  faulty_by_step : (n : ℕ) (v : Item) (e : CoseError) → (nested step image n).faults v e → (step (recursive step image)).faults v e
  faulty_by_step zero v e h = absurd h
  faulty_by_step (suc n) v e h = ((k.rises (nested step image n) (recursive step image) (inside n)).faults v e h).1

  pub step_recursive : Below A (recursive step image) (step (recursive step image))
  step_recursive = below (recursive step image) (step (recursive step image)) (λ v x h. described_by_step h.0 v x h.1) (λ v e h. faulty_by_step h.0 v e h.1)
