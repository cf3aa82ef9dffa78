-- Lists whose elements are read in place, one after the other.
use Rattle.std.proofs.Common.{◌≡◌, ℕ, suc, List, [], ◌∷◌, ◌++◌, ◌+◌, length, map, take, slice_set, ◌-◌, ◌∙◌, true, Result, Ok, Err, refl, sym, ap, subst, inl}
use Rattle.std.proofs.Common.{arith}
use Rattle.std.proofs.lemmas.List.{map-append}
use Rattle.std.specs.Prelude.{IsErrAnd}
use Rattle.coset_value.specs.Item.{Item, Items}
use Rattle.coset_codec.specs.declared.error.CoseError.{CoseError}
use Rattle.coset_codec.specs.declared.error.ErrorStored.{ErrorStored}
use Rattle.coset_codec.specs.declared.read.decoder.ArrayElements.{ArrayElements}
use Rattle.coset_codec.specs.Errors.{UnlessMemory, stored}
use Rattle.coset_codec.specs.InPlace.{Fills, FillsEach, BeginsNext}
use Rattle.coset_codec.specs.Inputs.{State, ItemAt, AreWithin}
use Rattle.coset_codec.specs.Lists.{Continues}
use Rattle.coset_codec.specs.Shape.{Shape, EachFaults}
use Rattle.coset_codec.proofs.Lists.{goes_on}

-- Passes on an error.
pub not_filled :
    {A : Type 0} (s : Shape A) (x : A) (v : Item) (r : Result (Unit {0}) ErrorStored) (e : CoseError) (w : ErrorStored) → IsErrAnd r (λ f. f ≡ w)
    → UnlessMemory e (s.faults v) → Fills s v x (stored e r)
not_filled s x v (Ok u) e w h n = absurd h
not_filled s x v (Err f) e w h n = n

-- ---- the last element, after a push

last_set : {A : Type 0} (xs : List A) (x y : A) → slice_set (xs ++ x ∷ []) (length xs) y ≡ xs ++ y ∷ []
last_set [] x y = refl
last_set (z ∷ xs) x y = ap (λ zs. z ∷ zs) (last_set xs x y)

one_longer : {A : Type 0} (old : List A) (x : A) → length (old ++ x ∷ []) ≡ suc (length old)
one_longer [] x = refl
one_longer (y ∷ old) x = ap suc (one_longer old x)

module _ {T A : Type 0} (view : T → A) where
  pub last_filled : (old new : List T) (n : ℕ) (x y : T) → n ≡ length new → new ≡ old ++ x ∷ []
      → map view (slice_set new (n - 1) y) ≡ map view old ++ view y ∷ []
  last_filled old new n x y e g =
      let longer : length new ≡ suc (length old) = ap length g ∙ one_longer old x in
      let at : n - 1 ≡ length old = omega (arith, longer, e) in
      rw (at, g) (ap (map view) (last_set old x y) ∙ map-append view old (y ∷ []))

  -- Copies one more element.
  pub one_more_copied :
      (old new all : List T) (i n : ℕ) (a x y : T) → map view old ≡ map view (take i all) → n ≡ length new → new ≡ old ++ a ∷ []
      → map view (take (i + 1) all) ≡ map view (take i all) ++ view x ∷ [] → view y ≡ view x
      → map view (slice_set new (n - 1) y) ≡ map view (take (i + 1) all)
  one_more_copied old new all i n a x y before e gets next same = last_filled old new n a y e gets ∙ ((λ j. before j ++ same j ∷ []) ∙ sym next)

-- ---- elements that are read in place

-- The first of the items vs were read as xs, and the others are still to be read.
pub record Filled (A : Type 0) (s : Shape A) (vs : Items) (z : State) (m : ArrayElements) (t : State) (xs : List A) : Type 0 where
  pub others : Items
  pub continues : Continues A s.describes s.faults vs xs others
  pub within : AreWithin m others t z

module _ {A : Type 0} (s : Shape A) where
  pub one_filled_more :
      (vs : Items) (j t u z : State) (m n : ArrayElements) (xs ys : List A) (x : A) → (p : Filled A s vs z m j xs) → BeginsNext p.others t z n (Ok true)
      → ((v : Item) (y : State) → ItemAt v t y → (u ≡ y) × s.describes v x)
      → ys ≡ xs ++ x ∷ [] → Filled A s vs z n u ys
  one_filled_more vs j t u z m n xs ys x p b read e =
      let here = read b.0 b.2 b.4 in
      record {
        others = b.1;
        continues = goes_on s vs p.others b.1 b.0 x xs ys p.continues b.3 here.1 e;
        within = subst (λ y. AreWithin n b.1 y z) (sym here.0) b.5;
      }

  pub one_refused_more :
      (vs : Items) (j t u z : State) (m n : ArrayElements) (xs ys : List A) (x : A) (r : Result (Unit {0}) ErrorStored) (e : CoseError) (y : ErrorStored)
      → IsErrAnd r (λ i. i ≡ y) → (p : Filled A s vs z m j xs) → BeginsNext p.others t z n (Ok true)
      → ((v : Item) (i : State) → ItemAt v t i → (u ≡ i) × UnlessMemory e (s.faults v)) → ((left : Items) × AreWithin n left u z)
      × FillsEach s vs ys (stored e r)
  one_refused_more vs j t u z m n xs ys x (Ok i) e y is p b read = absurd is
  one_refused_more vs j t u z m n xs ys x (Err i) e y is p b read =
      let here = read b.0 b.2 b.4 in (
        (b.1, subst (λ k. AreWithin n b.1 k z) (sym here.0) b.5),
        (λ q. p.continues.blames e (subst (λ ws. EachFaults s.faults ws e) (sym b.3) (inl (here.1 q)))),
      )
