-- A list read element by element.
use Rattle.std.proofs.Common.{◌≡◌, ◌++◌, List, [], ◌∷◌, Option, Some, Result, Ok, Err, refl, sym, ◌∙◌, ap, subst, inr, inl, append_assoc, append-nil, slice_get}
use Rattle.std.proofs.Common.{rules}
use Rattle.std.proofs.lemmas.Option.{none-some}
use Rattle.std.specs.Prelude.{IsErrAnd, IfErr, Vec}
use Rattle.std.specs.Global.{Global}
use Rattle.std.specs.Iterator.{Yields}
use Rattle.coset_value.specs.Item.{Item, array, Items, no_items, item}
use Rattle.coset_value.specs.View.{value_item, value_items}
use Rattle.coset_value.specs.declared.value.Value.{Value, Array, the_lemmas}
use Rattle.coset_codec.specs.declared.error.CoseError.{CoseError}
use Rattle.coset_codec.specs.Shape.{Shape, Each, EachFaults, masked, images}
use Rattle.coset_codec.specs.ShapeLaws.{both-some}
use Rattle.coset_codec.specs.Lists.{Continues, EachWith}

module _ {A : Type 0} (s : Shape A) where
  pub goes_on :
      (all old new : Items) (v : Item) (x : A) (xs ys : List A) → Continues A s.describes s.faults all xs old → old ≡ item v new → s.describes v x
      → ys ≡ xs ++ x ∷ []
      → Continues A s.describes s.faults all ys new
  goes_on all old new v x xs ys c e d q =
      record {
        ends = λ zs p. subst (Each s.describes all) (sym (ap (λ ws. ws ++ zs) q ∙ append_assoc xs (x ∷ []) zs))
            (c.ends (x ∷ zs) (subst (λ vs. Each s.describes vs (x ∷ zs)) (sym e) (d, p)));
        blames = λ f p. c.blames f (subst (λ vs. EachFaults s.faults vs f) (sym e) (inr p));
      }

  -- If no element is left, all were read.
  pub all_read : (all left : Items) (xs : List A) → Continues A s.describes s.faults all xs left → left ≡ no_items → Each s.describes all xs
  all_read all left xs c n = subst (Each s.describes all) (append-nil xs) (c.ends [] (subst (λ vs. Each s.describes vs []) (sym n) tt))

  -- The same for a shape whose errors are masked.
  pub each_masked : (blames : CoseError → Type 0) (all : Items) (e f : CoseError) → blames f → EachFaults s.faults all e
      → EachFaults (masked blames s).faults all f
  each_masked blames no_items e f b h = h
  each_masked blames (item v vs) e f b (inl h) = inl (b, (e, h))
  each_masked blames (item v vs) e f b (inr h) = inr (each_masked blames vs e f b h)

-- One more element of each list.
pub with-more : {A B : Type 0} (R : A → B → Type 0) (xs : List A) (ys : List B) (x : A) (y : B) → EachWith R xs ys → R x y
    → EachWith R (xs ++ x ∷ []) (ys ++ y ∷ [])
with-more R [] [] x y h r = (r, tt)
with-more R (a ∷ xs) (b ∷ ys) x y h r = (h.0, with-more R xs ys x y h.1 r)
with-more R [] (b ∷ ys) x y h r = absurd h
with-more R (a ∷ xs) [] x y h r = absurd h

-- The value v is the image of x.
abbrev pub IsImage : {A : Type 0} → (A → Option Item) → A → Value → Type 0
IsImage image x v = image x ≡ Some (value_item v)

pub images-all : {A : Type 0} (image : A → Option Item) (xs : List A) (vs : List Value) → EachWith (IsImage image) xs vs
    → images image xs ≡ Some (value_items vs)
images-all image [] [] h = refl
images-all image (x ∷ xs) (v ∷ vs) h = both-some item (image x) (images image xs) (value_item v) (value_items vs) h.0 (images-all image xs vs h.1)
images-all image [] (v ∷ vs) h = absurd h
images-all image (x ∷ xs) [] h = absurd h

-- If the result is this one error, a property of the error holds of the result.
pub on_err : {T : Type 0} (r : Result T CoseError) (e : CoseError) (Q : CoseError → Type 0) → IsErrAnd r (λ f. f ≡ e) → Q e → IfErr r Q
on_err (Ok x) e Q h q = tt
on_err (Err f) e Q h q = subst Q (sym h) q

-- One more call.
pub yields-more : {S A : Type 0} (steps : S → Option A → S → Type 0) (s t u : S) (xs : List A) (x : A) → Yields steps s xs t → steps t (Some x) u
    → Yields steps s (xs ++ x ∷ []) u
yields-more steps s t u [] x e h = (u, subst (λ r. steps r (Some x) u) (sym e) h, refl)
yields-more steps s t u (y ∷ ys) x p h = (p.0, p.1, yields-more steps p.0 t u ys x p.2 h)

-- Contracts see an array as the array of what they see of its elements.
pub value_item-Array : (vs : Vec Value Global) → value_item (Array vs) ≡ array (value_items vs.items)
value_item-Array vs = search (rules, the_lemmas)

-- The first element of a list, if there is one.
pub begins_with : {A : Type 0} (xs : List A) (x : A) → slice_get xs 0 ≡ Some x → (ys : List A) × (xs ≡ x ∷ ys)
begins_with [] x e = absurd (none-some x e)
begins_with (y ∷ ys) x e = let f : Some y ≡ Some x = e in (ys, cc)
