-- Laws of each shape. An item represents at most one value. A value that was read is written as an item no deeper,
-- which represents the same value. An item that represents a value has no fault.
use Rattle.std.proofs.Common.{◌≡◌, ◌⊎◌, ◌≤◌, ℕ, suc, max, ℤ, List, [], ◌∷◌, Option, Some, None, Bool, true, false, option_map, refl, sym, ◌∙◌, ap, subst, inl}
use Rattle.std.proofs.Common.{inr, arith, true≢false}
use Rattle.coset_value.specs.Item.{Item, integer, bytes, float, text, boolean, null, tag, array, dict, Items, no_items, item, depth, items_depth, items_count}
use Rattle.coset_value.specs.Parts.{as_array, as_tag}
use Rattle.coset_codec.specs.declared.error.CoseError.{CoseError}
use Rattle.coset_codec.specs.Shape.{Shape, Elements, ElementsFaults, both, kind_of, int, bstr, tstr, floating}
use Rattle.coset_codec.specs.Shape.{any, such_that, int64, uint, nonempty_bstr, mapped, masked}
use Rattle.coset_codec.specs.Shape.{either, is_nil, nil, option_of, sum_of, or_nil, present, fixed, tagged, array_of, end, ◌then◌, Each, images, EachFaults}
use Rattle.coset_codec.specs.Shape.{any_number, list_of, some_of, optional_last, LastDescribes, LastWrongLength, LastFaults, last_image, up_to, one_or_more}
use Rattle.coset_codec.specs.Shape.{one_or_array, one_or_many}

-- x is written as an item that represents x and is no deeper than v.
pub record Again (A : Type 0) (s : Shape A) (v : Item) (x : A) : Type 0 where
  pub image : Item
  pub is_image : s.image x ≡ Some image
  pub described : s.describes image x
  pub shallow : depth image ≤ depth v

pub record Lawful (A : Type 0) (s : Shape A) : Type 0 where
  pub unique : (v : Item) (x y : A) → s.describes v x → s.describes v y → x ≡ y
  pub again : (v : Item) (x : A) → s.describes v x → Again A s v x
  pub sound : (v : Item) (x : A) (e : CoseError) → s.describes v x → s.faults v e → ⊥

-- x is written as elements that represent x and are no deeper than vs.
pub record AgainElements (A : Type 0) (s : Elements A) (vs : Items) (x : A) : Type 0 where
  pub image : Items
  pub is_image : s.image x ≡ Some image
  pub described : s.describes image x
  pub shallow : items_depth image ≤ items_depth vs

pub record LawfulElements (A : Type 0) (s : Elements A) : Type 0 where
  pub unique : (vs : Items) (x y : A) → s.describes vs x → s.describes vs y → x ≡ y
  pub again : (vs : Items) (x : A) → s.describes vs x → AgainElements A s vs x
  pub fits : (vs : Items) (x : A) → s.describes vs x → s.wrong_length vs → ⊥
  pub sound : (vs : Items) (x : A) (e : CoseError) → s.describes vs x → s.faults vs e → ⊥

-- Options and sums.

pub some-one : {A : Type 0} {o : Option A} {x y : A} → o ≡ Some x → o ≡ Some y → x ≡ y
some-one p q = cc

pub some-none : {A : Type 0} {o : Option A} {x : A} → o ≡ Some x → o ≡ None → ⊥
some-none {o = o} {x = x} p q = absurd (cc)

mapped-some : {A B : Type 0} (f : A → B) (o : Option A) (x : A) → o ≡ Some x → option_map f o ≡ Some (f x)
mapped-some f o x p = ap (option_map f) p

pub both-some : {A B C : Type 0} (f : A → B → C) (o : Option A) (q : Option B) (x : A) (y : B) → o ≡ Some x → q ≡ Some y → both f o q ≡ Some (f x y)
both-some f o q x y p r = rw (p, r) refl

-- ---- items of one kind

pub kind_of_laws :
    {A : Type 0} (part : Item → Option A) (made : A → Item) → ((x : A) → part (made x) ≡ Some x) → ((x : A) → depth (made x) ≡ 0) → Lawful A (kind_of part made)
kind_of_laws part made back flat =
    record {
      unique = λ v x y p q. some-one p q;
      again = λ v x p. record { image = made x; is_image = refl; described = back x; shallow = rw (flat x) (omega arith) };
      sound = λ v x e p f. some-none p f.0;
    }

pub int_laws : Lawful ℤ int
int_laws = kind_of_laws _ integer (λ x. refl) (λ x. refl)

pub bstr_laws : Lawful (List ℕ) bstr
bstr_laws = kind_of_laws _ bytes (λ x. refl) (λ x. refl)

pub tstr_laws : Lawful (List ℕ) tstr
tstr_laws = kind_of_laws _ text (λ x. refl) (λ x. refl)

pub floating_laws : Lawful _ floating
floating_laws = kind_of_laws _ float (λ x. refl) (λ x. refl)

pub nil_laws : Lawful (Unit {0}) nil
nil_laws = kind_of_laws _ (λ x. null) (λ x. refl) (λ x. refl)

pub any_laws : Lawful Item any
any_laws =
    record {
      unique = λ v x y p q. sym p ∙ q;
      again = λ v x p. record { image = x; is_image = refl; described = refl; shallow = rw p (omega arith) };
      sound = λ v x e p f. f;
    }

-- ---- conditions, names and choices

pub such_that_laws : {A : Type 0} (blames : CoseError → Type 0) (P : A → Type 0) (s : Shape A) → Lawful A s → Lawful A (such_that blames P s)
such_that_laws {A} blames P s l =
    record {
      unique = λ v x y p q. l.unique v x y p.0 q.0;
      again = λ v x p.
          let a : Again A s v x = l.again v x p.0 in
          record { image = a.image; is_image = a.is_image; described = (a.described, p.1); shallow = a.shallow };
      sound = λ v x e p f. elim f [ inl g ↦ l.sound v x e p.0 g | inr g ↦ g.1.2 (subst P (l.unique v x g.1.0 p.0 g.1.1) p.1) ];
    }

pub int64_laws : Lawful ℤ int64
int64_laws = such_that_laws _ _ int int_laws

pub uint_laws : Lawful ℤ uint
uint_laws = such_that_laws _ _ int int_laws

pub nonempty_bstr_laws : Lawful (List ℕ) nonempty_bstr
nonempty_bstr_laws = such_that_laws _ _ bstr bstr_laws

pub mapped_laws : {A B : Type 0} (to : A → B) (from : B → A) (back : (x : B) → to (from x) ≡ x) (s : Shape A) → Lawful A s → Lawful B (mapped to from s)
mapped_laws {A} {B} to from back s l =
    record {
      unique = λ v x y p q. sym (back x) ∙ (ap to (l.unique v (from x) (from y) p q) ∙ back y);
      again = λ v x p.
          let a : Again A s v (from x) = l.again v (from x) p in
          record { image = a.image; is_image = a.is_image; described = a.described; shallow = a.shallow };
      sound = λ v x e p f. l.sound v (from x) e p f;
    }

pub masked_laws : {A : Type 0} (blames : CoseError → Type 0) (s : Shape A) → Lawful A s → Lawful A (masked blames s)
masked_laws {A} blames s l =
    record {
      unique = l.unique;
      again = λ v x p.
          let a : Again A s v x = l.again v x p in
          record { image = a.image; is_image = a.is_image; described = a.described; shallow = a.shallow };
      sound = λ v x e p f. l.sound v x f.1.0 p f.1.1;
    }

module _ {A B : Type 0} (is_first : Item → Bool) (s : Shape A) (t : Shape B) (ls : Lawful A s) (lt : Lawful B t) where
  either_unique : (v : Item) (x y : A ⊎ B) → (either is_first s t).describes v x → (either is_first s t).describes v y → x ≡ y
  either_unique v (inl x) (inl y) p q = ap inl (ls.unique v x y p.1 q.1)
  either_unique v (inl x) (inr y) p q = absurd (true≢false (sym p.0 ∙ q.0))
  either_unique v (inr x) (inl y) p q = absurd (true≢false (sym q.0 ∙ p.0))
  either_unique v (inr x) (inr y) p q = ap inr (lt.unique v x y p.1 q.1)

  either_sound : (v : Item) (x : A ⊎ B) (e : CoseError) → (either is_first s t).describes v x → (either is_first s t).faults v e → ⊥
  either_sound v (inl x) e p (inl f) = ls.sound v x e p.1 f.1
  either_sound v (inl x) e p (inr f) = true≢false (sym p.0 ∙ f.0)
  either_sound v (inr x) e p (inl f) = true≢false (sym f.0 ∙ p.0)
  either_sound v (inr x) e p (inr f) = lt.sound v x e p.1 f.1

  module _
      (first : (v : Item) (x : A) (w : Item) → is_first v ≡ true → s.describes v x → s.image x ≡ Some w → is_first w ≡ true)
      (second : (v : Item) (y : B) (w : Item) → is_first v ≡ false → t.describes v y → t.image y ≡ Some w → is_first w ≡ false) where
    either_again : (v : Item) (x : A ⊎ B) → (either is_first s t).describes v x → Again (A ⊎ B) (either is_first s t) v x
    either_again v (inl x) p =
        let a : Again A s v x = ls.again v x p.1 in
        record { image = a.image; is_image = a.is_image; described = (first v x a.image p.0 p.1 a.is_image, a.described); shallow = a.shallow }
    either_again v (inr x) p =
        let a : Again B t v x = lt.again v x p.1 in
        record { image = a.image; is_image = a.is_image; described = (second v x a.image p.0 p.1 a.is_image, a.described); shallow = a.shallow }

    pub either_laws : Lawful (A ⊎ B) (either is_first s t)
    either_laws = record { unique = either_unique; again = either_again; sound = either_sound }

option-back : {A : Type 0} (x : Option A) → option_of (sum_of x) ≡ x
option-back None = refl
option-back (Some x) = refl

-- s / nil has laws if s never writes null.
pub or_nil_laws : {A : Type 0} (s : Shape A) → ((x : A) (w : Item) → s.image x ≡ Some w → is_nil w ≡ false) → Lawful A s → Lawful (Option A) (or_nil s)
or_nil_laws s no_null l =
    mapped_laws option_of sum_of option-back (either is_nil nil s)
    (either_laws is_nil nil s nil_laws l (λ v x w f d e. let h : null ≡ w = some-one refl e in ap is_nil (sym h)) (λ v x w f d e. no_null x w e))

-- A byte string is never null.
pub bytes_no_nil : (x : List ℕ) (w : Item) → bstr.image x ≡ Some w → is_nil w ≡ false
bytes_no_nil x w e = let h : bytes x ≡ w = cc in ap is_nil (sym h)

present_unique : {A : Type 0} (s : Shape A) → Lawful A s → (v : Item) (x y : Option A) → (present s).describes v x → (present s).describes v y → x ≡ y
present_unique s l v (Some x) (Some y) p q = ap Some (l.unique v x y p q)
present_unique s l v (Some x) None p q = absurd q
present_unique s l v None y p q = absurd p

present_again : {A : Type 0} (s : Shape A) → Lawful A s → (v : Item) (x : Option A) → (present s).describes v x → Again (Option A) (present s) v x
present_again {A} s l v (Some x) p =
    let a : Again A s v x = l.again v x p in
    record { image = a.image; is_image = a.is_image; described = a.described; shallow = a.shallow }
present_again s l v None p = absurd p

present_sound : {A : Type 0} (s : Shape A) → Lawful A s → (v : Item) (x : Option A) (e : CoseError) → (present s).describes v x → (present s).faults v e → ⊥
present_sound s l v (Some x) e p f = l.sound v x e p f
present_sound s l v None e p f = p

pub present_laws : {A : Type 0} (s : Shape A) → Lawful A s → Lawful (Option A) (present s)
present_laws s l = record { unique = present_unique s l; again = present_again s l; sound = present_sound s l }

-- If an item represents the value, the value is written as an item that represents it and is no deeper.
pub fixed_laws :
    (P : Item → Type 0) (o : Option Item) (faults : Item → CoseError → Type 0) → ((v : Item) → P v → (w : Item) × (o ≡ Some w) × P w × (depth w ≤ depth v))
    → ((v : Item) (e : CoseError) → P v → faults v e → ⊥) → Lawful (Unit {0}) (fixed P o faults)
fixed_laws P o faults again sound =
    record {
      unique = λ v x y p q. refl;
      again = λ v x p. let a : (w : Item) × (o ≡ Some w) × P w × (depth w ≤ depth v) = again v p in
          record { image = a.0; is_image = a.1; described = a.2; shallow = a.3 };
      sound = λ v x e p f. sound v e p f;
    }

as_tag-depth : (v : Item) (t : ℕ) (w : Item) → as_tag v ≡ Some (t, w) → suc (depth w) ≡ depth v
as_tag-depth (tag u x) t w p = let h : (u, x) ≡ (t, w) = some-one refl p in ap (λ y. suc (depth y)) (sym (ap (λ y. y.1) h))
as_tag-depth (array ws) t w p = absurd (cc)
as_tag-depth (integer n) t w p = absurd (cc)
as_tag-depth (bytes s) t w p = absurd (cc)
as_tag-depth (float x) t w p = absurd (cc)
as_tag-depth (text s) t w p = absurd (cc)
as_tag-depth (boolean b) t w p = absurd (cc)
as_tag-depth null t w p = absurd (cc)
as_tag-depth (dict ps) t w p = absurd (cc)

pub tagged_laws : {A : Type 0} (number : ℕ) (s : Shape A) → Lawful A s → Lawful A (tagged number s)
tagged_laws {A} number s l =
    record {
      unique = λ v x y p q. l.unique p.0 x y p.2 (subst (λ w. s.describes w y) (ap (λ y. y.1) (some-one q.1 p.1)) q.2);
      again = λ v x p.
          let a : Again A s p.0 x = l.again p.0 x p.2 in
          let d : suc (depth p.0) ≡ depth v = as_tag-depth v number p.0 p.1 in
          record {
            image = tag number a.image;
            is_image = mapped-some (tag number) (s.image x) a.image a.is_image;
            described =
                (a.image, refl, a.described);
            shallow = omega (arith, a.shallow, d);
          };
      sound = λ v x e p f.
          elim f [
            | inl g ↦ some-none p.1 g.0
            | inr g ↦
                let same : (g.0, g.1) ≡ (number, p.0) = some-one g.2 p.1 in
                elim g.3 [ inl m ↦ m.0 (ap (λ y. y.0) same) | inr m ↦ l.sound p.0 x e p.2 (subst (λ w. s.faults w e) (ap (λ y. y.1) same) m.1) ]
          ];
    }

-- ---- arrays

pub as_array-depth : (v : Item) (vs : Items) → as_array v ≡ Some vs → suc (items_depth vs) ≡ depth v
as_array-depth (array ws) vs p = let h : ws ≡ vs = cc in ap (λ us. suc (items_depth us)) (sym h)
as_array-depth (integer n) vs p = absurd (cc)
as_array-depth (bytes s) vs p = absurd (cc)
as_array-depth (float x) vs p = absurd (cc)
as_array-depth (text s) vs p = absurd (cc)
as_array-depth (boolean b) vs p = absurd (cc)
as_array-depth null vs p = absurd (cc)
as_array-depth (tag t v) vs p = absurd (cc)
as_array-depth (dict ps) vs p = absurd (cc)

array_of_unique : {A : Type 0} (ps : Elements A) → LawfulElements A ps → (v : Item) (x y : A) → (array_of ps).describes v x → (array_of ps).describes v y
    → x ≡ y
array_of_unique ps l v x y p q = l.unique p.0 x y p.2 (subst (λ vs. ps.describes vs y) (some-one q.1 p.1) q.2)

array_of_again : {A : Type 0} (ps : Elements A) → LawfulElements A ps → (v : Item) (x : A) → (array_of ps).describes v x → Again A (array_of ps) v x
array_of_again {A} ps l v x p =
    let a : AgainElements A ps p.0 x = l.again p.0 x p.2 in
    let d : suc (items_depth p.0) ≡ depth v = as_array-depth v p.0 p.1 in
    record {
      image = array a.image;
      is_image = mapped-some array (ps.image x) a.image a.is_image;
      described = (a.image, refl, a.described);
      shallow =
          omega (arith, a.shallow, d);
    }

-- Elements that represent a value have no fault.
elements_sound : {A : Type 0} (ps : Elements A) → LawfulElements A ps → (vs : Items) (x : A) (e : CoseError) → ps.describes vs x → ElementsFaults ps vs e → ⊥
elements_sound ps l vs x e d (inl m) = l.fits vs x d m.0
elements_sound ps l vs x e d (inr f) = l.sound vs x e d f.1

array_of_sound : {A : Type 0} (ps : Elements A) → LawfulElements A ps → (v : Item) (x : A) (e : CoseError) → (array_of ps).describes v x
    → (array_of ps).faults v e
    → ⊥
array_of_sound ps l v x e p (inl f) = some-none p.1 f.0
array_of_sound ps l v x e p (inr f) = elements_sound ps l f.0 x e (subst (λ vs. ps.describes vs x) (some-one p.1 f.1) p.2) f.2

pub array_of_laws : {A : Type 0} (ps : Elements A) → LawfulElements A ps → Lawful A (array_of ps)
array_of_laws ps l = record { unique = array_of_unique ps l; again = array_of_again ps l; sound = array_of_sound ps l }

end_again : (vs : Items) (x : Unit {0}) → end.describes vs x → AgainElements (Unit {0}) end vs x
end_again no_items x p = record { image = no_items; is_image = refl; described = tt; shallow = omega arith }
end_again (item v vs) x p = absurd p

pub end_laws : LawfulElements (Unit {0}) end
end_laws = record { unique = λ vs x y p q. refl; again = end_again; fits = λ vs x p m. m p; sound = λ vs x e p f. f }

-- One more element at the front fits if the elements after it fit.
pub fits_after :
    {A B : Type 0} (s : Shape A) (ps : Elements B) → ((vs : Items) (x : B) → ps.describes vs x → ps.wrong_length vs → ⊥) → (vs : Items) (x : A × B)
    → (s then ps).describes vs x → (s then ps).wrong_length vs → ⊥
fits_after s ps fits no_items x p m = p
fits_after s ps fits (item v vs) x p m = fits vs x.1 p.1 m

module _ {A B : Type 0} (s : Shape A) (ps : Elements B) (l : Lawful A s) (ls : LawfulElements B ps) where
  then_unique : (vs : Items) (x y : A × B) → (s then ps).describes vs x → (s then ps).describes vs y → x ≡ y
  then_unique no_items x y p q = absurd p
  then_unique (item v vs) x y p q = λ i. (l.unique v x.0 y.0 p.0 q.0 i, ls.unique vs x.1 y.1 p.1 q.1 i)

  then_again : (vs : Items) (x : A × B) → (s then ps).describes vs x → AgainElements (A × B) (s then ps) vs x
  then_again no_items x p = absurd p
  then_again (item v vs) x p =
      let a : Again A s v x.0 = l.again v x.0 p.0 in
      let b : AgainElements B ps vs x.1 = ls.again vs x.1 p.1 in
      record {
        image = item a.image b.image;
        is_image = both-some item (s.image x.0) (ps.image x.1) a.image b.image a.is_image b.is_image;
        described = (a.described, b.described);
        shallow = omega (arith, a.shallow, b.shallow);
      }

  then_sound : (vs : Items) (x : A × B) (e : CoseError) → (s then ps).describes vs x → (s then ps).faults vs e → ⊥
  then_sound no_items x e p f = f
  then_sound (item v vs) x e p (inl f) = l.sound v x.0 e p.0 f
  then_sound (item v vs) x e p (inr f) = ls.sound vs x.1 e p.1 f

  pub then_laws : LawfulElements (A × B) (s then ps)
  then_laws = record { unique = then_unique; again = then_again; fits = fits_after s ps ls.fits; sound = then_sound }

module _ {A : Type 0} (s : Shape A) (l : Lawful A s) where
  each_unique : (vs : Items) (x y : List A) → Each s.describes vs x → Each s.describes vs y → x ≡ y
  each_unique no_items [] [] p q = refl
  each_unique no_items [] (y ∷ ys) p q = absurd q
  each_unique no_items (x ∷ xs) ys p q = absurd p
  each_unique (item v vs) [] ys p q = absurd p
  each_unique (item v vs) (x ∷ xs) [] p q = absurd q
  each_unique (item v vs) (x ∷ xs) (y ∷ ys) p q = λ i. l.unique v x y p.0 q.0 i ∷ each_unique vs xs ys p.1 q.1 i

  each_again : (vs : Items) (x : List A) → Each s.describes vs x → AgainElements (List A) (any_number s) vs x
  each_again no_items [] p = record { image = no_items; is_image = refl; described = tt; shallow = omega arith }
  each_again no_items (x ∷ xs) p = absurd p
  each_again (item v vs) [] p = absurd p
  each_again (item v vs) (x ∷ xs) p =
      let a : Again A s v x = l.again v x p.0 in
      let b : AgainElements (List A) (any_number s) vs xs = each_again vs xs p.1 in
      record {
        image = item a.image b.image;
        is_image = both-some item (s.image x) (images s.image xs) a.image b.image a.is_image b.is_image;
        described = (a.described, b.described);
        shallow = omega (arith, a.shallow, b.shallow);
      }

  each_sound : (vs : Items) (x : List A) (e : CoseError) → Each s.describes vs x → EachFaults s.faults vs e → ⊥
  each_sound no_items x e p f = f
  each_sound (item v vs) [] e p f = p
  each_sound (item v vs) (x ∷ xs) e p (inl f) = l.sound v x e p.0 f
  each_sound (item v vs) (x ∷ xs) e p (inr f) = each_sound vs xs e p.1 f

  pub any_number_laws : LawfulElements (List A) (any_number s)
  any_number_laws = record { unique = each_unique; again = each_again; fits = λ vs x p m. m; sound = each_sound }

  pub list_of_laws : Lawful (List A) (list_of s)
  list_of_laws = array_of_laws (any_number s) any_number_laws

  pub some_of_laws : Lawful (List A) (some_of s)
  some_of_laws = such_that_laws _ _ (list_of s) list_of_laws

module _ {A : Type 0} (absent : A) (shows : A → Bool) (hidden : shows absent ≡ false) (shown : (x : A) → shows x ≡ false → x ≡ absent) (s : Shape A)
    (l : Lawful A s) where
  last_unique : (vs : Items) (x y : A) → LastDescribes absent s.describes vs x → LastDescribes absent s.describes vs y → x ≡ y
  last_unique no_items x y p q = p ∙ sym q
  last_unique (item v no_items) x y p q = l.unique v x y p q
  last_unique (item v (item w vs)) x y p q = absurd p

  last_again : (vs : Items) (x : A) → LastDescribes absent s.describes vs x → AgainElements A (optional_last absent shows s) vs x
  last_again no_items x p =
      record { image = no_items; is_image = ap (λ b. last_image b (s.image x)) (ap shows p ∙ hidden); described = p; shallow = omega arith }
  last_again (item v no_items) x p = go (shows x) refl
    where
      go : (b : Bool) → shows x ≡ b → AgainElements A (optional_last absent shows s) (item v no_items) x
      go true h =
          let a : Again A s v x = l.again v x p in
          record {
            image = item a.image no_items;
            is_image = ap (λ b. last_image b (s.image x)) h ∙ mapped-some (λ w. item w no_items) (s.image x) a.image a.is_image;
            described = a.described;
            shallow = omega (arith, a.shallow);
          }
      go false h = record { image = no_items; is_image = ap (λ b. last_image b (s.image x)) h; described = shown x h; shallow = omega arith }
  last_again (item v (item w vs)) x p = absurd p

  last_fits : (vs : Items) (x : A) → LastDescribes absent s.describes vs x → LastWrongLength vs → ⊥
  last_fits no_items x p m = m
  last_fits (item v no_items) x p m = m tt
  last_fits (item v (item w vs)) x p m = p

  last_sound : (vs : Items) (x : A) (e : CoseError) → LastDescribes absent s.describes vs x → LastFaults s.faults vs e → ⊥
  last_sound no_items x e p f = f
  last_sound (item v no_items) x e p f = l.sound v x e p f
  last_sound (item v (item w vs)) x e p f = p

  pub optional_last_laws : LawfulElements A (optional_last absent shows s)
  optional_last_laws = record { unique = last_unique; again = last_again; fits = last_fits; sound = last_sound }

-- R relates a value to at most one value, and that value to itself. s writes that value as an item that represents it.
pub up_to_laws :
    {A : Type 0} (R : A → A → Type 0) (s : Shape A) → ((x y z : A) → R x y → R x z → y ≡ z) → ((x y : A) → R x y → R y y)
    → ((v : Item) (x y : A) → s.describes v x → R x y → Again A s v y) → Lawful A s → Lawful A (up_to R s)
up_to_laws {A} R s one itself again l =
    record {
      unique = λ v y z p q. one p.0 y z p.2 (subst (λ x. R x z) (l.unique v q.0 p.0 q.1 p.1) q.2);
      again = λ v y p.
          let a : Again A s v y = again v p.0 y p.1 p.2 in
          record { image = a.image; is_image = a.is_image; described = (y, a.described, itself p.0 y p.2); shallow = a.shallow };
      sound = λ v y e p f. l.sound v p.0 e p.1 f;
    }

-- ---- one, or a list of them

one_or_array-depth : (v : Item) (vs ws : Items) → one_or_more v ≡ Some vs → items_depth ws ≤ items_depth vs → items_count ws ≡ items_count vs
    → depth (one_or_array ws) ≤ depth v
one_or_array-depth (array (item (bytes b) us)) vs no_items p d c =
    let h : item (array (item (bytes b) us)) no_items ≡ vs = cc in
    let one : items_count vs ≡ 1 = ap items_count (sym h) in
    absurd (omega (arith, c, one))
one_or_array-depth (array (item (bytes b) us)) vs (item w no_items) p d c =
    let h : item (array (item (bytes b) us)) no_items ≡ vs = cc in
    let deep : items_depth vs ≡ max (suc (max 0 (items_depth us))) 0 = ap items_depth (sym h) in
    omega (arith, d, deep)
one_or_array-depth (array (item (bytes b) us)) vs (item w (item u ws)) p d c =
    let h : item (array (item (bytes b) us)) no_items ≡ vs = cc in
    let one : items_count vs ≡ 1 = ap items_count (sym h) in
    absurd (omega (arith, c, one))
one_or_array-depth (array (item (array ts) us)) vs no_items p d c = omega arith
one_or_array-depth (array (item (array ts) us)) vs (item w no_items) p d c =
    let h : item (array ts) us ≡ vs = cc in
    let deep : items_depth vs ≡ max (depth (array ts)) (items_depth us) = ap items_depth (sym h) in
    omega (arith, d, deep)
one_or_array-depth (array (item (array ts) us)) vs (item w (item u ws)) p d c =
    let h : item (array ts) us ≡ vs = cc in
    let deep : items_depth vs ≡ max (depth (array ts)) (items_depth us) = ap items_depth (sym h) in
    omega (arith, d, deep)
one_or_array-depth _ vs ws p d c = absurd (cc)

-- A single element written as itself is not read as an array of more. As many elements are written as were read.
pub one_or_many_laws :
    {A : Type 0} (ps : Elements A)
    → ((vs ws : Items) (x : A) → ps.describes vs x → ps.describes ws x → ps.image x ≡ Some ws → (one_or_more (one_or_array ws) ≡ Some ws)
    × (items_count ws ≡ items_count vs))
    → LawfulElements A ps → Lawful A (one_or_many ps)
one_or_many_laws {A} ps told l =
    record {
      unique = λ v x y p q. l.unique p.0 x y p.2 (subst (λ vs. ps.describes vs y) (some-one q.1 p.1) q.2);
      again = λ v x p.
          let a : AgainElements A ps p.0 x = l.again p.0 x p.2 in
          let t : (one_or_more (one_or_array a.image) ≡ Some a.image) × (items_count a.image ≡ items_count p.0) =
          told p.0 a.image x p.2 a.described a.is_image in
          record {
            image = one_or_array a.image;
            is_image = mapped-some one_or_array (ps.image x) a.image a.is_image;
            described = (a.image, t.0, a.described);
            shallow = one_or_array-depth v p.0 a.image p.1 a.shallow t.1;
          };
      sound = λ v x e p f.
          elim f [ inl g ↦ some-none p.1 g.0 | inr g ↦ elements_sound ps l g.0 x e (subst (λ vs. ps.describes vs x) (some-one p.1 g.1) p.2) g.2 ];
    }
