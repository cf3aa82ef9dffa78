-- Sets of keys that are stored key by key.
use Rattle.std.specs.Prelude.{◌↔◌, IfErr, IsErrAnd}
use Rattle.std.specs.Bool.{Decides}
use Rattle.std.specs.Cmp.Derive.Mapped.{pointwise-map}
use Rattle.std.specs.Cmp.Lexicographic.{pointwise}
use Rattle.std.specs.Global.{Global}
use Rattle.std.specs.Str.{bytes_eq}
use Rattle.std.proofs.Common.{◌≡◌, ◌≤◌, ◌++◌, ℕ, List, [], ◌∷◌, Bool, Contains, Result, Ok, Err, Vec, append-nil, length, map, refl, subst, sym, ◌∙◌, arith}
use Rattle.std.proofs.lemmas.List.Elements.{Contains-append_right}
use Rattle.std.proofs.lemmas.Slice.Eq.{bytes_eq-Decides, slice_eq-Decides}
use Rattle.coset_value.specs.Item.{Item, depth}
use Rattle.coset_codec.specs.Results.{Writes}
use Rattle.coset_codec.specs.Errors.{UnlessMemory}
use Rattle.coset_codec.specs.Lists.{EachWith}
use Rattle.coset_codec.specs.ReadAgain.{ReadsAgain}
use Rattle.coset_codec.specs.ShapeLaws.{some-none}
use Rattle.coset_codec.specs.declared.error.CoseError.{CoseError}
use Rattle.coset_codec.specs.declared.error.CoseError.TheVariants.{OutOfMemory}
use Rattle.coset_label.specs.declared.ordering.CborOrdering.{CborOrdering}
use Rattle.coset_key.specs.Canonical.{AgreeButForOrder, CanonicalInjective}
use Rattle.coset_key.specs.Keys.{KeyView, key}
use Rattle.example_uses.specs.KeySets.{IsHeldOf}
use Rattle.example_uses.proofs.Spellings.{only_memory}

-- Each key was read.
abbrev pub AreRead : List KeyView → Type 0
AreRead ks = (k : KeyView) → Contains ks k → (v : Item) × key.describes v k × (depth v ≤ 255)

first : (k : KeyView) (ks : List KeyView) → AreRead (k ∷ ks) → (v : Item) × key.describes v k × (depth v ≤ 255)
first k ks r = r k (0, omega arith, refl)

others : (k : KeyView) (ks : List KeyView) → AreRead (k ∷ ks) → AreRead ks
others k ks r = λ x m. r x (Contains-append_right (k ∷ []) ks x m)

-- The stored bytes of two sets are the same exactly if their keys agree one by one.
pub each_apart :
    (o : CborOrdering) → CanonicalInjective o → (ks ls : List KeyView) (bs cs : List (List ℕ)) → AreRead ks → AreRead ls
    → EachWith (IsHeldOf o) ks bs → EachWith (IsHeldOf o) ls cs → (bs ≡ cs) ↔ EachWith AgreeButForOrder ks ls
each_apart o apart [] [] [] [] r s h j = (λ e. tt, λ a. refl)
each_apart o apart [] (l ∷ ls) [] (c ∷ cs) r s h j = (λ e. absurd (cc), λ a. absurd a)
each_apart o apart (k ∷ ks) [] (b ∷ bs) [] r s h j = (λ e. absurd (cc), λ a. absurd a)
each_apart o apart (k ∷ ks) (l ∷ ls) (b ∷ bs) (c ∷ cs) r s h j =
    let d = first k ks r in
    let f = first l ls s in
    let x = h.0 in
    let y = j.0 in
    let heads = apart d.0 f.0 b c k l x.ordered y.ordered d.1 f.1 x.is_ordered y.is_ordered x.is_written y.is_written in
    let tails = each_apart o apart ks ls bs cs (others k ks r) (others l ls s) h.1 j.1 in
    (λ e. let q : b ≡ c = cc in let qs : bs ≡ cs = cc in (heads.0 q, tails.0 qs), λ a i. heads.1 a.0 i ∷ tails.1 a.1 i)
each_apart o apart [] [] [] (c ∷ cs) r s h j = absurd j
each_apart o apart [] (l ∷ ls) [] [] r s h j = absurd j
each_apart o apart (k ∷ ks) [] (b ∷ bs) (c ∷ cs) r s h j = absurd j
each_apart o apart (k ∷ ks) (l ∷ ls) (b ∷ bs) [] r s h j = absurd j
each_apart o apart [] ls (b ∷ bs) cs r s h j = absurd h
each_apart o apart (k ∷ ks) ls [] cs r s h j = absurd h

-- A relation of the views of elements.
pub each-mapped :
    {A B C D : Type 0} (R : C → D → Type 0) (f : A → C) (g : B → D) (xs : List A) (ys : List B) → EachWith (λ x y. R (f x) (g y)) xs ys
    → EachWith R (map f xs) (map g ys)
each-mapped R f g [] [] h = tt
each-mapped R f g (x ∷ xs) (y ∷ ys) h = (h.0, each-mapped R f g xs ys h.1)
each-mapped R f g [] (y ∷ ys) h = absurd h
each-mapped R f g (x ∷ xs) [] h = absurd h

-- The view of an element is among the views of the list.
pub is_among : {A B : Type 0} (f : A → B) (ys zs xs : List A) (x : A) → ys ++ x ∷ zs ≡ xs → Contains (map f xs) (f x)
is_among f ys zs xs x e = subst (λ us. Contains (map f us) (f x)) e (stands ys)
  where
    stands : (us : List _) → Contains (map f (us ++ x ∷ zs)) (f x)
    stands [] = (0, omega arith, refl)
    stands (u ∷ us) = Contains-append_right (f u ∷ []) (map f (us ++ x ∷ zs)) (f x) (stands us)

-- A loop over a list has reached the end.
pub all_yielded : {A : Type 0} (ys old all : List A) → ys ++ old ≡ all → length old ≡ 0 → ys ≡ all
all_yielded ys [] all parts none = sym (append-nil ys) ∙ parts
all_yielded ys (x ∷ old) all parts none = absurd (omega (arith, none))

-- A key that was read fails to be written only with `OutOfMemory`.
pub written_unless_memory :
    (x : KeyView) (r : Result (Vec ℕ Global) CoseError) → ReadsAgain key x → Writes (key.image x) (λ b. b.items) r → IfErr r (λ e. e ≡ OutOfMemory)
written_unless_memory x (Ok b) a w = tt
written_unless_memory x (Err e) a w = only_memory e (λ n. some-none a.1 (w n).1)

-- The call for one of these keys fails only with `OutOfMemory`, and the error is passed on.
module _ {A : Type 0} (view : A → KeyView) (ks : List A) (read : AreRead (map view ks)) where
  pub refused_for_memory :
      {T : Type 0} (ys old new : List A) (x : A) (r : Result T CoseError) (e : CoseError) (stands : CoseError → Type 0) → ys ++ old ≡ ks → old ≡ x ∷ new
      → ((v : Item) → key.describes v (view x) → depth v ≤ 256 → e ≡ OutOfMemory) → IsErrAnd r (λ f. f ≡ e) → IfErr r (λ f. UnlessMemory f stands)
  refused_for_memory ys old new x (Ok y) e stands parts next only is = absurd is
  refused_for_memory ys old new x (Err f) e stands parts next only is =
      let q : ys ++ x ∷ new ≡ ks = cc in
      let d = read (view x) (is_among view ys new ks x q) in
      λ n. absurd (n (is ∙ only d.0 d.1 (omega (arith, d.2))))

-- `==` of the bytes of two stores.
pub are_same :
    (one other : List (Vec ℕ Global)) (b : Bool) → b ≡ pointwise (λ c d. bytes_eq c.items d.items) one other
    → Decides b (map (λ c. c.items) one ≡ map (λ c. c.items) other)
are_same one other b e =
    let mapped = pointwise-map (λ (c : Vec ℕ Global). c.items) bytes_eq one other in
    slice_eq-Decides bytes_eq-Decides _ _ b (e ∙ sym mapped)
