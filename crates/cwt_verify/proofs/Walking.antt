-- The layers of a token, one after another.
use Rattle.std.proofs.Common.{◌≡◌, ◌≤◌, ◌<◌, ◌+◌, ◌++◌, ◌∙◌, ℕ, List, [], ◌∷◌, length, map, Bool, true, false, Option, Some, None, Ok, Err, nat_eq, refl}
use Rattle.std.proofs.Common.{sym, ap, subst, arith, if◌then◌else◌}
use Rattle.std.proofs.lemmas.Bool.Decides.{nat_tests}
use Rattle.std.proofs.lemmas.List.{length-map, length_push, map-append}
use Rattle.std.specs.Global.{Global}
use Rattle.std.specs.Prelude.{Vec}
use Rattle.cwt_keys.specs.Keys.{KeysView, Name}
use Rattle.cwt_verify.specs.Layers.{begins_with_tag}
use Rattle.cwt_verify.specs.Opening.{VerifiedView, seen, verified_view}
use Rattle.cwt_verify.specs.Policy.{PolicyView, authenticates}
use Rattle.cwt_verify.specs.Walk.{Accepted, IsOpened, Leads, OpensAll, OpensNext, RefusesLayer, first_of, goes_on}
use Rattle.cwt_verify.specs.Walk.{is_outside, verified_views, vouched, voucher, voucher_view}
use Rattle.cwt_verify.specs.declared.error.TokenError.{TokenError}
use Rattle.cwt_verify.specs.declared.error.TokenError.TheVariants as token
use Rattle.cwt_verify.specs.declared.layer.VerifiedLayer.{VerifiedLayer}
use Rattle.cwt_verify.specs.declared.layers.Opened.{Opened}

-- ---- lists of layers

-- Returns true if the layer after these is the outermost, where `outermost` says so of the first.
abbrev first : {A : Type 0} → Bool → List A → Bool
first outermost [] = outermost
first outermost (x ∷ xs) = false

first-false : {A : Type 0} (xs : List A) → first false xs ≡ false
first-false [] = refl
first-false (x ∷ xs) = refl

first-true : {A : Type 0} (xs : List A) → first true xs ≡ is_outside xs
first-true [] = refl
first-true (x ∷ xs) = refl

is_outside-map : {A B : Type 0} (f : A → B) (xs : List A) → is_outside (map f xs) ≡ is_outside xs
is_outside-map f [] = refl
is_outside-map f (x ∷ xs) = refl

some-count : {A : Type 0} (x : A) (xs : List A) → nat_eq (length (x ∷ xs)) 0 ≡ false
some-count x xs = grind (arith, nat_tests)

-- No layer is around exactly if their number is 0.
pub outside-count : {A B : Type 0} (f : A → B) (xs : List A) (n : ℕ) → n ≡ length xs → nat_eq n 0 ≡ is_outside (map f xs)
outside-count f [] n e = ap (λ m. nat_eq m 0) e
outside-count f (x ∷ xs) n e = ap (λ m. nat_eq m 0) e ∙ some-count x xs

is_outside-push : {A : Type 0} (xs : List A) (x : A) → is_outside (xs ++ x ∷ []) ≡ false
is_outside-push [] x = refl
is_outside-push (y ∷ ys) x = refl

first_of-if : (b : Bool) (n : Name) (o w : Option Name) → first_of (if b then Some n else o) w ≡ (if b then Some n else first_of o w)
first_of-if true n o w = refl
first_of-if false n o w = refl

voucher-push : (p : PolicyView) (xs : List Accepted) (x : Accepted) → voucher p (xs ++ x ∷ []) ≡ vouched p (seen x) (voucher p xs)
voucher-push p [] x = refl
voucher-push p (y ∷ ys) x =
    ap (λ o. first_of o (vouched p (seen y) None)) (voucher-push p ys x)
    ∙ first_of-if (authenticates p.authenticated_by (seen x).form) (seen x).issuer (voucher p ys) (vouched p (seen y) None)

module _ {E : Type 0} (k : KeysView E) (p : PolicyView) where
  leads-push :
      (outermost : Bool) (q : List ℕ) (xs : List Accepted) (r : List ℕ) (x : Accepted) (c : List ℕ) → Leads k p outermost q xs r
      → goes_on (first outermost xs) r ≡ true → IsOpened k p (first outermost xs) r x c → Leads k p outermost q (xs ++ x ∷ []) c
  leads-push outermost q [] r x c d more o = (
    c,
    subst (λ s. goes_on outermost s ≡ true) d more,
    subst (λ s. IsOpened k p outermost s x c) d o,
    refl,
  )
  leads-push outermost q (y ∷ ys) r x c d more o = (
    d.0,
    d.1,
    d.2,
    leads-push false d.0 ys r x c d.3 (subst (λ b. goes_on b r ≡ true) (sym (first-false ys)) more)
        (subst (λ b. IsOpened k p b r x c) (sym (first-false ys)) o),
  )

pub no_views : (vs : Vec VerifiedLayer Global) → vs.items ≡ [] → verified_views vs ≡ []
no_views vs e = ap (map verified_view) e

-- One more layer is opened.
pub longer : (o i : Opened) (v : VerifiedView) → verified_views i.layers ≡ verified_views o.layers ++ v ∷ []
    → length i.layers.items ≡ length o.layers.items + 1
longer o i v e =
    sym (length-map i.layers.items verified_view)
    ∙ (ap length e ∙ (length_push (verified_views o.layers) v ∙ ap (λ n. n + 1) (length-map o.layers.items verified_view)))

-- ---- the state of the loop

-- The layers `xs` of the token `b`, at least one and at most four, are opened, and `o` says so.
pub record AreOpened {E : Type 0} (k : KeysView E) (p : PolicyView) (b : List ℕ) (o : Opened) : Type 0 where
  pub xs : List Accepted
  pub inside : is_outside xs ≡ false
  pub leads : Leads k p true b xs o.content.items
  pub few : length xs ≤ 4
  pub views : verified_views o.layers ≡ map seen xs
  pub who : voucher_view o.voucher ≡ voucher p xs

module _ {E : Type 0} (k : KeysView E) (p : PolicyView) (b : List ℕ) where
  pub first_opened : (vs : List VerifiedView) (n : Option Name) (o : Opened) → vs ≡ [] → n ≡ None → OpensNext k p vs n b (Ok o) → AreOpened k p b o
  first_opened vs n o none nobody h =
      let d = subst (λ us. OpensNext k p us n b (Ok o)) none h in
      let e = subst (λ m. OpensNext k p [] m b (Ok o)) nobody d in
      record {
        xs = e.0 ∷ [];
        inside = refl;
        leads = (o.content.items, refl, e.1, refl);
        few = omega arith;
        views = e.2;
        who = e.3;
      }

  next_refused : (xs : List Accepted) (q : List ℕ) (vs : List VerifiedView) (n : Option Name) (e : TokenError E) → Leads k p true b xs q
      → goes_on (is_outside xs) q ≡ true → vs ≡ map seen xs → length xs < 4 → OpensNext k p vs n q (Err e) → OpensAll k p b (Err e)
  next_refused xs q vs n (token.Layer index e) d more is few h =
      let counted : length xs ≡ index = sym (h.0 ∙ (ap length is ∙ length-map xs seen)) in
      let outside : is_outside vs ≡ is_outside xs = ap is_outside is ∙ is_outside-map seen xs in
      (xs, q, d, more, (counted, subst (λ m. m < 4) counted few, subst (λ o. RefusesLayer k p o q e) outside h.1))
  next_refused xs q vs n e d more is few h = absurd h

  pub first_refused : (vs : List VerifiedView) (n : Option Name) (e : TokenError E) → vs ≡ [] → OpensNext k p vs n b (Err e) → OpensAll k p b (Err e)
  first_refused vs n e none h = next_refused [] b vs n e refl refl none (omega arith) h

  counted : (o : Opened) (a : AreOpened k p b o) → length a.xs ≡ length o.layers.items
  counted o a = sym (length-map a.xs seen) ∙ (ap length (sym a.views) ∙ length-map o.layers.items verified_view)

  -- Fewer than four layers are opened, if their number isn't four.
  pub below : (o : Opened) (a : AreOpened k p b o) (n : ℕ) → n ≡ length o.layers.items → (n ≡ 4 → ⊥) → length o.layers.items < 4
  below o a n count not = let many : length a.xs ≡ length o.layers.items = counted o a in omega (arith, a.few, many, count, not)

  pub inner_refused :
      (o : Opened) (vs : List VerifiedView) (n : Option Name) (q : List ℕ) (e : TokenError E) → AreOpened k p b o → q ≡ o.content.items
      → vs ≡ verified_views o.layers → begins_with_tag q ≡ true → length o.layers.items < 4 → OpensNext k p vs n q (Err e)
      → OpensAll k p b (Err e)
  inner_refused o vs n q e a same views more few h =
      let count : length a.xs ≡ length o.layers.items = counted o a in
      next_refused a.xs q vs n e (subst (λ s. Leads k p true b a.xs s) (sym same) a.leads)
      (ap (λ t. goes_on t q) a.inside ∙ more) (views ∙ a.views) (omega (arith, few, count)) h

  pub one_more :
      (o i : Opened) (vs : List VerifiedView) (n : Option Name) (q : List ℕ) → AreOpened k p b o → q ≡ o.content.items → vs ≡ verified_views o.layers
      → n ≡ voucher_view o.voucher → begins_with_tag q ≡ true → length o.layers.items < 4 → OpensNext k p vs n q (Ok i) → AreOpened k p b i
  one_more o i vs n q a same views who more few h =
      let count : length a.xs ≡ length o.layers.items = counted o a in
      let all : vs ≡ map seen a.xs = views ∙ a.views in
      let outside : is_outside vs ≡ first true a.xs = ap is_outside all ∙ (is_outside-map seen a.xs ∙ sym (first-true a.xs)) in
      let inner : first true a.xs ≡ false = first-true a.xs ∙ a.inside in
      record {
        xs = a.xs ++ h.0 ∷ [];
        inside = is_outside-push a.xs h.0;
        leads = leads-push k p true b a.xs q h.0 i.content.items (subst (λ s. Leads k p true b a.xs s) (sym same) a.leads)
            (ap (λ t. goes_on t q) inner ∙ more) (subst (λ t. IsOpened k p t q h.0 i.content.items) outside h.1);
        few =
            let long : length (a.xs ++ h.0 ∷ []) ≡ length a.xs + 1 = length_push a.xs h.0 in
            omega (arith, few, count, long);
        views = h.2 ∙ (ap (λ us. us ++ seen h.0 ∷ []) all ∙ sym (map-append seen a.xs (h.0 ∷ [])));
        who = h.3 ∙ (ap (vouched p (seen h.0)) (who ∙ a.who) ∙ sym (voucher-push p a.xs h.0));
      }

  pub too_deep : (o : Opened) (q : List ℕ) → AreOpened k p b o → q ≡ o.content.items → begins_with_tag q ≡ true → length o.layers.items ≡ 4
      → OpensAll k p b (Err token.TooDeep)
  too_deep o q a same more most =
      (a.xs, q, subst (λ s. Leads k p true b a.xs s) (sym same) a.leads, ap (λ t. goes_on t q) a.inside ∙ more, counted o a ∙ most)

  pub all_opened : (o : Opened) (q : List ℕ) → AreOpened k p b o → q ≡ o.content.items → begins_with_tag q ≡ false → OpensAll k p b (Ok o)
  all_opened o q a same none = (
    a.xs,
    q,
    subst (λ s. Leads k p true b a.xs s) (sym same) a.leads,
    ap (λ t. goes_on t q) a.inside ∙ none,
    (a.few, (same, a.views, a.who)),
  )
