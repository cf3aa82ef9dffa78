-- Looking up pairs by their keys.
use Rattle.std.proofs.Common.{◌≡◌, List, [], ◌∷◌, Option, Some, None, Bool, true, false, refl, ap, ◌∙◌, sym, cond, option_map}
use Rattle.std.specs.Prelude.{map}
use Rattle.std.specs.Borrow.{Bor}
use Rattle.std.specs.List.{find}
use Rattle.std.specs.Map.{lookup}

cond-map : {A B : Type 0} (f : A → B) (b : Bool) (x : A) (o : Option A) → cond b (Some (f x)) (option_map f o) ≡ option_map f (cond b (Some x) o)
cond-map f true x o = refl
cond-map f false x o = refl

-- The value of the first pair whose key passes the test.
pub lookup_from_find : {K V : Type 0} (t : K → Bool) (es : List (K × V)) → option_map (λ e. e.1) (find (λ e. t e.0) es) ≡ lookup t es
lookup_from_find t [] = refl
lookup_from_find t (e ∷ es) = sym (cond-map (λ e. e.1) (t e.0) e (find (λ e. t e.0) es)) ∙ ap (cond (t e.0) (Some e.1)) (lookup_from_find t es)

-- A look-up among pairs whose keys and values are seen through `k` and `v`.
lookup-map : {K V N X : Type 0} (k : K → N) (v : V → X) (t : N → Bool) (es : List (K × V))
    → lookup t (map (λ e. (k e.0, v e.1)) es) ≡ option_map v (lookup (λ l. t (k l)) es)
lookup-map k v t [] = refl
lookup-map k v t (e ∷ es) = ap (cond (t (k e.0)) (Some (v e.1))) (lookup-map k v t es) ∙ cond-map v (t (k e.0)) e.1 (lookup (λ l. t (k l)) es)

view_lent : {A B : Type 0} (f : A → B) (r : Option (Bor A)) → option_map (λ x. f x.now) r ≡ option_map f (option_map (λ x. x.now) r)
view_lent f None = refl
view_lent f (Some x) = refl

-- A value that is found among the pairs is found among the pairs as contracts see them.
pub found_view :
    {K V N X : Type 0} (k : K → N) (v : V → X) (t : N → Bool) (es : List (K × V)) (r : Option (Bor V))
    → option_map (λ x. x.now) r ≡ lookup (λ l. t (k l)) es → option_map (λ x. v x.now) r ≡ lookup t (map (λ e. (k e.0, v e.1)) es)
found_view k v t es r h = view_lent v r ∙ (ap (option_map v) h ∙ sym (lookup-map k v t es))
