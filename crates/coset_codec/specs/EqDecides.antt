-- A derived `==` is equality of what contracts see of a value, if this holds for the value's parts.
use Rattle.std.specs.Prelude.{◌≡◌, ◌==◌, Bool, Decides, List, [], ◌∷◌, Some, None, ℕ, map, option_map, refl, ◌&&◌}
use Rattle.std.specs.Option.{option_eq}
use Rattle.std.specs.Cmp.Lexicographic.{pointwise, bytes_decides}
use Rattle.std.proofs.Common.{Vec, Global, ◌∙◌, ap, sym, true≢false}
use Rattle.std.proofs.lemmas.Bool.Decides.{Decides-like, Decides-and}

-- The test returns true if and only if contracts see the same of both values.
abbrev pub EqDecides : {A B : Type 0} → (A → B) → (A → A → Bool) → Type 0
EqDecides {A} view test = (x y : A) → Decides (test x y) (view x ≡ view y)

pub vec_decides : EqDecides (λ (b : Vec ℕ Global). b.items) (λ x y. pointwise ◌==◌ x.items y.items)
vec_decides x y = bytes_decides x.items y.items

module _ {A B : Type 0} (view : A → B) (test : A → A → Bool) (told : EqDecides view test) where
  pub options_decides : EqDecides (option_map view) (option_eq test)
  options_decides None None = (λ e. refl, λ e. refl)
  options_decides (Some x) (Some y) =
      Decides-like (option_eq test (Some x) (Some y)) (λ e. ap Some e) (λ e. cc) (told x y)
  options_decides None (Some y) = (λ e. absurd (true≢false (sym e)), λ e. absurd (cc))
  options_decides (Some x) None = (λ e. absurd (true≢false (sym e)), λ e. absurd (cc))

  pub lists_decides : (xs ys : List A) → Decides (pointwise test xs ys) (map view xs ≡ map view ys)
  lists_decides [] [] = (λ e. refl, λ e. refl)
  lists_decides (x ∷ xs) (y ∷ ys) =
      Decides-like (pointwise test (x ∷ xs) (y ∷ ys)) (λ e i. e.0 i ∷ e.1 i) (λ e. (cc, cc))
      (Decides-and (test x y) (pointwise test xs ys) (told x y) (lists_decides xs ys))
  lists_decides [] (y ∷ ys) = (λ e. absurd (true≢false (sym e)), λ e. absurd (cc))
  lists_decides (x ∷ xs) [] = (λ e. absurd (true≢false (sym e)), λ e. absurd (cc))

-- Byte strings that may be missing.
pub bstr_decides : EqDecides (option_map (λ (b : Vec ℕ Global). b.items)) (option_eq (λ x y. pointwise ◌==◌ x.items y.items))
bstr_decides = options_decides _ _ vec_decides

-- ---- values that are seen as their parts, from first to last

module _ {A B : Type 0} (of_parts : A → B) (parts : B → A) (back : (x : B) → of_parts (parts x) ≡ x) where
  pub parts_decide : {t : Bool} {x y : B} → Decides t (parts x ≡ parts y) → Decides t (x ≡ y)
  parts_decide {t} {x} {y} = Decides-like t (λ e. sym (back x) ∙ (ap of_parts e ∙ back y)) (ap parts)

pub part_decides : {A B : Type 0} {t u : Bool} {a c : A} {b d : B} → Decides t (a ≡ c) → Decides u (b ≡ d) → Decides (t && u) (◌≡◌ {A = A × B} (a, b) (c, d))
part_decides p q = Decides-like _ (λ e i. (e.0 i, e.1 i)) (λ e. (ap (λ x. x.0) e, ap (λ x. x.1) e)) (Decides-and _ _ p q)

pub last_decides : {A : Type 0} {t : Bool} {a b : A} → Decides t (a ≡ b) → Decides t (◌≡◌ {A = A × Unit {0}} (a, tt) (b, tt))
last_decides {t = t} = Decides-like t (λ e i. (e i, tt)) (ap (λ x. x.0))
