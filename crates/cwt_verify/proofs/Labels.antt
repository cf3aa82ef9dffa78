-- Labels of two lists of pairs, one after the other.
use Rattle.std.specs.Prelude.{IfOk}
use Rattle.std.specs.Borrow.{Bor}
use Rattle.std.specs.Map.{keys_of}
use Rattle.std.proofs.Common.{◌≡◌, ◌∙◌, ◌&&◌, Bool, List, [], ◌∷◌, Result, Ok, Err, ap, map, not, refl, sym}
use Rattle.coset_value.specs.declared.value.Value.{Value}
use Rattle.coset.specs.CoseError.{CoseError}
use Rattle.coset.specs.Label.{Label}
use Rattle.coset.specs.LabelViews.{entry_view, label_view}
use Rattle.coset.specs.Maps.{are_distinct}
use Rattle.cwt_verify.proofs.Opened.{all-map}

-- Values are distinct exactly if their images are.
pub distinct-map : {A B : Type 0} (same : B → B → Bool) (f : A → B) (xs : List A) → are_distinct (λ a b. same (f a) (f b)) xs ≡ are_distinct same (map f xs)
distinct-map same f [] = refl
distinct-map same f (x ∷ xs) = λ i. sym (all-map (λ m. not (same (f x) m)) f xs) i && distinct-map same f xs i

pub keys-view : (es : List (Label × Value)) → keys_of (map entry_view es) ≡ map label_view (keys_of es)
keys-view [] = refl
keys-view (e ∷ es) = ap (λ ls. label_view e.0 ∷ ls) (keys-view es)

pub borrowed-view : (ps : List (Bor Label × Unit {0})) → map (λ (r : Bor Label). label_view r.now) (keys_of ps) ≡ map label_view (map (λ p. p.0.now) ps)
borrowed-view [] = refl
borrowed-view (p ∷ ps) = ap (λ ls. label_view p.0.now ∷ ls) (borrowed-view ps)

pub answered : (r : Result Bool CoseError) (x y : Bool) → x ≡ y → IfOk r (λ b. b ≡ not x) → IfOk r (λ b. b ≡ not y)
answered (Ok b) x y e h = h ∙ ap not e
answered (Err f) x y e h = tt

-- What holds of a result, if it follows from what is known of it.
pub if-ok : {A : Type 0} (P Q : A → Type 0) (r : Result A CoseError) → ((x : A) → P x → Q x) → IfOk r P → IfOk r Q
if-ok P Q (Ok x) f h = f x h
if-ok P Q (Err e) f h = tt
