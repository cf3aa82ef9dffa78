-- The rest of a map, in memory and as contracts see it: whether its labels repeat, and what it is written as.
use Rattle.std.proofs.Common.{◌≡◌, ◌&&◌, List, [], ◌∷◌, map, Option, None, Bool, true, false, not, refl, sym, ◌∙◌, ap}
use Rattle.std.specs.Prelude.{Result, Ok, Err, IfOk}
use Rattle.std.specs.List.{list_all}
use Rattle.std.specs.Map.{keys_of}
use Rattle.coset_value.specs.Item.{Item}
use Rattle.coset_codec.specs.Maps.{MapLabels, are_distinct, entries_image, may_write}

-- If P implies Q, and P holds of the value in `Ok`, so does Q.
pub if_ok : {T E : Type 0} (r : Result T E) (P Q : T → Type 0) → ((x : T) → P x → Q x) → IfOk r P → IfOk r Q
if_ok (Ok x) P Q f h = f x h
if_ok (Err e) P Q f h = tt

-- A pair as contracts see it.
abbrev pub as_view : {K N V : Type 0} → (K → N) → (V → Item) → K × V → N × Item
as_view view value_item e = (view e.0, value_item e.1)

-- Two labels are equal in memory if and only if contracts see the same label.
module _ {K N V : Type 0} (view : K → N) (value_item : V → Item) (eq : K → K → Bool) (same : N → N → Bool) (agree : (a b : K) → eq a b ≡ same (view a)
    (view b)) where
  all-apart : (k : K) (es : List (K × V)) → list_all (λ m. not (eq k m)) (keys_of es)
      ≡ list_all (λ m. not (same (view k) m)) (keys_of (map (as_view view value_item) es))
  all-apart k [] = refl
  all-apart k (e ∷ es) = λ i. not (agree k e.0 i) && all-apart k es i

  are_distinct-view : (es : List (K × V)) → are_distinct eq (keys_of es) ≡ are_distinct same (keys_of (map (as_view view value_item) es))
  are_distinct-view [] = refl
  are_distinct-view (e ∷ es) = λ i. all-apart e.0 es i && are_distinct-view es i

  -- A test for repeated labels in memory gives the same result for the labels as contracts see them.
  pub repeats-view : (b : Bool) (es : List (K × V)) → b ≡ not (are_distinct eq (keys_of es))
      → b ≡ not (are_distinct same (keys_of (map (as_view view value_item) es)))
  repeats-view b es p = p ∙ ap not (are_distinct-view es)

  not-not : (b c : Bool) → b ≡ not c → c ≡ not b
  not-not b true p = ap not (sym p)
  not-not b false p = ap not (sym p)

  pub distinct-view : (b : Bool) (es : List (K × V)) → b ≡ not (are_distinct eq (keys_of es)) → b ≡ false
      → are_distinct same (keys_of (map (as_view view value_item) es)) ≡ true
  distinct-view b es p q = sym (are_distinct-view es) ∙ (not-not b (are_distinct eq (keys_of es)) p ∙ ap not q)

  pub repeated-view : (b : Bool) (es : List (K × V)) → b ≡ not (are_distinct eq (keys_of es)) → b ≡ true
      → are_distinct same (keys_of (map (as_view view value_item) es)) ≡ false
  repeated-view b es p q = sym (are_distinct-view es) ∙ (not-not b (are_distinct eq (keys_of es)) p ∙ ap not q)

-- No map is written if labels of the rest repeat and that is checked.
pub no-entries : {N : Type 0} (n : MapLabels N) (rest : List (N × Item)) (o : Option (List (N × Item))) → are_distinct n.same (keys_of rest) ≡ false
    → entries_image n (may_write n true rest) rest o ≡ None
no-entries n rest o e = ap (λ b. entries_image n b rest o) e
