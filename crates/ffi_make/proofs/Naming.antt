-- The labels among the keys of a map.
use Rattle.std.proofs.Common.{◌≡◌, ◌∙◌, ◌++◌, ◌+◌, ◌<◌, ◌&&◌, ℕ, List, [], ◌∷◌, length, Bool, get_or, take, map, not}
use Rattle.std.proofs.Common.{Option, Some, None, Result, Ok, Err, option_map, ap, sym, refl}
use Rattle.std.proofs.lemmas.List.{append-nil, map-append, take_more}
use Rattle.std.specs.List.{list_all}
use Rattle.std.specs.Map.{keys_of}
use Rattle.std.specs.Prelude.{IfOk}
use Rattle.coset.specs.CoseError.{CoseError}
use Rattle.coset.specs.Item.{Item, Pairs, no_pairs, pair}
use Rattle.coset.specs.LabelData.{LabelView}
use Rattle.coset.specs.Maps.{are_distinct}
use Rattle.coset.specs.View.{value_item, value_pairs}
use Rattle.coset_value.specs.declared.value.Value.{Value}
use Rattle.ffi_make.specs.declared.labels.Name as names
use Rattle.ffi_make.specs.LabelsMade.{and_label, label_in, labels_in, name_view, named_view}
use Rattle.ffi_make.specs.PairsMade.{pairs_and}
use Rattle.ffi_make.proofs.Lists.{pairs_view_push}

and_more : (o : Option LabelView) (xs ys : List LabelView) → and_label o (xs ++ ys) ≡ and_label o xs ++ ys
and_more None xs ys = refl
and_more (Some l) xs ys = refl

labels_more : (qs : Pairs) (k v : Item) → labels_in (pairs_and qs (pair k v no_pairs)) ≡ labels_in qs ++ and_label (label_in k) []
labels_more no_pairs k v = refl
labels_more (pair a b qs) k v = ap (and_label (label_in a)) (labels_more qs k v) ∙ and_more (label_in a) (labels_in qs) (and_label (label_in k) [])

-- The labels of one more pair.
pub one_more :
    (ps : List (Value × Value)) (i : ℕ) (d : Value × Value) → i < length ps
    → labels_in (value_pairs (take (i + 1) ps)) ≡ labels_in (value_pairs (take i ps)) ++ and_label (label_in (value_item (get_or ps i d).0)) []
one_more ps i d lt =
    let p = get_or ps i d in
    ap (λ qs. labels_in (value_pairs qs)) (take_more ps i d lt)
    ∙ (ap labels_in (pairs_view_push (take i ps) p.0 p.1) ∙ labels_more (value_pairs (take i ps)) (value_item p.0) (value_item p.1))

all_seen :
    {A B : Type 0} (f : A → B) (test : A → Bool) (seen : B → Bool) → ((x : A) → test x ≡ seen (f x)) → (xs : List A)
    → list_all test xs ≡ list_all seen (map f xs)
all_seen f test seen e [] = refl
all_seen f test seen e (x ∷ xs) = λ i. e x i && all_seen f test seen e xs i

-- Values are distinct exactly if their views are.
pub distinct_seen :
    {A B : Type 0} (f : A → B) (eq : A → A → Bool) (same : B → B → Bool) → ((x y : A) → eq x y ≡ same (f x) (f y)) → (xs : List A)
    → are_distinct eq xs ≡ are_distinct same (map f xs)
distinct_seen f eq same e [] = refl
distinct_seen f eq same e (x ∷ xs) =
    λ i. all_seen f (λ y. not (eq x y)) (λ b. not (same (f x) b)) (λ y. ap not (e x y)) xs i && distinct_seen f eq same e xs i

-- The labels so far, and that of the next pair.
pub next_labels :
    (ps : List (Value × Value)) (i : ℕ) (p : Value × Value) (old new : List (names.Name × Unit {0})) (o : Option names.Name) → i < length ps
    → p ≡ get_or ps i p → map named_view old ≡ labels_in (value_pairs (take i ps)) → option_map name_view o ≡ label_in (value_item p.0)
    → map named_view new ≡ map named_view old ++ and_label (option_map name_view o) []
    → map named_view new ≡ labels_in (value_pairs (take (i + 1) ps))
next_labels ps i p old new o lt at so_far is pushed =
    let before = labels_in (value_pairs (take i ps)) in
    pushed
    ∙ (ap (λ ls. ls ++ and_label (option_map name_view o) []) so_far
    ∙ (ap (λ l. before ++ and_label l []) is
    ∙ (ap (λ q. before ++ and_label (label_in (value_item q.0)) []) at ∙ sym (one_more ps i p lt))))

-- The next label is pushed.
pub one_pushed :
    (old new : List (names.Name × Unit {0})) (o : Option names.Name) (l : names.Name) → new ≡ old ++ (l, tt) ∷ [] → o ≡ Some l
    → map named_view new ≡ map named_view old ++ and_label (option_map name_view o) []
one_pushed old new o l is some =
    ap (map named_view) is
    ∙ (map-append named_view old ((l, tt) ∷ []) ∙ ap (λ x. map named_view old ++ and_label (option_map name_view x) []) (sym some))

-- The next key is no label.
pub none_pushed :
    (old new : List (names.Name × Unit {0})) (o : Option names.Name) → new ≡ old → o ≡ None
    → map named_view new ≡ map named_view old ++ and_label (option_map name_view o) []
none_pushed old new o is none =
    ap (map named_view) is
    ∙ (sym (append-nil (map named_view old)) ∙ ap (λ x. map named_view old ++ and_label (option_map name_view x) []) (sym none))

pub keys_named : (es : List (names.Name × Unit {0})) → map name_view (keys_of es) ≡ map named_view es
keys_named [] = refl
keys_named (e ∷ es) = ap (λ ls. name_view e.0 ∷ ls) (keys_named es)

-- The answer about the keys of a list is that about their views.
pub views_answered :
    {A B : Type 0} (f : A → B) (eq : A → A → Bool) (same : B → B → Bool) (r : Result Bool CoseError) (es : List (A × Unit {0})) (ls : List B)
    → IfOk r (λ b. b ≡ not (are_distinct eq (keys_of es))) → ((x y : A) → eq x y ≡ same (f x) (f y)) → map f (keys_of es) ≡ ls
    → IfOk r (λ b. b ≡ not (are_distinct same ls))
views_answered f eq same (Ok b) es ls answer e seen = answer ∙ ap not (distinct_seen f eq same e (keys_of es) ∙ ap (are_distinct same) seen)
views_answered f eq same (Err x) es ls answer e seen = tt
