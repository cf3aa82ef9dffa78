-- Lists and encodings that grow at their end.
use Rattle.std.proofs.Common.{◌≡◌, ℕ, suc, Box, ◌+◌, ◌<◌, Vec, Global, Result, rules, List, [], ◌∷◌, ◌++◌, map, take, length, get_or, refl, sym, ap, subst, ◌∙◌}
use Rattle.std.proofs.Common.{append_assoc}
use Rattle.std.proofs.lemmas.List.{append-nil, take_more, map_push}
use Rattle.std.proofs.lemmas.Result.{on_ok_weaker}
use Rattle.std.specs.Prelude.{OnOk}
use Rattle.coset_value.specs.Item.{Item, array, dict, items_count, pairs_count}
use Rattle.coset_value.specs.Range.{IsInRange, AreInRange, ArePairsInRange}
use Rattle.coset_value.specs.View.{items_of, pairs_of, value_item, value_pair, value_items, value_pairs}
use Rattle.coset_value.specs.declared.value.Value.{Value, Tag, Array, Map, the_lemmas}
use Rattle.coset_cbor.specs.Least.{least_head, least_encoding, least_encodings, least_pair_encodings}

pub least_encodings-push : (vs : List Item) (v : Item) → least_encodings (items_of (vs ++ v ∷ [])) ≡ least_encodings (items_of vs) ++ least_encoding v
least_encodings-push [] v = append-nil (least_encoding v)
least_encodings-push (w ∷ vs) v = ap (λ (x : List ℕ). least_encoding w ++ x) (least_encodings-push vs v)
    ∙ sym (append_assoc (least_encoding w) (least_encodings (items_of vs)) (least_encoding v))

pub least_pair_encodings-push : (ps : List (Item × Item)) (p : Item × Item)
    → least_pair_encodings (pairs_of (ps ++ p ∷ [])) ≡ least_pair_encodings (pairs_of ps) ++ (least_encoding p.0 ++ least_encoding p.1)
least_pair_encodings-push [] p = ap (λ (x : List ℕ). least_encoding p.0 ++ x) (append-nil (least_encoding p.1))
least_pair_encodings-push (q ∷ ps) p = ap (λ (x : List ℕ). least_encoding q.0 ++ (least_encoding q.1 ++ x)) (least_pair_encodings-push ps p) ∙ simp append_assoc

-- Moves the first element of the rest to the end of the elements before it.
pub moved : {A : Type 0} (ys : List A) (x : A) (old new all : List A) → ys ++ old ≡ all → old ≡ x ∷ new → (ys ++ x ∷ []) ++ new ≡ all
moved ys x old new all p q = append_assoc ys (x ∷ []) new ∙ (ap (λ zs. ys ++ zs) (sym q) ∙ p)

pub item_pushed : (xs : List Value) (x : Value) (old middle new : List ℕ)
    → middle ≡ old ++ least_encodings (value_items xs) → new ≡ middle ++ least_encoding (value_item x)
    → new ≡ old ++ least_encodings (value_items (xs ++ x ∷ []))
item_pushed xs x old middle new so_far put =
    let total : least_encodings (value_items (xs ++ x ∷ [])) ≡ least_encodings (value_items xs) ++ least_encoding (value_item x) =
    ap (λ (zs : List Item). least_encodings (items_of zs)) (map_push value_item xs x) ∙ least_encodings-push (map value_item xs) (value_item x) in
    put ∙ ap (λ (s : List ℕ). s ++ least_encoding (value_item x)) so_far ∙ append_assoc old (least_encodings (value_items xs)) (least_encoding (value_item x))
    ∙ ap (λ (s : List ℕ). old ++ s) (sym total)

pub pair_pushed : (xs : List (Value × Value)) (x : Value × Value) (old middle half new : List ℕ)
    → middle ≡ old ++ least_pair_encodings (value_pairs xs) → half ≡ middle ++ least_encoding (value_item x.0) → new ≡ half ++ least_encoding (value_item x.1)
    → new ≡ old ++ least_pair_encodings (value_pairs (xs ++ x ∷ []))
pair_pushed xs x old middle half new so_far key put =
    let both = least_encoding (value_item x.0) ++ least_encoding (value_item x.1) in
    let total : least_pair_encodings (value_pairs (xs ++ x ∷ [])) ≡ least_pair_encodings (value_pairs xs) ++ both =
    ap (λ (zs : List (Item × Item)). least_pair_encodings (pairs_of zs)) (map_push value_pair xs x)
    ∙ least_pair_encodings-push (map value_pair xs) (value_pair x) in
    let all : new ≡ middle ++ both = put ∙ ap (λ (s : List ℕ). s ++ least_encoding (value_item x.1)) key
    ∙ append_assoc middle (least_encoding (value_item x.0)) (least_encoding (value_item x.1)) in
    all ∙ ap (λ (s : List ℕ). s ++ both) so_far ∙ append_assoc old (least_pair_encodings (value_pairs xs)) both
    ∙ ap (λ (s : List ℕ). old ++ s) (sym total)

-- Takes one more element of a list.
one_more : {A : Type 0} (xs : List A) (i : ℕ) (x : A) → i < length xs → x ≡ get_or xs i x → take i xs ++ x ∷ [] ≡ take (i + 1) xs
one_more xs i x lt is = sym (take_more xs i x lt ∙ ap (λ y. take i xs ++ y ∷ []) (sym is))

pub item_put : (xs : List Value) (i : ℕ) (x : Value) (old middle new : List ℕ) → i < length xs → x ≡ get_or xs i x
    → middle ≡ old ++ least_encodings (value_items (take i xs)) → new ≡ middle ++ least_encoding (value_item x)
    → new ≡ old ++ least_encodings (value_items (take (i + 1) xs))
item_put xs i x old middle new lt is so_far put = subst (λ ys. new ≡ old ++ least_encodings (value_items ys)) (one_more xs i x lt is)
    (item_pushed (take i xs) x old middle new so_far put)

pub pair_put : (xs : List (Value × Value)) (i : ℕ) (x : Value × Value) (old middle half new : List ℕ) → i < length xs → x ≡ get_or xs i x
    → middle ≡ old ++ least_pair_encodings (value_pairs (take i xs)) → half ≡ middle ++ least_encoding (value_item x.0) → new ≡ half ++ least_encoding
    (value_item x.1)
    → new ≡ old ++ least_pair_encodings (value_pairs (take (i + 1) xs))
pair_put xs i x old middle half new lt is so_far key put = subst (λ ys. new ≡ old ++ least_pair_encodings (value_pairs ys)) (one_more xs i x lt is)
    (pair_pushed (take i xs) x old middle half new so_far key put)

in_range-push : (vs : List Item) (v : Item) → AreInRange (items_of vs) → IsInRange v → AreInRange (items_of (vs ++ v ∷ []))
in_range-push [] v h k = (k, tt)
in_range-push (w ∷ vs) v h k = (h.0, in_range-push vs v h.1 k)

pairs_in_range-push : (ps : List (Item × Item)) (p : Item × Item) → ArePairsInRange (pairs_of ps) → IsInRange p.0 → IsInRange p.1
    → ArePairsInRange (pairs_of (ps ++ p ∷ []))
pairs_in_range-push [] p h k l = (k, l, tt)
pairs_in_range-push (q ∷ ps) p h k l = (h.0, h.1, pairs_in_range-push ps p h.2 k l)

pub items_in_range : (xs : List Value) (x : Value) → AreInRange (value_items xs) → IsInRange (value_item x) → AreInRange (value_items (xs ++ x ∷ []))
items_in_range xs x so_far here = subst (λ zs. AreInRange (items_of zs)) (sym (map_push value_item xs x)) (in_range-push (map value_item xs)
    (value_item x) so_far here)

pub pairs_in_range : (xs : List (Value × Value)) (x : Value × Value) → ArePairsInRange (value_pairs xs) → IsInRange (value_item x.0) → IsInRange
    (value_item x.1)
    → ArePairsInRange (value_pairs (xs ++ x ∷ []))
pairs_in_range xs x so_far key value = subst (λ zs. ArePairsInRange (pairs_of zs)) (sym (map_push value_pair xs x))
    (pairs_in_range-push (map value_pair xs) (value_pair x) so_far key value)

pub item_in_range : (xs : List Value) (i : ℕ) (x : Value) → i < length xs → x ≡ get_or xs i x → AreInRange (value_items (take i xs)) → IsInRange (value_item x)
    → AreInRange (value_items (take (i + 1) xs))
item_in_range xs i x lt is so_far here = subst (λ ys. AreInRange (value_items ys)) (one_more xs i x lt is) (items_in_range (take i xs) x so_far here)

pub pair_in_range : (xs : List (Value × Value)) (i : ℕ) (x : Value × Value) → i < length xs → x ≡ get_or xs i x → ArePairsInRange (value_pairs (take i xs))
    → IsInRange (value_item x.0) → IsInRange (value_item x.1)
    → ArePairsInRange (value_pairs (take (i + 1) xs))
pair_in_range xs i x lt is so_far key value = subst (λ ys. ArePairsInRange (value_pairs ys)) (one_more xs i x lt is)
    (pairs_in_range (take i xs) x so_far key value)

pub headed_put : {A B : Type 0} (r : Result A B) (m n k : ℕ) (body old middle new whole : List ℕ) → whole ≡ least_head m k ++ body → n ≡ k
    → middle ≡ old ++ least_head m n → OnOk r (new ≡ middle ++ body) → OnOk r (new ≡ old ++ whole)
headed_put r m n k body old middle new whole is same head put =
    on_ok_weaker r (λ e. e ∙ ap (λ (s : List ℕ). s ++ body) (head ∙ ap (λ (j : ℕ). old ++ least_head m j) same) ∙ append_assoc old (least_head m k) body
    ∙ ap (λ (s : List ℕ). old ++ s) (sym is)) put

pub items_count-value_items : (vs : List Value) → items_count (value_items vs) ≡ length vs
items_count-value_items [] = refl
items_count-value_items (v ∷ vs) = ap suc (items_count-value_items vs)

pub pairs_count-value_pairs : (vs : List (Value × Value)) → pairs_count (value_pairs vs) ≡ length vs
pairs_count-value_pairs [] = refl
pairs_count-value_pairs (v ∷ vs) = ap suc (pairs_count-value_pairs vs)

pub value_item-Array : (v : Vec Value Global) → value_item (Array v) ≡ array (value_items v.items)
value_item-Array v = search (rules, the_lemmas)

pub value_item-Map : (v : Vec (Value × Value) Global) → value_item (Map v) ≡ dict (value_pairs v.items)
value_item-Map v = search (rules, the_lemmas)

pub value_item-Tag : (n : ℕ) (b : Box Value Global) → value_item (Tag n b) ≡ Item.tag n (value_item b.value)
value_item-Tag n b = search (rules, the_lemmas)

pub in_range_of : {A B P : Type 0} (r : Result A B) (v w : Item) → v ≡ w → (P → IsInRange w) → OnOk r P → OnOk r (IsInRange v)
in_range_of r v w is step h = on_ok_weaker r (λ p. subst IsInRange (sym is) (step p)) h
