-- The bytes after the head of an array or a map are its elements, and the first element is at their start.
use Rattle.std.proofs.Common.{◌≡◌, ℕ, zero, suc, ◌<◌, true, false, eqb, ltb, List, [], ◌∷◌, ◌++◌, length, Some, None, Ok, refl, sym, ap, subst, ◌∙◌, arith, inl}
use Rattle.std.proofs.Common.{inr, ◌⊎◌}
use Rattle.std.specs.Prelude.{◌≢◌, pos, negsuc, unwrap_or}
use Rattle.std.proofs.lemmas.List.{append-nil, take_at, drop_at, append_cancel_left, append_cancel_right}
use Rattle.coset_cbor.specs.declared.fault.Fault.TheVariants.{Simple}
use Rattle.coset_cbor.specs.declared.head.MajorType.{MajorType}
use Rattle.coset_cbor.specs.declared.head.MajorType.TheVariants as major_types
use Rattle.coset_cbor.specs.Heads.{Argument, HeadView}
use Rattle.coset_cbor.specs.Heads as places
use Rattle.coset_value.specs.Item.{half, single, double, Item, integer, bytes, float, text, boolean, null, tag, array, dict, Items, no_items, item, Pairs}
use Rattle.coset_value.specs.Item.{no_pairs, pair, items_count, pairs_count, items_depth, pairs_depth}
use Rattle.coset_value.specs.View.{items_of, pairs_of}
use Rattle.coset_value.specs.Parts.{as_array, as_map}
use Rattle.coset_cbor.specs.Grammar.{EnclosesContent, IsEncoding, AreEncodings, ArePairEncodings, IsItem}
use Rattle.coset_cbor.specs.Reading.{◌>>=◌, number_of, head_at, any_string_by, simple_at, Inside, nothing, things, item_by, item_from, item_at}
use Rattle.coset_cbor.specs.Whole.{is_one_item, item_of}
use Rattle.coset_cbor.specs.Between.{IsContent, array_around, map_around, items_in, pairs_in}
use Rattle.coset_cbor.specs.Skips.{BeginsItem, item_major_type}
use Rattle.coset_cbor.proofs.Again.{head_of, IsHeaded-again, opening_again, IsEncoding-begins, encodings_differ}
use Rattle.coset_cbor.proofs.Takes.{IsBytes, IsBytes-take, IsBytes-drop, IsBytes-rest, done, ok_is, bind_ok, some_ok, chosen, guard_else, head_takes}
use Rattle.coset_cbor.proofs.Whole.{one_item_bytes, one_item_read, one_item_is, one_item_from, item_of_one}

-- ---- the major type of the head that an item begins with

major_type_made : (y x : Item × List ℕ) → done y ≡ done x → item_major_type x.0 ≡ item_major_type y.0
major_type_made y x e = ap (λ (p : Item × List ℕ). item_major_type p.0) (sym (ok_is y x e))

pub simple_major_type : (left : ℕ) (a : Argument) (s : List ℕ) (x : Item × List ℕ) → simple_at left a s ≡ Ok x → item_major_type x.0 ≡ major_types.Simple
simple_major_type left (places.Within n) s x e =
    elim (chosen (eqb n 20) _ _ _ e) [
      | inl a ↦ major_type_made (boolean false, s) x a.1
      | inr a ↦ elim (chosen (eqb n 21) _ _ _ a.1) [
        | inl b ↦ major_type_made (boolean true, s) x b.1
        | inr b ↦ let g = guard_else (eqb n 22) (Simple left) (Ok (null, s)) x b.1 in major_type_made (null, s) x g.1
      ]
    ]
simple_major_type left (places.One n) s x e = elim (chosen (ltb n 32) _ _ _ e) [ inl a ↦ absurd (cc (a.1)) | inr a ↦ absurd (cc (a.1)) ]
simple_major_type left (places.Two n) s x e = major_type_made (float (half n), s) x e
simple_major_type left (places.Four n) s x e = major_type_made (float (single n), s) x e
simple_major_type left (places.Eight n) s x e = major_type_made (float (double n), s) x e
simple_major_type left places.Indefinite s x e = absurd cc

pub major_type_by : (inside : Inside) (left : ℕ) (a : Argument) (k : MajorType) (s : List ℕ) (x : Item × List ℕ) → item_by inside left a k s ≡ Ok x
    → item_major_type x.0 ≡ k
major_type_by inside left a major_types.Unsigned s x e =
    let n = some_ok left (number_of a) (λ n. Ok (integer (pos n), s)) x e in
    major_type_made (integer (pos n.0), s) x n.2
major_type_by inside left a major_types.Negative s x e =
    let n = some_ok left (number_of a) (λ n. Ok (integer (negsuc n), s)) x e in
    major_type_made (integer (negsuc n.0), s) x n.2
major_type_by inside left a major_types.Bytes s x e =
    let r = bind_ok (any_string_by false left (number_of a) s) (λ y. Ok (bytes y.0, y.1)) x e in
    major_type_made (bytes r.0.0, r.0.1) x r.2
major_type_by inside left a major_types.Text s x e =
    let r = bind_ok (any_string_by true left (number_of a) s) (λ y. Ok (Item.text y.0, y.1)) x e in
    major_type_made (Item.text r.0.0, r.0.1) x r.2
major_type_by inside left a major_types.Array s x e =
    let r = bind_ok (inside.items (number_of a) s) (λ y. Ok (array (items_of y.0), y.1)) x e in
    major_type_made (array (items_of r.0.0), r.0.1) x r.2
major_type_by inside left a major_types.Map s x e =
    let r = bind_ok (inside.pairs (number_of a) s) (λ y. Ok (dict (pairs_of y.0), y.1)) x e in
    major_type_made (dict (pairs_of r.0.0), r.0.1) x r.2
major_type_by inside left a major_types.Tag s x e =
    let n = some_ok left (number_of a) (λ n. inside.one s >>= λ y. Ok (tag n y.0, y.1)) x e in
    let r = bind_ok (inside.one s) (λ y. Ok (tag n.0 y.0, y.1)) x n.2 in
    major_type_made (tag n.0 r.0.0, r.0.1) x r.2
major_type_by inside left a major_types.Simple s x e = simple_major_type left a s x e

-- b begins with a head of v's major type.
record HasHead (b : List ℕ) (v : Item) : Type 0 where
  head : HeadView × List ℕ
  reads : head_at b ≡ Ok head
  major_type : item_major_type v ≡ head.0.major_type

head_from : (inside : Inside) (b : List ℕ) (x : Item × List ℕ) → item_from inside b ≡ Ok x → HasHead b x.0
head_from inside b x e =
    let r = bind_ok (head_at b) (λ h. item_by inside (length b) h.0.argument h.0.major_type h.1) x e in
    record { head = r.0; reads = r.1; major_type = major_type_by inside (length b) r.0.0.argument r.0.0.major_type r.0.1 x r.2 }

has_head : (d : ℕ) (b : List ℕ) (x : Item × List ℕ) → item_at d b ≡ Ok x → HasHead b x.0
unfolding item_at
has_head zero b x e = head_from nothing b x e
has_head (suc d) b x e = head_from (things (item_at d)) b x e

one_item_head : (b : List ℕ) → is_one_item b ≡ true → HasHead b (item_of b)
one_item_head b one = has_head 256 b (item_of b, []) (one_item_read b one)

pub one_item_major_type : (b : List ℕ) (h : HeadView × List ℕ) → is_one_item b ≡ true → head_at b ≡ Ok h → item_major_type (item_of b) ≡ h.0.major_type
one_item_major_type b h one e =
    let g = one_item_head b one in
    g.major_type ∙ ap (λ (x : HeadView × List ℕ). x.0.major_type) (ok_is g.head h (sym g.reads ∙ e))

pub is_array : (v : Item) → ((vs : Items) × (v ≡ array vs)) ⊎ ((as_array v ≡ None) × (item_major_type v ≢ major_types.Array))
is_array (integer (pos n)) = inr (refl, λ e. cc)
is_array (integer (negsuc n)) = inr (refl, λ e. cc)
is_array (bytes s) = inr (refl, λ e. cc)
is_array (float x) = inr (refl, λ e. cc)
is_array (text s) = inr (refl, λ e. cc)
is_array (boolean b) = inr (refl, λ e. cc)
is_array null = inr (refl, λ e. cc)
is_array (tag t v) = inr (refl, λ e. cc)
is_array (array vs) = inl (vs, refl)
is_array (dict ps) = inr (refl, λ e. cc)

pub is_map : (v : Item) → ((ps : Pairs) × (v ≡ dict ps)) ⊎ ((as_map v ≡ None) × (item_major_type v ≢ major_types.Map))
is_map (integer (pos n)) = inr (refl, λ e. cc)
is_map (integer (negsuc n)) = inr (refl, λ e. cc)
is_map (bytes s) = inr (refl, λ e. cc)
is_map (float x) = inr (refl, λ e. cc)
is_map (text s) = inr (refl, λ e. cc)
is_map (boolean b) = inr (refl, λ e. cc)
is_map null = inr (refl, λ e. cc)
is_map (tag t v) = inr (refl, λ e. cc)
is_map (array vs) = inr (refl, λ e. cc)
is_map (dict ps) = inl (ps, refl)

-- ---- bytes after a head

-- The bytes after a head are all the elements, or the elements and the break.
held_parts : (m n : ℕ) (c b : List ℕ) (h : HeadView × List ℕ) → EnclosesContent m n c b → head_at b ≡ Ok h → ((number_of h.0.argument ≡ Some n) × (h.1 ≡ c))
    ⊎ ((number_of h.0.argument ≡ None) × (h.1 ≡ c ++ 255 ∷ []))
held_parts m n c b h (inl is) e =
    let r = IsHeaded-again m n c b [] is in
    let same = ok_is (head_of m r.argument, c ++ []) h (sym r.reads ∙ ap head_at (append-nil b) ∙ e) in
    inl (ap (λ (x : HeadView × List ℕ). number_of x.0.argument) (sym same) ∙ r.number, ap (λ (x : HeadView × List ℕ). x.1) (sym same) ∙ append-nil c)
held_parts m n c b h (inr is) e =
    let same = ok_is (head_of m places.Indefinite, c ++ 255 ∷ []) h (sym (opening_again m (c ++ 255 ∷ [])) ∙ ap head_at (sym is) ∙ e) in
    inr (ap (λ (x : HeadView × List ℕ). number_of x.0.argument) (sym same), ap (λ (x : HeadView × List ℕ). x.1) (sym same))

fits_append : (b c : List ℕ) → IsBytes b → IsBytes c → IsBytes (b ++ c)
fits_append [] c fits more i = more i
fits_append (x ∷ b) c fits more zero = fits 0
fits_append (x ∷ b) c fits more (suc i) = fits_append b c (IsBytes-rest x b fits) more i

fits_front : (b c : List ℕ) → IsBytes (b ++ c) → IsBytes b
fits_front b c fits = subst (λ (s : List ℕ). IsBytes s) (take_at b c (length b) refl) (IsBytes-take (length b) (b ++ c) fits)

fits_back : (b c : List ℕ) → IsBytes (b ++ c) → IsBytes c
fits_back b c fits = subst (λ (s : List ℕ). IsBytes s) (drop_at b c (length b) refl) (IsBytes-drop (length b) (b ++ c) fits)

fits_one : (x : ℕ) → x < 256 → IsBytes (x ∷ [])
fits_one x lt zero = lt
fits_one x lt (suc i) = omega arith

fits_around : (x : ℕ) (s : List ℕ) → x < 256 → IsBytes s → IsBytes (x ∷ (s ++ 255 ∷ []))
fits_around x s lt fits = fits_append (x ∷ []) (s ++ 255 ∷ []) (fits_one x lt) (fits_append s (255 ∷ []) fits (fits_one 255 (omega arith)))

fits_inside : (x : ℕ) (s : List ℕ) → IsBytes (x ∷ (s ++ 255 ∷ [])) → IsBytes s
fits_inside x s fits = fits_front s (255 ∷ []) (IsBytes-rest x (s ++ 255 ∷ []) fits)

-- The content s after the head is the enclosed content c.
content_held : (m n : ℕ) (k : MajorType) (c b s : List ℕ) → IsBytes b → EnclosesContent m n c b → IsContent k b s → (s ≡ c) × IsBytes c
content_held m n k c b s fits is content =
    let h = content.head in
    let rest = (head_takes b h fits content.reads).rest_fits in
    elim (held_parts m n c b h is content.reads) [
      | inl p ↦ (content.definite n p.0 ∙ p.1, subst (λ (x : List ℕ). IsBytes x) p.1 rest)
      | inr p ↦ (content.indefinite p.0 c p.1, fits_front c (255 ∷ []) (subst (λ (x : List ℕ). IsBytes x) p.1 rest))
    ]

-- ---- arrays

-- b encodes items, one after the other.
record AreItems (b : List ℕ) : Type 0 where
  items : Items
  encodings : AreEncodings items b
  low : items_depth items < 256
  fits : IsBytes b
  view : items_in b ≡ items

items_view : (b : List ℕ) (vs : Items) → item_of (array_around b) ≡ array vs → items_in b ≡ vs
unfolding items_in
items_view b vs e = ap (λ (v : Item). unwrap_or (as_array v) no_items) e

pub array_made : (b : List ℕ) (vs : Items) → AreEncodings vs b → items_depth vs < 256 → IsBytes b → (is_one_item (array_around b) ≡ true) × (items_in b ≡ vs)
array_made b vs encodings low fits =
    let is : IsItem (array_around b) (array vs) = ((b, encodings, inr refl), omega arith) in
    (one_item_from (array_around b) (array vs) (fits_around 0x9F b (omega arith) fits) is, items_view b vs (item_of_one (array_around b) (array vs) is))

array_inside : (b : List ℕ) (vs : Items) → item_of (array_around b) ≡ array vs → is_one_item (array_around b) ≡ true → AreItems b
array_inside b vs e one =
    let is : IsItem (array_around b) (array vs) = subst (λ (v : Item). IsItem (array_around b) v) e (one_item_is (array_around b) one) in
    let low = is.1 in
    let same : b ≡ is.0.0 = elim (held_parts 4 (items_count vs) is.0.0 (array_around b) (head_of 4 places.Indefinite, b ++ 255 ∷ []) is.0.2
    (opening_again 4 (b ++ 255 ∷ []))) [
      | inl p ↦ absurd (cc (p.0))
      | inr p ↦ append_cancel_right b is.0.0 (255 ∷ []) p.1
    ] in
    record {
      items = vs;
      encodings = subst (λ (s : List ℕ). AreEncodings vs s) (sym same) is.0.1;
      low = omega arith;
      fits = fits_inside 0x9F b (one_item_bytes (array_around b) one);
      view = items_view b vs e;
    }

are_items : (b : List ℕ) → is_one_item (array_around b) ≡ true → AreItems b
are_items b one = elim (is_array (item_of (array_around b))) [
  | inl a ↦ array_inside b a.0 a.1 one
  | inr a ↦ absurd (a.1 (one_item_major_type (array_around b) (head_of 4 places.Indefinite, b ++ 255 ∷ []) one (opening_again 4 (b ++ 255 ∷ []))))
]

-- b is an array that is one item, and s is the bytes of its elements.
pub record HoldsItems (b s : List ℕ) : Type 0 where
  pub one : is_one_item (array_around s) ≡ true
  pub view : Some (items_in s) ≡ as_array (item_of b)
  pub held : EnclosesContent 4 (items_count (items_in s)) s b

pub array_content : (b s : List ℕ) → is_one_item b ≡ true → IsContent major_types.Array b s → HoldsItems b s
array_content b s one content = elim (is_array (item_of b)) [
  | inl a ↦
      let is : IsItem b (array a.0) = subst (λ (v : Item). IsItem b v) a.1 (one_item_is b one) in
      let low = is.1 in
      let held = content_held 4 (items_count a.0) major_types.Array is.0.0 b s (one_item_bytes b one) is.0.2 content in
      let made = array_made s a.0 (subst (λ (x : List ℕ). AreEncodings a.0 x) (sym held.0) is.0.1) (omega arith)
      (subst (λ (x : List ℕ). IsBytes x) (sym held.0) held.1) in
      record {
        one = made.0;
        view = ap (λ (vs : Items). Some vs) made.1 ∙ ap as_array (sym a.1);
        held = subst (λ (vs : Items). EnclosesContent 4 (items_count vs) s b) (sym made.1)
            (subst (λ (x : List ℕ). EnclosesContent 4 (items_count a.0) x b) (sym held.0) is.0.2);
      }
  | inr a ↦ absurd (a.1 (one_item_major_type b content.head one content.reads ∙ content.major_type))
]

pub no_array : (b : List ℕ) → is_one_item b ≡ true → ((h : HeadView × List ℕ) → head_at b ≡ Ok h → h.0.major_type ≢ major_types.Array)
    → None ≡ as_array (item_of b)
no_array b one other = elim (is_array (item_of b)) [
  | inl a ↦ let h = one_item_head b one in absurd (other h.head h.reads (sym h.major_type ∙ ap item_major_type a.1))
  | inr a ↦ sym a.0
]

-- An encoding is not empty.
no_empty : (v : Item) (f rest : List ℕ) → [] ≡ f ++ rest → IsEncoding v f → ⊥
no_empty v f rest e is =
    let g = IsEncoding-begins v f is in
    let parts : [] ≡ g.first ∷ (g.more ++ rest) = e ∙ ap (λ (s : List ℕ). s ++ rest) g.parts in
    absurd cc

pub no_item_in_none : (s : List ℕ) → length s ≡ 0 → (v : Item) (f rest : List ℕ) → s ≡ f ++ rest → IsItem f v → ⊥
no_item_in_none [] none v f rest e is = no_empty v f rest e is.0
no_item_in_none (x ∷ s) none v f rest e is = omega arith

-- The first item left, and the other items.
pub record FirstItem (b rest : List ℕ) (v : Item) : Type 0 where
  pub others : is_one_item (array_around rest) ≡ true
  pub view : items_in b ≡ item v (items_in rest)

first_of : (b f rest : List ℕ) (v : Item) (vs : Items) → AreEncodings vs b → items_depth vs < 256 → IsBytes b → items_in b ≡ vs → b ≡ f ++ rest → IsItem f v
    → FirstItem b rest v
first_of b f rest v no_items encodings low fits view e is = absurd (no_empty v f rest (sym encodings ∙ e) is.0)
first_of b f rest v (item w ws) encodings low fits view e is =
    let same = encodings_differ v w f encodings.0 rest encodings.1 is.0 encodings.2 (sym e ∙ encodings.4) in
    let after : encodings.1 ≡ rest = append_cancel_left f encodings.1 rest (ap (λ (s : List ℕ). s ++ encodings.1) same.1 ∙ sym encodings.4 ∙ e) in
    let made = array_made rest ws (subst (λ (s : List ℕ). AreEncodings ws s) after encodings.3) (omega arith)
    (fits_back f rest (subst (λ (s : List ℕ). IsBytes s) e fits)) in
    record { others = made.0; view = view ∙ ap (λ (x : Item). item x ws) (sym same.0) ∙ ap (item v) (sym made.1) }

pub first_item : (b f rest : List ℕ) (v : Item) → is_one_item (array_around b) ≡ true → b ≡ f ++ rest → IsItem f v → FirstItem b rest v
first_item b f rest v one e is = let a = are_items b one in first_of b f rest v a.items a.encodings a.low a.fits a.view e is

none_of : (b : List ℕ) (vs : Items) → AreEncodings vs b → items_depth vs < 256 → ((v : Item) (f rest : List ℕ) → b ≡ f ++ rest → IsItem f v → ⊥) → vs ≡ no_items
none_of b no_items encodings low none = refl
none_of b (item w ws) encodings low none = absurd (none w encodings.0 encodings.1 encodings.4 (encodings.2, omega arith))

-- If no item is at the start, no item is left.
pub no_first_item : (b : List ℕ) → is_one_item (array_around b) ≡ true → ((v : Item) (f rest : List ℕ) → b ≡ f ++ rest → IsItem f v → ⊥) → items_in b ≡ no_items
no_first_item b one none = let a = are_items b one in a.view ∙ none_of b a.items a.encodings a.low none

-- ---- maps

-- b encodes pairs, one after the other.
record ArePairs (b : List ℕ) : Type 0 where
  pairs : Pairs
  encodings : ArePairEncodings pairs b
  low : pairs_depth pairs < 256
  fits : IsBytes b
  view : pairs_in b ≡ pairs

pairs_view : (b : List ℕ) (ps : Pairs) → item_of (map_around b) ≡ dict ps → pairs_in b ≡ ps
unfolding pairs_in
pairs_view b ps e = ap (λ (v : Item). unwrap_or (as_map v) no_pairs) e

pub map_made : (b : List ℕ) (ps : Pairs) → ArePairEncodings ps b → pairs_depth ps < 256 → IsBytes b → (is_one_item (map_around b) ≡ true) × (pairs_in b ≡ ps)
map_made b ps encodings low fits =
    let is : IsItem (map_around b) (dict ps) = ((b, encodings, inr refl), omega arith) in
    (one_item_from (map_around b) (dict ps) (fits_around 0xBF b (omega arith) fits) is, pairs_view b ps (item_of_one (map_around b) (dict ps) is))

map_inside : (b : List ℕ) (ps : Pairs) → item_of (map_around b) ≡ dict ps → is_one_item (map_around b) ≡ true → ArePairs b
map_inside b ps e one =
    let is : IsItem (map_around b) (dict ps) = subst (λ (v : Item). IsItem (map_around b) v) e (one_item_is (map_around b) one) in
    let low = is.1 in
    let same : b ≡ is.0.0 = elim (held_parts 5 (pairs_count ps) is.0.0 (map_around b) (head_of 5 places.Indefinite, b ++ 255 ∷ []) is.0.2
    (opening_again 5 (b ++ 255 ∷ []))) [
      | inl p ↦ absurd (cc (p.0))
      | inr p ↦ append_cancel_right b is.0.0 (255 ∷ []) p.1
    ] in
    record {
      pairs = ps;
      encodings = subst (λ (s : List ℕ). ArePairEncodings ps s) (sym same) is.0.1;
      low = omega arith;
      fits = fits_inside 0xBF b (one_item_bytes (map_around b) one);
      view = pairs_view b ps e;
    }

are_pairs : (b : List ℕ) → is_one_item (map_around b) ≡ true → ArePairs b
are_pairs b one = elim (is_map (item_of (map_around b))) [
  | inl a ↦ map_inside b a.0 a.1 one
  | inr a ↦ absurd (a.1 (one_item_major_type (map_around b) (head_of 5 places.Indefinite, b ++ 255 ∷ []) one (opening_again 5 (b ++ 255 ∷ []))))
]

-- b is a map that is one item, and s is the bytes of its pairs.
pub record HoldsPairs (b s : List ℕ) : Type 0 where
  pub one : is_one_item (map_around s) ≡ true
  pub view : Some (pairs_in s) ≡ as_map (item_of b)
  pub held : EnclosesContent 5 (pairs_count (pairs_in s)) s b

pub map_content : (b s : List ℕ) → is_one_item b ≡ true → IsContent major_types.Map b s → HoldsPairs b s
map_content b s one content = elim (is_map (item_of b)) [
  | inl a ↦
      let is : IsItem b (dict a.0) = subst (λ (v : Item). IsItem b v) a.1 (one_item_is b one) in
      let low = is.1 in
      let held = content_held 5 (pairs_count a.0) major_types.Map is.0.0 b s (one_item_bytes b one) is.0.2 content in
      let made = map_made s a.0 (subst (λ (x : List ℕ). ArePairEncodings a.0 x) (sym held.0) is.0.1) (omega arith)
      (subst (λ (x : List ℕ). IsBytes x) (sym held.0) held.1) in
      record {
        one = made.0;
        view = ap (λ (ps : Pairs). Some ps) made.1 ∙ ap as_map (sym a.1);
        held = subst (λ (ps : Pairs). EnclosesContent 5 (pairs_count ps) s b) (sym made.1)
            (subst (λ (x : List ℕ). EnclosesContent 5 (pairs_count a.0) x b) (sym held.0) is.0.2);
      }
  | inr a ↦ absurd (a.1 (one_item_major_type b content.head one content.reads ∙ content.major_type))
]

pub no_map : (b : List ℕ) → is_one_item b ≡ true → ((h : HeadView × List ℕ) → head_at b ≡ Ok h → h.0.major_type ≢ major_types.Map) → None ≡ as_map (item_of b)
no_map b one other = elim (is_map (item_of b)) [
  | inl a ↦ let h = one_item_head b one in absurd (other h.head h.reads (sym h.major_type ∙ ap item_major_type a.1))
  | inr a ↦ sym a.0
]

-- The first pair left, and the other pairs.
pub record FirstPair (b rest : List ℕ) (k v : Item) : Type 0 where
  pub others : is_one_item (map_around rest) ≡ true
  pub view : pairs_in b ≡ pair k v (pairs_in rest)

first_pair_of : (b f mid g rest : List ℕ) (k v : Item) (ps : Pairs) → ArePairEncodings ps b → pairs_depth ps < 256 → IsBytes b → pairs_in b ≡ ps → b ≡ f ++ mid
    → mid ≡ g ++ rest → IsItem f k → IsItem g v → FirstPair b rest k v
first_pair_of b f mid g rest k v no_pairs encodings low fits view e d is and = absurd (no_empty k f mid (sym encodings ∙ e) is.0)
first_pair_of b f mid g rest k v (pair x y ps) (c, i, j, key, value, more, parts) low fits view e d is and =
    let first = encodings_differ k x f c mid (i ++ j) is.0 key (sym e ∙ parts) in
    let after : i ++ j ≡ mid = append_cancel_left f (i ++ j) mid (ap (λ (s : List ℕ). s ++ (i ++ j)) first.1 ∙ sym parts ∙ e) in
    let second = encodings_differ v y g i rest j and.0 value (sym d ∙ sym after) in
    let end : j ≡ rest = append_cancel_left g j rest (ap (λ (s : List ℕ). s ++ j) second.1 ∙ after ∙ d) in
    let left = fits_back g rest (subst (λ (s : List ℕ). IsBytes s) d (fits_back f mid (subst (λ (s : List ℕ). IsBytes s) e fits))) in
    let made = map_made rest ps (subst (λ (s : List ℕ). ArePairEncodings ps s) end more) (omega arith) left in
    record {
      others = made.0;
      view = view ∙ ap (λ (z : Item). pair z y ps) (sym first.0) ∙ ap (λ (z : Item). pair k z ps) (sym second.0)
          ∙ ap (pair k v) (sym made.1);
    }

pub first_pair : (b f mid g rest : List ℕ) (k v : Item) → is_one_item (map_around b) ≡ true → b ≡ f ++ mid → mid ≡ g ++ rest → IsItem f k → IsItem g v
    → FirstPair b rest k v
first_pair b f mid g rest k v one e d is and = let a = are_pairs b one in first_pair_of b f mid g rest k v a.pairs a.encodings a.low a.fits a.view e d is and

none_key : (b : List ℕ) (ps : Pairs) → ArePairEncodings ps b → pairs_depth ps < 256 → ((v : Item) (f rest : List ℕ) → b ≡ f ++ rest → IsItem f v → ⊥)
    → ps ≡ no_pairs
none_key b no_pairs encodings low none = refl
none_key b (pair x y ps) (c, i, j, key, value, more, parts) low none = absurd (none x c (i ++ j) parts (key, omega arith))

-- If no key is at the start, no pair is left.
pub no_first_key : (b : List ℕ) → is_one_item (map_around b) ≡ true → ((v : Item) (f rest : List ℕ) → b ≡ f ++ rest → IsItem f v → ⊥) → pairs_in b ≡ no_pairs
no_first_key b one none = let a = are_pairs b one in a.view ∙ none_key b a.pairs a.encodings a.low none

value_of : (b f mid : List ℕ) (k : Item) (ps : Pairs) → ArePairEncodings ps b → pairs_depth ps < 256 → b ≡ f ++ mid → IsItem f k
    → ((v : Item) (g rest : List ℕ) → mid ≡ g ++ rest → IsItem g v → ⊥) → ⊥
value_of b f mid k no_pairs encodings low e is none = no_empty k f mid (sym encodings ∙ e) is.0
value_of b f mid k (pair x y ps) (c, i, j, key, value, more, parts) low e is none =
    let first = encodings_differ k x f c mid (i ++ j) is.0 key (sym e ∙ parts) in
    let after : i ++ j ≡ mid = append_cancel_left f (i ++ j) mid (ap (λ (s : List ℕ). s ++ (i ++ j)) first.1 ∙ sym parts ∙ e) in
    none y i j (sym after) (value, omega arith)

-- A value follows each key.
pub has_value : (b f mid : List ℕ) (k : Item) → is_one_item (map_around b) ≡ true → b ≡ f ++ mid → IsItem f k
    → ((v : Item) (g rest : List ℕ) → mid ≡ g ++ rest → IsItem g v → ⊥) → ⊥
has_value b f mid k one e is none = let a = are_pairs b one in value_of b f mid k a.pairs a.encodings a.low e is none

-- ---- bytes encode these elements and no others

only_items : (vs ws : Items) (b : List ℕ) → AreEncodings vs b → AreEncodings ws b → vs ≡ ws
only_items no_items no_items b h k = refl
only_items no_items (item w ws) b h k = absurd (no_empty w k.0 k.1 (sym h ∙ k.4) k.2)
only_items (item v vs) no_items b h k = absurd (no_empty v h.0 h.1 (sym k ∙ h.4) h.2)
only_items (item v vs) (item w ws) b h k =
    let first = encodings_differ v w h.0 k.0 h.1 k.1 h.2 k.2 (sym h.4 ∙ k.4) in
    let after : h.1 ≡ k.1 = append_cancel_left k.0 h.1 k.1 (ap (λ (s : List ℕ). s ++ h.1) (sym first.1) ∙ sym h.4 ∙ k.4) in
    ap (λ (x : Item). item x vs) first.0 ∙ ap (item w) (only_items vs ws k.1 (subst (λ (s : List ℕ). AreEncodings vs s) after h.3) k.3)

only_pairs : (ps qs : Pairs) (b : List ℕ) → ArePairEncodings ps b → ArePairEncodings qs b → ps ≡ qs
only_pairs no_pairs no_pairs b h k = refl
only_pairs no_pairs (pair x y qs) b h k = absurd (no_empty x k.0 (k.1 ++ k.2) (sym h ∙ k.6) k.3)
only_pairs (pair x y ps) no_pairs b h k = absurd (no_empty x h.0 (h.1 ++ h.2) (sym k ∙ h.6) h.3)
only_pairs (pair x y ps) (pair z w qs) b h k =
    let first = encodings_differ x z h.0 k.0 (h.1 ++ h.2) (k.1 ++ k.2) h.3 k.3 (sym h.6 ∙ k.6) in
    let after : h.1 ++ h.2 ≡ k.1 ++ k.2 = append_cancel_left k.0 (h.1 ++ h.2) (k.1 ++ k.2)
    (ap (λ (s : List ℕ). s ++ (h.1 ++ h.2)) (sym first.1) ∙ sym h.6 ∙ k.6) in
    let second = encodings_differ y w h.1 k.1 h.2 k.2 h.4 k.4 after in
    let end : h.2 ≡ k.2 = append_cancel_left k.1 h.2 k.2 (ap (λ (s : List ℕ). s ++ h.2) (sym second.1) ∙ after) in
    ap (λ (v : Item). pair v y ps) first.0 ∙ ap (λ (v : Item). pair z v ps) second.0
    ∙ ap (pair z w) (only_pairs ps qs k.2 (subst (λ (s : List ℕ). ArePairEncodings ps s) end h.5) k.5)

pub items_alone : (b : List ℕ) → is_one_item (array_around b) ≡ true → AreEncodings (items_in b) b × ((vs : Items) → AreEncodings vs b → vs ≡ items_in b)
items_alone b one =
    let a = are_items b one in
    let here = subst (λ (vs : Items). AreEncodings vs b) (sym a.view) a.encodings in
    (here, λ vs h. only_items vs (items_in b) b h here)

pub pairs_alone : (b : List ℕ) → is_one_item (map_around b) ≡ true → ArePairEncodings (pairs_in b) b × ((ps : Pairs) → ArePairEncodings ps b → ps ≡ pairs_in b)
pairs_alone b one =
    let a = are_pairs b one in
    let here = subst (λ (ps : Pairs). ArePairEncodings ps b) (sym a.view) a.encodings in
    (here, λ ps h. only_pairs ps (pairs_in b) b h here)

-- ---- bytes left begin with an item

items_begin : (b : List ℕ) (vs : Items) → AreEncodings vs b → items_depth vs < 256 → 0 < length b → BeginsItem b
items_begin b no_items encodings low some = let none = ap length encodings in absurd (omega arith)
items_begin b (item w ws) encodings low some = record {
  item = w;
  front = encodings.0;
  rest = encodings.1;
  parts = encodings.4;
  is_item =
      (encodings.2, omega arith);
}

pub item_begins : (b : List ℕ) → is_one_item (array_around b) ≡ true → 0 < length b → BeginsItem b
item_begins b one some = let a = are_items b one in items_begin b a.items a.encodings a.low some

keys_begin : (b : List ℕ) (ps : Pairs) → ArePairEncodings ps b → pairs_depth ps < 256 → 0 < length b → BeginsItem b
keys_begin b no_pairs encodings low some = let none = ap length encodings in absurd (omega arith)
keys_begin b (pair x y ps) (c, i, j, key, value, more, parts) low some =
    record { item = x; front = c; rest = i ++ j; parts = parts; is_item = (key, omega arith) }

pub key_begins : (b : List ℕ) → is_one_item (map_around b) ≡ true → 0 < length b → BeginsItem b
key_begins b one some = let a = are_pairs b one in keys_begin b a.pairs a.encodings a.low some

value_behind : (b f mid : List ℕ) (k : Item) (ps : Pairs) → ArePairEncodings ps b → pairs_depth ps < 256 → b ≡ f ++ mid → IsItem f k → BeginsItem mid
value_behind b f mid k no_pairs encodings low e is = absurd (no_empty k f mid (sym encodings ∙ e) is.0)
value_behind b f mid k (pair x y ps) (c, i, j, key, value, more, parts) low e is =
    let first = encodings_differ k x f c mid (i ++ j) is.0 key (sym e ∙ parts) in
    let after : i ++ j ≡ mid = append_cancel_left f (i ++ j) mid (ap (λ (s : List ℕ). s ++ (i ++ j)) first.1 ∙ sym parts ∙ e) in
    record { item = y; front = i; rest = j; parts = sym after; is_item = (value, omega arith) }

pub value_begins : (b f mid : List ℕ) (k : Item) → is_one_item (map_around b) ≡ true → b ≡ f ++ mid → IsItem f k → BeginsItem mid
value_begins b f mid k one e is = let a = are_pairs b one in value_behind b f mid k a.pairs a.encodings a.low e is
