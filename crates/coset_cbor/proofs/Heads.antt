-- What the head of a borrowed item says about the item.
use Rattle.std.proofs.Common.{◌≡◌, ℕ, ◌≤◌, Bool, true, false, eqb, ltb, List, [], ◌++◌, length, Option, Some, None, Result, Ok, Err, refl, sym, ap, subst, ◌∙◌}
use Rattle.std.proofs.Common.{arith, inl, inr}
use Rattle.std.proofs.lemmas.List.{append-nil}
use Rattle.std.specs.Prelude.{pos, negsuc, option_map}
use Rattle.coset_value.specs.Item.{Item, depth, integer, bytes, float, half, single, double, boolean, null, tag, array, dict}
use Rattle.coset_value.specs.Parts.{as_integer, as_tag}
use Rattle.coset_value.specs.View.{items_of, pairs_of}
use Rattle.coset_cbor.specs.declared.fault.Fault.{Fault}
use Rattle.coset_cbor.specs.declared.fault.Fault.TheVariants.{Simple}
use Rattle.coset_cbor.specs.declared.head.MajorType.{MajorType}
use Rattle.coset_cbor.specs.declared.head.MajorType.TheVariants as major_types
use Rattle.coset_cbor.specs.Heads.{Argument, HeadView, major_type_number}
use Rattle.coset_cbor.specs.Heads as places
use Rattle.coset_cbor.specs.Reading.{◌>>=◌, number_of, unless_none, head_at, begins_chunk, any_string_by, simple_at, Inside, things, item_by, item_from}
use Rattle.coset_cbor.specs.Reading.{item_at}
use Rattle.coset_cbor.specs.Grammar.{IsHead, IsHeaded, IsEncoding, IsItem}
use Rattle.coset_cbor.specs.Scalars.{as_scalar, read_of, scalar_by, integer_by, tag_by}
use Rattle.coset_cbor.specs.Whole.{is_one_item, item_of}
use Rattle.coset_cbor.proofs.Takes.{bind_ok, chosen, guard_else, ok_is, some_ok, IsArgumentEncoding, number_head, head_takes, item_takes}
use Rattle.coset_cbor.specs.StringChunks.{as_string}
use Rattle.coset_cbor.proofs.Between.{simple_major_type}
use Rattle.coset_cbor.specs.Skips.{item_major_type}
use Rattle.coset_cbor.proofs.Whole.{one_item_bytes, one_item_read, one_item_from, item_of_one}

abbrev done : Item × List ℕ → Result (Item × List ℕ) Fault
done x = Ok x

-- An item is read from its head.
pub one_item_by : (b : List ℕ) (h : HeadView × List ℕ) → is_one_item b ≡ true → head_at b ≡ Ok h
    → item_by (things (item_at 255)) (length b) h.0.argument h.0.major_type h.1 ≡ Ok (item_of b, [])
unfolding item_at
one_item_by b h one e =
    let whole : item_from (things (item_at 255)) b ≡ Ok (item_of b, []) = one_item_read b one in
    sym (ap (λ (r : Result (HeadView × List ℕ) Fault). r >>= λ x. item_by (things (item_at 255)) (length b) x.0.argument x.0.major_type x.1) e) ∙ whole

-- An item has a head.
pub one_item_head : (b : List ℕ) (f : Fault) → is_one_item b ≡ true → head_at b ≡ Err f → ⊥
unfolding item_at
one_item_head b f one e =
    let whole : item_from (things (item_at 255)) b ≡ Ok (item_of b, []) = one_item_read b one in
    differ (sym (ap (λ (r : Result (HeadView × List ℕ) Fault). r >>= λ x. item_by (things (item_at 255)) (length b) x.0.argument x.0.major_type x.1) e) ∙ whole)
  where
    differ : ◌≡◌ {A = Result (Item × List ℕ) Fault} (Err f) (Ok (item_of b, [])) → ⊥
    differ e = cc

-- ---- items that a head encodes alone

number_scalar : (left : ℕ) (o : Option ℕ) (f : ℕ → Item) (s : List ℕ) (x : Item × List ℕ) → ((n : ℕ) → as_scalar (f n) ≡ Some (f n))
    → unless_none left o (λ n. Ok (f n, s)) ≡ Ok x → option_map f o ≡ as_scalar x.0
number_scalar left o f s x is e =
    let n = some_ok left o (λ n. Ok (f n, s)) x e in
    ap (option_map f) n.1 ∙ sym (is n.0) ∙ ap (λ (y : Item × List ℕ). as_scalar y.0) (ok_is (f n.0, s) x n.2)

simple_scalar : (left : ℕ) (a : Argument) (s : List ℕ) (x : Item × List ℕ) → simple_at left a s ≡ Ok x → read_of (simple_at left a s) ≡ as_scalar x.0
simple_scalar left a s x e = ap read_of e ∙ sym (is left a s x e)
  where
    found : (v : Item) (s : List ℕ) (x : Item × List ℕ) → as_scalar v ≡ Some v → done (v, s) ≡ done x → as_scalar x.0 ≡ Some x.0
    found v s x is e = subst (λ (y : Item × List ℕ). as_scalar y.0 ≡ Some y.0) (ok_is (v, s) x e) is

    is : (left : ℕ) (a : Argument) (s : List ℕ) (x : Item × List ℕ) → simple_at left a s ≡ Ok x → as_scalar x.0 ≡ Some x.0
    is left (places.Within n) s x e =
        elim (chosen (eqb n 20) _ _ _ e) [
          | inl a ↦ found (boolean false) s x refl a.1
          | inr a ↦ elim (chosen (eqb n 21) _ _ _ a.1) [
            | inl b ↦ found (boolean true) s x refl b.1
            | inr b ↦ found null s x refl (guard_else (eqb n 22) (Simple left) (Ok (null, s)) x b.1).1
          ]
        ]
    is left (places.One n) s x e = elim (chosen (ltb n 32) _ _ _ e) [ inl a ↦ absurd (cc (a.1)) | inr a ↦ absurd (cc (a.1)) ]
    is left (places.Two n) s x e = found (float (half n)) s x refl e
    is left (places.Four n) s x e = found (float (single n)) s x refl e
    is left (places.Eight n) s x e = found (float (double n)) s x refl e
    is left places.Indefinite s x e = absurd cc

-- If f makes the item from a reading, the item is f of something.
made_is : {A : Type 0} (r : Result (A × List ℕ) Fault) (f : A → Item) (x : Item × List ℕ) → (r >>= λ y. Ok (f y.0, y.1)) ≡ Ok x → (y : A) × (x.0 ≡ f y)
made_is r f x e =
    let y = bind_ok r (λ y. Ok (f y.0, y.1)) x e in
    (y.0.0, ap (λ (z : Item × List ℕ). z.0) (sym (ok_is (f y.0.0, y.0.1) x y.2)))

pub scalar_is : (inside : Inside) (left : ℕ) (a : Argument) (k : MajorType) (s : List ℕ) (x : Item × List ℕ) → item_by inside left a k s ≡ Ok x
    → scalar_by left a k s ≡ as_scalar x.0
scalar_is inside left a major_types.Unsigned s x e = number_scalar left (number_of a) (λ n. integer (pos n)) s x (λ n. refl) e
scalar_is inside left a major_types.Negative s x e = number_scalar left (number_of a) (λ n. integer (negsuc n)) s x (λ n. refl) e
scalar_is inside left a major_types.Bytes s x e = ap as_scalar (sym (made_is (any_string_by false left (number_of a) s) bytes x e).1)
scalar_is inside left a major_types.Text s x e = ap as_scalar (sym (made_is (any_string_by true left (number_of a) s) Item.text x e).1)
scalar_is inside left a major_types.Array s x e = ap as_scalar (sym (made_is (inside.items (number_of a) s) (λ vs. array (items_of vs)) x e).1)
scalar_is inside left a major_types.Map s x e = ap as_scalar (sym (made_is (inside.pairs (number_of a) s) (λ ps. dict (pairs_of ps)) x e).1)
scalar_is inside left a major_types.Tag s x e =
    let n = some_ok left (number_of a) (λ n. inside.one s >>= λ y. Ok (tag n y.0, y.1)) x e in
    ap as_scalar (sym (made_is (inside.one s) (tag n.0) x n.2).1)
scalar_is inside left a major_types.Simple s x e = simple_scalar left a s x e

-- ---- integers

pub integer_is : (inside : Inside) (left : ℕ) (a : Argument) (k : MajorType) (s : List ℕ) (x : Item × List ℕ) → item_by inside left a k s ≡ Ok x
    → integer_by (number_of a) k ≡ as_integer x.0
integer_is inside left a major_types.Unsigned s x e =
    let n = some_ok left (number_of a) (λ n. Ok (integer (pos n), s)) x e in
    ap (option_map (λ (n : ℕ). pos n)) n.1 ∙ ap (λ (y : Item × List ℕ). as_integer y.0) (ok_is (integer (pos n.0), s) x n.2)
integer_is inside left a major_types.Negative s x e =
    let n = some_ok left (number_of a) (λ n. Ok (integer (negsuc n), s)) x e in
    ap (option_map (λ (n : ℕ). negsuc n)) n.1 ∙ ap (λ (y : Item × List ℕ). as_integer y.0) (ok_is (integer (negsuc n.0), s) x n.2)
integer_is inside left a major_types.Bytes s x e = ap as_integer (sym (made_is (any_string_by false left (number_of a) s) bytes x e).1)
integer_is inside left a major_types.Text s x e = ap as_integer (sym (made_is (any_string_by true left (number_of a) s) Item.text x e).1)
integer_is inside left a major_types.Array s x e = ap as_integer (sym (made_is (inside.items (number_of a) s) (λ vs. array (items_of vs)) x e).1)
integer_is inside left a major_types.Map s x e = ap as_integer (sym (made_is (inside.pairs (number_of a) s) (λ ps. dict (pairs_of ps)) x e).1)
integer_is inside left a major_types.Tag s x e =
    let n = some_ok left (number_of a) (λ n. inside.one s >>= λ y. Ok (tag n y.0, y.1)) x e in
    ap as_integer (sym (made_is (inside.one s) (tag n.0) x n.2).1)
integer_is inside left a major_types.Simple s x e = no_integer x.0 (simple_major_type left a s x e)
  where
    no_integer : (v : Item) → item_major_type v ≡ major_types.Simple → None ≡ as_integer v
    no_integer (integer (pos n)) h = absurd cc
    no_integer (integer (negsuc n)) h = absurd cc
    no_integer (bytes s) h = refl
    no_integer (float x) h = refl
    no_integer (Item.text s) h = refl
    no_integer (boolean b) h = refl
    no_integer null h = refl
    no_integer (tag t v) h = refl
    no_integer (array vs) h = refl
    no_integer (dict ps) h = refl

-- ---- strings

pub string_by : (is_text : Bool) (inside : Inside) (left : ℕ) (a : Argument) (k : MajorType) (s : List ℕ) (x : Item × List ℕ) → begins_chunk is_text k ≡ true
    → item_by inside left a k s ≡ Ok x
    → (y : List ℕ × List ℕ) × (any_string_by is_text left (number_of a) s ≡ Ok y) × (Some y.0 ≡ as_string is_text x.0) × (y.1 ≡ x.1)
string_by false inside left a major_types.Bytes s x k e =
    let r = bind_ok (any_string_by false left (number_of a) s) (λ y. Ok (bytes y.0, y.1)) x e in (
      r.0,
      r.1,
      ap (λ (z : Item × List ℕ). as_string false z.0) (ok_is (bytes r.0.0, r.0.1) x r.2),
      ap (λ (z : Item × List ℕ). z.1) (ok_is (bytes r.0.0, r.0.1) x r.2),
    )
string_by true inside left a major_types.Text s x k e =
    let r = bind_ok (any_string_by true left (number_of a) s) (λ y. Ok (Item.text y.0, y.1)) x e in (
      r.0,
      r.1,
      ap (λ (z : Item × List ℕ). as_string true z.0) (ok_is (Item.text r.0.0, r.0.1) x r.2),
      ap (λ (z : Item × List ℕ). z.1) (ok_is (Item.text r.0.0, r.0.1) x r.2),
    )
string_by true inside left a major_types.Bytes s x k e = absurd cc
string_by false inside left a major_types.Text s x k e = absurd cc
string_by is_text inside left a major_types.Unsigned s x k e = absurd cc
string_by is_text inside left a major_types.Negative s x k e = absurd cc
string_by is_text inside left a major_types.Array s x k e = absurd cc
string_by is_text inside left a major_types.Map s x k e = absurd cc
string_by is_text inside left a major_types.Tag s x k e = absurd cc
string_by is_text inside left a major_types.Simple s x k e = absurd cc

-- The string read from a borrowed item is the content of that item.
pub string_read : (is_text : Bool) (b : List ℕ) (h : HeadView × List ℕ) (o : Option ℕ) (y : List ℕ × List ℕ) → is_one_item b ≡ true → head_at b ≡ Ok h
    → begins_chunk is_text h.0.major_type ≡ true → o ≡ number_of h.0.argument
    → any_string_by is_text (length b) o h.1 ≡ Ok y → Some y.0 ≡ as_string is_text (item_of b)
string_read is_text b h o y one e k number is =
    let r = string_by is_text (things (item_at 255)) (length b) h.0.argument h.0.major_type h.1 (item_of b, []) k (one_item_by b h one e) in
    ap (λ (z : List ℕ × List ℕ). Some z.0) (ok_is y r.0 (sym is ∙ ap (λ (p : Option ℕ). any_string_by is_text (length b) p h.1) number ∙ r.1)) ∙ r.2

pub string_no_fault : (is_text : Bool) (b : List ℕ) (h : HeadView × List ℕ) (o : Option ℕ) (f : Fault) → is_one_item b ≡ true → head_at b ≡ Ok h
    → begins_chunk is_text h.0.major_type ≡ true → o ≡ number_of h.0.argument
    → any_string_by is_text (length b) o h.1 ≡ Err f → ⊥
string_no_fault is_text b h o f one e k number is =
    let r = string_by is_text (things (item_at 255)) (length b) h.0.argument h.0.major_type h.1 (item_of b, []) k (one_item_by b h one e) in
    differ r.0 (sym is ∙ ap (λ (p : Option ℕ). any_string_by is_text (length b) p h.1) number ∙ r.1)
  where
    differ : (y : List ℕ × List ℕ) → ◌≡◌ {A = Result (List ℕ × List ℕ) Fault} (Err f) (Ok y) → ⊥
    differ y e = cc

-- ---- tags

-- If a head is not a tag's, its item is not a tag.
pub no_tag : (inside : Inside) (left : ℕ) (a : Argument) (k : MajorType) (s : List ℕ) (x : Item × List ℕ) → tag_by a k ≡ None → item_by inside left a k s ≡ Ok x
    → None ≡ as_tag x.0
no_tag inside left a major_types.Unsigned s x t e = let n = some_ok left (number_of a) (λ n. Ok (integer (pos n), s)) x e in
    ap (λ (y : Item × List ℕ). as_tag y.0) (ok_is (integer (pos n.0), s) x n.2)
no_tag inside left a major_types.Negative s x t e = let n = some_ok left (number_of a) (λ n. Ok (integer (negsuc n), s)) x e in
    ap (λ (y : Item × List ℕ). as_tag y.0) (ok_is (integer (negsuc n.0), s) x n.2)
no_tag inside left a major_types.Bytes s x t e = ap as_tag (sym (made_is (any_string_by false left (number_of a) s) bytes x e).1)
no_tag inside left a major_types.Text s x t e = ap as_tag (sym (made_is (any_string_by true left (number_of a) s) Item.text x e).1)
no_tag inside left a major_types.Array s x t e = ap as_tag (sym (made_is (inside.items (number_of a) s) (λ vs. array (items_of vs)) x e).1)
no_tag inside left a major_types.Map s x t e = ap as_tag (sym (made_is (inside.pairs (number_of a) s) (λ ps. dict (pairs_of ps)) x e).1)
no_tag inside left a major_types.Tag s x t e =
    let n = some_ok left (number_of a) (λ n. inside.one s >>= λ y. Ok (tag n y.0, y.1)) x e in
    absurd (differ n.0 (sym n.1 ∙ t))
  where
    differ : (n : ℕ) → ◌≡◌ {A = Option ℕ} (Some n) None → ⊥
    differ n e = cc
no_tag inside left a major_types.Simple s x t e = as_scalar_tag x.0 (sym (simple_scalar left a s x e) ∙ ap read_of e)
  where
    as_scalar_tag : (v : Item) → as_scalar v ≡ Some v → None ≡ as_tag v
    as_scalar_tag (integer n) h = refl
    as_scalar_tag (bytes s) h = refl
    as_scalar_tag (float x) h = refl
    as_scalar_tag (Item.text s) h = refl
    as_scalar_tag (boolean b) h = refl
    as_scalar_tag null h = refl
    as_scalar_tag (tag t v) h = absurd cc
    as_scalar_tag (array vs) h = refl
    as_scalar_tag (dict ps) h = refl

-- A tag's head gives a tag of the item that is read inside.
tag_inside : (inside : Inside) (left : ℕ) (a : Argument) (k : MajorType) (s : List ℕ) (x : Item × List ℕ) (n : ℕ) → tag_by a k ≡ Some n
    → item_by inside left a k s ≡ Ok x → (w : Item × List ℕ) × (inside.one s ≡ Ok w) × (x ≡ (tag n w.0, w.1))
tag_inside inside left a major_types.Unsigned s x n t e = absurd cc
tag_inside inside left a major_types.Negative s x n t e = absurd cc
tag_inside inside left a major_types.Bytes s x n t e = absurd cc
tag_inside inside left a major_types.Text s x n t e = absurd cc
tag_inside inside left a major_types.Array s x n t e = absurd cc
tag_inside inside left a major_types.Map s x n t e = absurd cc
tag_inside inside left a major_types.Tag s x n t e =
    let m = some_ok left (number_of a) (λ n. inside.one s >>= λ y. Ok (tag n y.0, y.1)) x e in
    let w = bind_ok (inside.one s) (λ y. Ok (tag m.0 y.0, y.1)) x m.2 in
    let same : m.0 ≡ n = some_same m.0 n (sym m.1 ∙ t) in
    (w.0, w.1, sym (ok_is (tag m.0 w.0.0, w.0.1) x w.2) ∙ ap (λ (k : ℕ). (tag k w.0.0, w.0.1)) same)
  where
    some_same : (m n : ℕ) → ◌≡◌ {A = Option ℕ} (Some m) (Some n) → m ≡ n
    some_same m n e = cc
tag_inside inside left a major_types.Simple s x n t e = absurd cc

-- A tag's head is a head of major type 6.
tag_head : (a : Argument) (k : MajorType) (f : List ℕ) (n : ℕ) → IsArgumentEncoding (major_type_number k) a f → tag_by a k ≡ Some n → IsHead 6 n f
tag_head a major_types.Unsigned f n h e = absurd cc
tag_head a major_types.Negative f n h e = absurd cc
tag_head a major_types.Bytes f n h e = absurd cc
tag_head a major_types.Text f n h e = absurd cc
tag_head a major_types.Array f n h e = absurd cc
tag_head a major_types.Map f n h e = absurd cc
tag_head a major_types.Tag f n h e = number_head 6 n a f h e
tag_head a major_types.Simple f n h e = absurd cc

-- The bytes after a tag's head are one item, which the tag encloses.
pub record IsEnclosed (n : ℕ) (b s : List ℕ) : Type 0 where
  pub headed : IsHeaded 6 n s b
  pub one : is_one_item s ≡ true
  pub item : item_of b ≡ tag n (item_of s)

pub enclosed_item : (b : List ℕ) (h : HeadView × List ℕ) (n : ℕ) → is_one_item b ≡ true → head_at b ≡ Ok h → tag_by h.0.argument h.0.major_type ≡ Some n
    → IsEnclosed n b h.1
unfolding things
enclosed_item b h n one e t =
    let w = tag_inside (things (item_at 255)) (length b) h.0.argument h.0.major_type h.1 (item_of b, []) n t (one_item_by b h one e) in
    let head = head_takes b h (one_item_bytes b one) e in
    let fits = head.rest_fits in
    let inner = item_takes 255 h.1 w.0 fits w.1 in
    let rest : [] ≡ w.0.1 = ap (λ (x : Item × List ℕ). x.1) w.2 in
    let all : h.1 ≡ inner.front = inner.parts ∙ ap (λ (r : List ℕ). inner.front ++ r) (sym rest) ∙ append-nil inner.front in
    let low : depth w.0.0 ≤ 255 = inner.encoding.1 in
    let encoding : IsItem h.1 w.0.0 = (subst (λ (c : List ℕ). IsEncoding w.0.0 c) (sym all) inner.encoding.0, omega arith) in
    record {
      headed = record { head = head.front; is_head = tag_head h.0.argument h.0.major_type head.front n head.encoding t; parts = head.parts };
      one = one_item_from h.1 w.0.0 fits encoding;
      item = ap (λ (x : Item × List ℕ). x.0) w.2 ∙ ap (tag n) (sym (item_of_one h.1 w.0.0 encoding));
    }
