-- The content of the item at the start, by its head.
use Rattle.std.proofs.Common.{◌≡◌, ◌≢◌, ℕ, ℤ, ◌<◌, List, ◌∷◌, ◌++◌, length, Bool, true, false, eqb, ltb, Option, Some, None, Result, Ok, Err, sym, subst, ap}
use Rattle.std.proofs.Common.{◌∙◌, inl, inr}
use Rattle.std.specs.Prelude.{pos, negsuc}
use Rattle.coset_value.specs.Item.{Item, integer, float, boolean, null, half, single, double}
use Rattle.coset_value.specs.Parts.{as_integer}
use Rattle.coset_cbor.specs.declared.fault.Fault.{Fault}
use Rattle.coset_cbor.specs.declared.fault.Fault.TheVariants.{Simple}
use Rattle.coset_cbor.specs.Heads.{Argument, HeadView}
use Rattle.coset_cbor.specs.Heads as places
use Rattle.coset_cbor.specs.declared.head.MajorType.{MajorType}
use Rattle.coset_cbor.specs.declared.head.MajorType.TheVariants as major_types
use Rattle.coset_cbor.specs.Cursors.{ItemAt}
use Rattle.coset_cbor.specs.Reading.{number_of, head_at, begins_chunk, any_string_by, simple_at, Inside, things, item_by, item_at}
use Rattle.coset_cbor.specs.Scalars.{as_scalar, scalar_by, integer_by}
use Rattle.coset_cbor.specs.StringChunks.{as_string}
use Rattle.coset_cbor.proofs.Cursors.{stands_by, stands_item, stands_read, stands_shorter}
use Rattle.coset_cbor.proofs.Chunking.{other_read}
use Rattle.coset_cbor.proofs.Heads.{integer_is, scalar_is, string_by}
use Rattle.coset_cbor.proofs.Takes.{IsBytes, item_takes, chosen, guard_else, ok_is, some_ok}

abbrev done : Item × List ℕ → Result (Item × List ℕ) Fault
done x = Ok x

abbrev rest_of : {A : Type 0} → A × List ℕ → List ℕ
rest_of x = x.1

-- ---- scalars: their head is the whole item

behind : (v : Item) (s : List ℕ) (x : Item × List ℕ) → done (v, s) ≡ done x → s ≡ x.1
behind v s x e = ap rest_of (ok_is (v, s) x e)

simple_behind : (left : ℕ) (g : Argument) (s : List ℕ) (x : Item × List ℕ) → simple_at left g s ≡ Ok x → s ≡ x.1
simple_behind left (places.Within n) s x e = elim (chosen (eqb n 20) _ _ _ e) [
  | inl a ↦ behind (boolean false) s x a.1
  | inr a ↦ elim (chosen (eqb n 21) _ _ _ a.1) [
    | inl b ↦ behind (boolean true) s x b.1
    | inr b ↦ behind null s x (guard_else (eqb n 22) (Simple left) (Ok (null, s)) x b.1).1
  ]
]
simple_behind left (places.One n) s x e = elim (chosen (ltb n 32) _ _ _ e) [ inl a ↦ absurd (cc (a.1)) | inr a ↦ absurd (cc (a.1)) ]
simple_behind left (places.Two n) s x e = behind (float (half n)) s x e
simple_behind left (places.Four n) s x e = behind (float (single n)) s x e
simple_behind left (places.Eight n) s x e = behind (float (double n)) s x e
simple_behind left places.Indefinite s x e = absurd cc

scalar_behind : (inside : Inside) (left : ℕ) (g : Argument) (k : MajorType) (s : List ℕ) (x : Item × List ℕ) (w : Item) → item_by inside left g k s ≡ Ok x
    → scalar_by left g k s ≡ Some w → s ≡ x.1
scalar_behind inside left g major_types.Unsigned s x w e is = let n = some_ok left (number_of g) (λ n. Ok (integer (pos n), s)) x e in
    behind (integer (pos n.0)) s x n.2
scalar_behind inside left g major_types.Negative s x w e is = let n = some_ok left (number_of g) (λ n. Ok (integer (negsuc n), s)) x e in
    behind (integer (negsuc n.0)) s x n.2
scalar_behind inside left g major_types.Bytes s x w e is = absurd cc
scalar_behind inside left g major_types.Text s x w e is = absurd cc
scalar_behind inside left g major_types.Array s x w e is = absurd cc
scalar_behind inside left g major_types.Map s x w e is = absurd cc
scalar_behind inside left g major_types.Tag s x w e is = absurd cc
scalar_behind inside left g major_types.Simple s x w e is = simple_behind left g s x e

pub scalar_read :
    (v : Item) (s a : List ℕ) (h : HeadView × List ℕ) (w : Item) → ItemAt v s a → head_at s ≡ Ok h
    → Some w ≡ scalar_by (length s) h.0.argument h.0.major_type h.1 → (as_scalar v ≡ Some w) × (h.1 ≡ a)
scalar_read v s a h w whole e is =
    let by = stands_by v s a h whole e in
    let inside = things (item_at 255) in (
      sym (is ∙ scalar_is inside (length s) h.0.argument h.0.major_type h.1 (v, a) by),
      scalar_behind inside (length s) h.0.argument h.0.major_type h.1 (v, a) w by (sym is),
    )

pub no_scalar : (v : Item) (s a : List ℕ) (h : HeadView × List ℕ) → ItemAt v s a → head_at s ≡ Ok h
    → None ≡ scalar_by (length s) h.0.argument h.0.major_type h.1 → as_scalar v ≡ None
no_scalar v s a h whole e is = sym (is ∙ scalar_is (things (item_at 255)) (length s) h.0.argument h.0.major_type h.1 (v, a) (stands_by v s a h whole e))

integer_behind : (inside : Inside) (left : ℕ) (g : Argument) (k : MajorType) (s : List ℕ) (x : Item × List ℕ) (n : ℤ) → item_by inside left g k s ≡ Ok x
    → integer_by (number_of g) k ≡ Some n → s ≡ x.1
integer_behind inside left g major_types.Unsigned s x i e is = let n = some_ok left (number_of g) (λ n. Ok (integer (pos n), s)) x e in
    behind (integer (pos n.0)) s x n.2
integer_behind inside left g major_types.Negative s x i e is = let n = some_ok left (number_of g) (λ n. Ok (integer (negsuc n), s)) x e in
    behind (integer (negsuc n.0)) s x n.2
integer_behind inside left g major_types.Bytes s x i e is = absurd cc
integer_behind inside left g major_types.Text s x i e is = absurd cc
integer_behind inside left g major_types.Array s x i e is = absurd cc
integer_behind inside left g major_types.Map s x i e is = absurd cc
integer_behind inside left g major_types.Tag s x i e is = absurd cc
integer_behind inside left g major_types.Simple s x i e is = absurd cc

pub integer_read :
    (v : Item) (s a : List ℕ) (h : HeadView × List ℕ) (n : ℤ) → ItemAt v s a → head_at s ≡ Ok h → Some n ≡ integer_by (number_of h.0.argument) h.0.major_type
    → (as_integer v ≡ Some n) × (h.1 ≡ a)
integer_read v s a h n whole e is =
    let by = stands_by v s a h whole e in
    let inside = things (item_at 255) in (
      sym (is ∙ integer_is inside (length s) h.0.argument h.0.major_type h.1 (v, a) by),
      integer_behind inside (length s) h.0.argument h.0.major_type h.1 (v, a) n by (sym is),
    )

pub no_integer : (v : Item) (s a : List ℕ) (h : HeadView × List ℕ) → ItemAt v s a → head_at s ≡ Ok h → None ≡ integer_by (number_of h.0.argument) h.0.major_type
    → as_integer v ≡ None
no_integer v s a h whole e is = sym (is ∙ integer_is (things (item_at 255)) (length s) h.0.argument h.0.major_type h.1 (v, a) (stands_by v s a h whole e))

-- ---- null

pub null_read : (v : Item) (s a rest : List ℕ) → ItemAt v s a → s ≡ 246 ∷ rest → (v ≡ null) × (rest ≡ a)
unfolding item_at head_at things
null_read v s a rest whole e =
    let here : item_at 256 (246 ∷ rest) ≡ Ok (v, a) = ap (item_at 256) (sym e) ∙ stands_read v s a whole in
    let same = ok_is (null, rest) (v, a) here in
    (sym (ap (λ (x : Item × List ℕ). x.0) same), ap rest_of same)

pub null_begins : (s a : List ℕ) → ItemAt null s a → s ≡ 246 ∷ a
unfolding ItemAt
null_begins s a (f, parts, is) = parts ∙ ap (λ (b : List ℕ). b ++ a) is.0

pub no_null : (v : Item) (s a rest : List ℕ) (x : ℕ) → ItemAt v s a → s ≡ x ∷ rest → x ≢ 246 → v ≢ null
no_null v s a rest x whole e other is = other (first x 246 rest a (sym e ∙ null_begins s a (subst (λ (w : Item). ItemAt w s a) is whole)))
  where
    first : (x y : ℕ) (s t : List ℕ) → x ∷ s ≡ y ∷ t → x ≡ y
    first x y s t e = cc

-- ---- strings

-- A string that was read is the content of the item, and the bytes left follow the item.
pub string_there :
    (is_text : Bool) (v : Item) (s a : List ℕ) (h : HeadView × List ℕ) (o : Option ℕ) (y : List ℕ × List ℕ) → ItemAt v s a → head_at s ≡ Ok h
    → begins_chunk is_text h.0.major_type ≡ true → o ≡ number_of h.0.argument
    → any_string_by is_text (length s) o h.1 ≡ Ok y → (Some y.0 ≡ as_string is_text v) × (y.1 ≡ a)
string_there is_text v s a h o y whole e k number is =
    let by = stands_by v s a h whole e in
    let r = string_by is_text (things (item_at 255)) (length s) h.0.argument h.0.major_type h.1 (v, a) k by in
    let same = ok_is y r.0 (sym is ∙ ap (λ (p : Option ℕ). any_string_by is_text (length s) p h.1) number ∙ r.1) in
    (ap (λ (z : List ℕ × List ℕ). Some z.0) same ∙ r.2, ap rest_of same ∙ r.3)

pub string_no_fault_there :
    (is_text : Bool) (v : Item) (s a : List ℕ) (h : HeadView × List ℕ) (o : Option ℕ) (f : Fault) → ItemAt v s a → head_at s ≡ Ok h
    → begins_chunk is_text h.0.major_type ≡ true → o ≡ number_of h.0.argument
    → any_string_by is_text (length s) o h.1 ≡ Err f → ⊥
string_no_fault_there is_text v s a h o f whole e k number is =
    let r = string_by is_text (things (item_at 255)) (length s) h.0.argument h.0.major_type h.1 (v, a) k (stands_by v s a h whole e) in
    differ r.0 (sym is ∙ ap (λ (p : Option ℕ). any_string_by is_text (length s) p h.1) number ∙ r.1)
  where
    differ : (y : List ℕ × List ℕ) → ◌≡◌ {A = Result (List ℕ × List ℕ) Fault} (Err f) (Ok y) → ⊥
    differ y e = cc

pub no_string_there : (is_text : Bool) (v : Item) (s a : List ℕ) (h : HeadView × List ℕ) → ItemAt v s a → head_at s ≡ Ok h
    → begins_chunk is_text h.0.major_type ≡ false → as_string is_text v ≡ None
no_string_there is_text v s a h whole e k = other_read is_text (things (item_at 255)) (length s) h.0.argument h.0.major_type h.1 v a k
    (stands_by v s a h whole e)

-- ---- an item as a whole

pub item_there : (v : Item) (s a : List ℕ) (w : Item) (rest : List ℕ) → ItemAt v s a → item_at 256 s ≡ Ok (w, rest) → (w ≡ v) × (rest ≡ a)
item_there v s a w rest whole e =
    let same = ok_is (w, rest) (v, a) (sym e ∙ stands_read v s a whole) in
    (ap (λ (x : Item × List ℕ). x.0) same, ap rest_of same)

pub no_fault_there : (v : Item) (s a : List ℕ) (f : Fault) → ItemAt v s a → item_at 256 s ≡ Err f → ⊥
no_fault_there v s a f whole e = differ (sym e ∙ stands_read v s a whole)
  where
    differ : ◌≡◌ {A = Result (Item × List ℕ) Fault} (Err f) (Ok (v, a)) → ⊥
    differ e = cc

pub item_shorter : (s : List ℕ) (w : Item) (rest : List ℕ) → IsBytes s → item_at 256 s ≡ Ok (w, rest) → length rest < length s
item_shorter s w rest fits e =
    let t = item_takes 256 s (w, rest) fits e in
    stands_shorter w s rest (stands_item w t.front s rest t.encoding t.parts)
