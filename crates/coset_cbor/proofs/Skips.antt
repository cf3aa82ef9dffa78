-- Skipping an item that is known to be there, without testing its parts again.
use Rattle.std.proofs.Common.{◌≡◌, ℕ, zero, suc, ◌+◌, ◌-◌, ◌/◌, ◌<◌, Bool, true, false, cond, eqb, ltb, List, [], ◌∷◌, ◌++◌, length, take, drop, Option, Some}
use Rattle.std.proofs.Common.{Result, Ok, Err, refl, sym, ap, subst, ◌∙◌, arith, inl, inr}
use Rattle.std.specs.Prelude.{pos, negsuc}
use Rattle.coset_cbor.specs.declared.fault.Fault.{Fault}
use Rattle.coset_cbor.specs.declared.fault.Fault.TheVariants.{End, Syntax, Simple}
use Rattle.coset_cbor.specs.declared.head.MajorType.{MajorType}
use Rattle.coset_cbor.specs.declared.head.MajorType.TheVariants as major_types
use Rattle.coset_cbor.specs.Heads.{Argument, HeadView}
use Rattle.coset_cbor.specs.Heads as places
use Rattle.coset_value.specs.Item.{half, single, double, Item, integer, bytes, float, boolean, null, tag, array, dict}
use Rattle.coset_value.specs.View.{items_of, pairs_of}
use Rattle.coset_cbor.specs.Reading.{◌>>=◌, number_of, unless_none, head_at, is_string_content, string_at, any_string_by, times_at, pair_at, simple_at, things}
use Rattle.coset_cbor.specs.Reading.{item_by, item_at}
use Rattle.coset_cbor.specs.Grammar.{IsItem}
use Rattle.coset_cbor.specs.Whole.{is_one_item, item_of}
use Rattle.coset_cbor.specs.Skips.{IsPast, announced_items, announced_bytes, BeginsItem}
use Rattle.coset_cbor.proofs.Takes.{IsBytes, IsBytes-take, bind_ok, ok_is, some_ok, guard_ok, guard_else, chosen, head_takes, item_takes}
use Rattle.coset_cbor.proofs.Again.{item_again}
use Rattle.coset_cbor.proofs.Whole.{one_item_from, one_item_is}
use Rattle.std.proofs.lemmas.List.{length-append, take_at, take-append-drop}

abbrev rest_of : {A : Type 0} → A × List ℕ → List ℕ
rest_of x = x.1

-- ---- repetition

pub past_one : (s : List ℕ) (x : Item × List ℕ) → item_at 256 s ≡ Ok x → IsPast 1 s x.1
unfolding IsPast
past_one s x e = (x, e, refl)

past_append : (m n k : ℕ) (s t a : List ℕ) → k ≡ m + n → IsPast m s t → IsPast n t a → IsPast k s a
unfolding IsPast
past_append zero n k s t a e p q =
    let same : n ≡ k = omega arith in
    subst (λ (i : ℕ). IsPast i s a) same (subst (λ (b : List ℕ). IsPast n b a) (sym p) q)
past_append (suc m) n k s t a e (x, r, p) q =
    let same : suc (m + n) ≡ k = omega arith in
    subst (λ (i : ℕ). IsPast i s a) same (x, r, past_append m n (m + n) x.1 t a refl p q)

-- Skips the head and content of the first item, so that its enclosed items are to be skipped next.
pub past_step : (todo more : ℕ) (s t a : List ℕ) → 0 < todo → ((x : Item × List ℕ) → item_at 256 s ≡ Ok x → IsPast more t x.1) → IsPast todo s a
    → IsPast (todo - 1 + more) t a
unfolding IsPast
past_step zero more s t a lt inner p = absurd (omega arith)
past_step (suc n) more s t a lt inner (x, e, p) = past_append more n (suc n - 1 + more) t x.1 a (omega arith) (inner x e) p

pub past_all : (todo : ℕ) (s a : List ℕ) → todo ≡ 0 → IsPast todo s a → s ≡ a
unfolding IsPast
past_all zero s a e p = p
past_all (suc n) s a e p = absurd (omega arith)

-- ---- enclosed items nest one level less

deeper : (s : List ℕ) (x : Item × List ℕ) → IsBytes s → item_at 255 s ≡ Ok x → item_at 256 s ≡ Ok x
deeper s x fits e =
    let t = item_takes 255 s x fits e in
    let low = t.encoding.1 in
    ap (item_at 256) t.parts ∙ item_again 256 x.0 t.front x.1 t.encoding.0 (omega arith)

past_times : (n : ℕ) (s : List ℕ) (x : List Item × List ℕ) → IsBytes s → times_at (item_at 255) n s ≡ Ok x → IsPast n s x.1
unfolding times_at IsPast
past_times zero s x fits e = ap rest_of (ok_is ([], s) x e)
past_times (suc n) s x fits e =
    let a = bind_ok (item_at 255 s) (λ x. times_at (item_at 255) n x.1 >>= λ xs. Ok (x.0 ∷ xs.0, xs.1)) x e in
    let b = bind_ok (times_at (item_at 255) n a.0.1) (λ xs. Ok (a.0.0 ∷ xs.0, xs.1)) x a.2 in
    let t = item_takes 255 s a.0 fits a.1 in
    let end : b.0.1 ≡ x.1 = ap rest_of (ok_is (a.0.0 ∷ b.0.0, b.0.1) x b.2) in
    (a.0, deeper s a.0 fits a.1, subst (λ (r : List ℕ). IsPast n a.0.1 r) end (past_times n a.0.1 b.0 t.rest_fits b.1))

past_pairs : (n k : ℕ) (s : List ℕ) (x : List (Item × Item) × List ℕ) → k ≡ n + n → IsBytes s → times_at (pair_at (item_at 255)) n s ≡ Ok x → IsPast k s x.1
unfolding times_at IsPast
past_pairs zero k s x two fits e =
    let none : 0 ≡ k = omega arith in
    subst (λ (i : ℕ). IsPast i s x.1) none (ap rest_of (ok_is ([], s) x e))
past_pairs (suc n) k s x two fits e =
    let a = bind_ok (pair_at (item_at 255) s) (λ x. times_at (pair_at (item_at 255)) n x.1 >>= λ xs. Ok (x.0 ∷ xs.0, xs.1)) x e in
    let b = bind_ok (times_at (pair_at (item_at 255)) n a.0.1) (λ xs. Ok (a.0.0 ∷ xs.0, xs.1)) x a.2 in
    let key = bind_ok (item_at 255 s) (λ k. item_at 255 k.1 >>= λ v. Ok ((k.0, v.0), v.1)) a.0 a.1 in
    let value = bind_ok (item_at 255 key.0.1) (λ v. Ok ((key.0.0, v.0), v.1)) a.0 key.2 in
    let t = item_takes 255 s key.0 fits key.1 in
    let u = item_takes 255 key.0.1 value.0 t.rest_fits value.1 in
    let mid : a.0.1 ≡ value.0.1 = sym (ap rest_of (ok_is ((key.0.0, value.0.0), value.0.1) a.0 value.2)) in
    let end : b.0.1 ≡ x.1 = ap rest_of (ok_is (a.0.0 ∷ b.0.0, b.0.1) x b.2) in
    let more : IsPast (n + n) value.0.1 x.1 = subst (λ (r : List ℕ). IsPast (n + n) value.0.1 r) end
    (past_pairs n (n + n) value.0.1 b.0 refl u.rest_fits (ap (times_at (pair_at (item_at 255)) n) (sym mid) ∙ b.1)) in
    let count : suc (suc (n + n)) ≡ k = omega arith in
    subst (λ (i : ℕ). IsPast i s x.1) count (key.0, deeper s key.0 fits key.1, (value.0, deeper key.0.1 value.0 t.rest_fits value.1, more))

-- ---- after a head

number_rest : (left : ℕ) (o : Option ℕ) (f : ℕ → Item) (s : List ℕ) (x : Item × List ℕ) → unless_none left o (λ n. Ok (f n, s)) ≡ Ok x → s ≡ x.1
number_rest left o f s x e = let n = some_ok left o (λ n. Ok (f n, s)) x e in ap rest_of (ok_is (f n.0, s) x n.2)

string_rest : (is_text : Bool) (left n : ℕ) (s : List ℕ) (x : List ℕ × List ℕ) → string_at is_text left n s ≡ Ok x → drop n s ≡ x.1
unfolding string_at
string_rest is_text left n s x e =
    let g = guard_ok (ltb (length s) n) End (cond (is_string_content is_text (take n s)) (Ok (take n s, drop n s)) (Err (Syntax left))) x e in
    let h = guard_else (is_string_content is_text (take n s)) (Syntax left) (Ok (take n s, drop n s)) x g.1 in
    ap rest_of (ok_is (take n s, drop n s) x h.1)

simple_rest : (left : ℕ) (a : Argument) (s : List ℕ) (x : Item × List ℕ) → simple_at left a s ≡ Ok x → s ≡ x.1
simple_rest left (places.Within n) s x e =
    elim (chosen (eqb n 20) _ _ _ e) [
      | inl a ↦ ap rest_of (ok_is (boolean false, s) x a.1)
      | inr a ↦ elim (chosen (eqb n 21) _ _ _ a.1) [
        | inl b ↦ ap rest_of (ok_is (boolean true, s) x b.1)
        | inr b ↦ ap rest_of (ok_is (null, s) x (guard_else (eqb n 22) (Simple left) (Ok (null, s)) x b.1).1)
      ]
    ]
simple_rest left (places.One n) s x e = elim (chosen (ltb n 32) _ _ _ e) [ inl a ↦ absurd (cc (a.1)) | inr a ↦ absurd (cc (a.1)) ]
simple_rest left (places.Two n) s x e = ap rest_of (ok_is (float (half n), s) x e)
simple_rest left (places.Four n) s x e = ap rest_of (ok_is (float (single n), s) x e)
simple_rest left (places.Eight n) s x e = ap rest_of (ok_is (float (double n), s) x e)
simple_rest left places.Indefinite s x e = absurd cc

-- Mapping the value of a reading leaves the same bytes.
made_rest : {A : Type 0} (r : Result (A × List ℕ) Fault) (f : A → Item) (x : Item × List ℕ) → (r >>= λ y. Ok (f y.0, y.1)) ≡ Ok x → (y : A × List ℕ)
    × (r ≡ Ok y) × (y.1 ≡ x.1)
made_rest r f x e =
    let y = bind_ok r (λ y. Ok (f y.0, y.1)) x e in
    (y.0, y.1, ap rest_of (ok_is (f y.0.0, y.0.1) x y.2))

behind_by : (k : MajorType) (left n : ℕ) (a : Argument) (s : List ℕ) (x : Item × List ℕ) → IsBytes s → number_of a ≡ Some n
    → item_by (things (item_at 255)) left a k s ≡ Ok x → IsPast (announced_items k n) (drop (announced_bytes k n) s) x.1
unfolding IsPast things
behind_by major_types.Unsigned left n a s x fits number e = number_rest left (number_of a) (λ n. integer (pos n)) s x e
behind_by major_types.Negative left n a s x fits number e = number_rest left (number_of a) (λ n. integer (negsuc n)) s x e
behind_by major_types.Bytes left n a s x fits number e =
    let y = made_rest (any_string_by false left (Some n) s) bytes x
    (ap (λ (o : Option ℕ). any_string_by false left o s >>= λ y. Ok (bytes y.0, y.1)) (sym number) ∙ e) in
    string_rest false left n s y.0 y.1 ∙ y.2
behind_by major_types.Text left n a s x fits number e =
    let y = made_rest (any_string_by true left (Some n) s) Item.text x
    (ap (λ (o : Option ℕ). any_string_by true left o s >>= λ y. Ok (Item.text y.0, y.1)) (sym number) ∙ e) in
    string_rest true left n s y.0 y.1 ∙ y.2
behind_by major_types.Array left n a s x fits number e =
    let y = made_rest (cond (ltb (length s) n) (Err End) (times_at (item_at 255) n s)) (λ vs. array (items_of vs)) x
    (ap (λ (o : Option ℕ). (things (item_at 255)).items o s >>= λ y. Ok (array (items_of y.0), y.1)) (sym number) ∙ e) in
    let g = guard_ok (ltb (length s) n) End (times_at (item_at 255) n s) y.0 y.1 in
    subst (λ (r : List ℕ). IsPast n s r) y.2 (past_times n s y.0 fits g.1)
behind_by major_types.Map left n a s x fits number e =
    let y = made_rest (cond (ltb (length s / 2) n) (Err End) (times_at (pair_at (item_at 255)) n s)) (λ ps. dict (pairs_of ps)) x
    (ap (λ (o : Option ℕ). (things (item_at 255)).pairs o s >>= λ y. Ok (dict (pairs_of y.0), y.1)) (sym number) ∙ e) in
    let g = guard_ok (ltb (length s / 2) n) End (times_at (pair_at (item_at 255)) n s) y.0 y.1 in
    subst (λ (r : List ℕ). IsPast (n + n) s r) y.2 (past_pairs n (n + n) s y.0 refl fits g.1)
behind_by major_types.Tag left n a s x fits number e =
    let m = some_ok left (number_of a) (λ n. item_at 255 s >>= λ y. Ok (tag n y.0, y.1)) x e in
    let y = made_rest (item_at 255 s) (tag m.0) x m.2 in
    (y.0, deeper s y.0 fits y.1, y.2)
behind_by major_types.Simple left n a s x fits number e = simple_rest left a s x e

pub behind_head : (s : List ℕ) (h : HeadView × List ℕ) (n : ℕ) (t : List ℕ) (x : Item × List ℕ) → IsBytes s → head_at s ≡ Ok h → number_of h.0.argument ≡ Some n
    → t ≡ drop (announced_bytes h.0.major_type n) h.1 → item_at 256 s ≡ Ok x → IsPast (announced_items h.0.major_type n) t x.1
unfolding item_at
behind_head s h n t x fits e number rest whole =
    let by : item_by (things (item_at 255)) (length s) h.0.argument h.0.major_type h.1 ≡ Ok x =
    sym (ap (λ (r : Result (HeadView × List ℕ) Fault). r >>= λ y. item_by (things (item_at 255)) (length s) y.0.argument y.0.major_type y.1) e) ∙ whole in
    subst (λ (r : List ℕ). IsPast (announced_items h.0.major_type n) r x.1) (sym rest)
    (behind_by h.0.major_type (length s) n h.0.argument h.1 x (head_takes s h fits e).rest_fits number by)

-- ---- the item known to be at the start

-- b is split at the end of its item.
pub record IsSplit (b f rest : List ℕ) : Type 0 where
  pub one : is_one_item f ≡ true
  pub parts : b ≡ f ++ rest
  pub is_item : IsItem f (item_of f)

pub skipped : (b rest f r : List ℕ) → IsBytes b → BeginsItem b → ((x : Item × List ℕ) → item_at 256 b ≡ Ok x → rest ≡ x.1) → f ≡ take (length b - length rest) b
    → r ≡ drop (length b - length rest) b → IsSplit b f r
skipped b rest f r fits begins is front back =
    let x : Item × List ℕ = (begins.item, begins.rest) in
    let read : item_at 256 b ≡ Ok x = ap (item_at 256) begins.parts ∙ item_again 256 begins.item begins.front begins.rest begins.is_item.0 begins.is_item.1 in
    let same : rest ≡ begins.rest = is x read in
    let long : length begins.front ≡ length b - length rest = omega (arith, ap length begins.parts ∙ length-append begins.front begins.rest, ap length same) in
    let whole : f ≡ begins.front = front ∙ ap (take (length b - length rest)) begins.parts ∙ take_at begins.front begins.rest (length b - length rest) long in
    let one = one_item_from f begins.item (subst (λ (c : List ℕ). IsBytes c) (sym front) (IsBytes-take (length b - length rest) b fits))
    (subst (λ (c : List ℕ). IsItem c begins.item) (sym whole) begins.is_item) in
    record {
      one = one;
      parts = sym (take-append-drop (length b - length rest) b) ∙ ap (λ (c : List ℕ). c ++ drop (length b - length rest) b) (sym front)
          ∙ ap (λ (c : List ℕ). f ++ c) (sym back);
      is_item = one_item_is f one;
    }
