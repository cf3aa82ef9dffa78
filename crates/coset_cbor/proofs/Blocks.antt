-- If a fault is in bytes, nothing is read from them.
use Rattle.std.proofs.Common.{◌≡◌, ℕ, zero, suc, ◌+◌, ◌*◌, ◌/◌, ◌%◌, ◌^◌, ◌<◌, ◌≤◌, Bool, true, false, ltb, List, [], ◌∷◌, ◌++◌, length, Option, Result, Ok}
use Rattle.std.proofs.Common.{refl, sym, ap, subst, ◌∙◌, append_assoc, add-zero, add-one, arith, inl, inr, ◌⊎◌}
use Rattle.std.specs.Prelude.{not, pos, negsuc}
use Rattle.std.specs.Int.{w8, w16, w32, w64, to_be_bytes}
use Rattle.std.proofs.lemmas.Bool.{false≢true}
use Rattle.std.proofs.lemmas.List.{length-append, append-nil, append_cancel_left}
use Rattle.coset_value.specs.Item.{half, single, double, Item, Items, no_items, item, items_count, pairs_count, depth, array, dict, tag, integer, bytes, float}
use Rattle.coset_value.specs.Item.{text, boolean, null}
use Rattle.coset_value.specs.View.{items_of, pairs_of}
use Rattle.coset_cbor.specs.declared.fault.Fault.{Fault}
use Rattle.coset_cbor.specs.declared.fault.Fault.TheVariants.{End}
use Rattle.coset_cbor.specs.declared.head.MajorType.TheVariants as major_types
use Rattle.coset_cbor.specs.Heads.{HeadView}
use Rattle.coset_cbor.specs.Grammar.{HeadWidth, within, one, two, four, eight, Holds, head_in, IsStringEncoding, IsHead, IsHeaded, IsEncoding, AreEncodings}
use Rattle.coset_cbor.specs.Faults.{is_even, Opens, in_array, in_map, in_tag, in_open_array, in_open_map, Due, at_start, innermost, outer}
use Rattle.coset_cbor.specs.Reading.{◌>>=◌, number_of, begins_break, times_at, until_at, pair_at, array_by, map_by, things, item_by, item_at}
use Rattle.coset_cbor.proofs.Again.{Begins, begins_append, IsHead-begins, IsEncoding-begins, IsHeaded-begins, IsHead-again, IsHeaded-again, opening_again}
use Rattle.coset_cbor.proofs.Again.{no_break, regroup, encodings_differ, item_again}
use Rattle.coset_cbor.proofs.Takes.{IsBytes, bind_ok, ok_is, guard_ok, some_ok, chosen, item_takes}

-- No item is read from s.
abbrev pub NoRead : ℕ → List ℕ → Type 0
NoRead d s = (x : Item × List ℕ) → item_at d s ≡ Ok x → ⊥

pub IsBytes-append : (c t : List ℕ) → IsBytes (c ++ t) → IsBytes t
IsBytes-append [] t h = h
IsBytes-append (x ∷ c) t h = IsBytes-append c t (λ i. h (suc i))

-- If an item is read from bytes that begin with an encoding, the reader consumes exactly that encoding.
encoding_read : (d : ℕ) (v : Item) (c rest : List ℕ) (x : Item × List ℕ) → IsBytes (c ++ rest) → IsEncoding v c → item_at d (c ++ rest) ≡ Ok x → x.1 ≡ rest
encoding_read d v c rest x fits h e =
    let t = item_takes d (c ++ rest) x fits e in
    let same = encodings_differ v x.0 c t.front rest x.1 h t.encoding.0 t.parts in
    sym (append_cancel_left c rest x.1 (t.parts ∙ ap (λ (y : List ℕ). y ++ x.1) (sym same.1)))

-- ---- repetition

until_blocked : (d turns : ℕ) (vs : Items) (c t : List ℕ) (x : List Item × List ℕ) → IsBytes (c ++ t) → AreEncodings vs c → NoRead d t → begins_break t ≡ false
    → until_at (item_at d) turns (c ++ t) ≡ Ok x → ⊥
unfolding until_at
until_blocked d zero vs c t x fits h never goes e = cc
until_blocked d (suc turns) no_items c t x fits h never goes e =
    let whole : until_at (item_at d) (suc turns) t ≡ Ok x = ap (λ (s : List ℕ). until_at (item_at d) (suc turns) (s ++ t)) (sym h) ∙ e in
    elim (chosen (begins_break t) _ _ _ whole) [
      | inl a ↦ false≢true (sym goes ∙ a.0)
      | inr a ↦ let r = bind_ok (item_at d t) (λ x. until_at (item_at d) turns x.1 >>= λ xs. Ok (x.0 ∷ xs.0, xs.1)) x a.1 in never r.0 r.1
    ]
until_blocked d (suc turns) (item v vs) c t x fits h never goes e =
    let s = h.0 ++ (h.1 ++ t) in
    let parts = regroup h.0 h.1 c t h.4 in
    let whole : until_at (item_at d) (suc turns) s ≡ Ok x = ap (until_at (item_at d) (suc turns)) (sym parts) ∙ e in
    let fits' : IsBytes s = subst IsBytes parts fits in
    elim (chosen (begins_break s) _ _ _ whole) [
      | inl a ↦ false≢true (sym (no_break h.0 (h.1 ++ t) (IsEncoding-begins v h.0 h.2)) ∙ a.0)
      | inr a ↦
          let r = bind_ok (item_at d s) (λ x. until_at (item_at d) turns x.1 >>= λ xs. Ok (x.0 ∷ xs.0, xs.1)) x a.1 in
          let q = bind_ok (until_at (item_at d) turns r.0.1) (λ xs. Ok (r.0.0 ∷ xs.0, xs.1)) x r.2 in
          let rest = encoding_read d v h.0 (h.1 ++ t) r.0 fits' h.2 r.1 in
          until_blocked d turns vs h.1 t q.0 (IsBytes-append h.0 (h.1 ++ t) fits') h.3 never goes (ap (until_at (item_at d) turns) (sym rest) ∙ q.1)
    ]

times_blocked : (d n : ℕ) (vs : Items) (c t : List ℕ) (x : List Item × List ℕ) → IsBytes (c ++ t) → AreEncodings vs c → items_count vs < n → NoRead d t
    → times_at (item_at d) n (c ++ t) ≡ Ok x → ⊥
unfolding times_at
times_blocked d zero vs c t x fits h lt never e = omega arith
times_blocked d (suc n) no_items c t x fits h lt never e =
    let whole : times_at (item_at d) (suc n) t ≡ Ok x = ap (λ (s : List ℕ). times_at (item_at d) (suc n) (s ++ t)) (sym h) ∙ e in
    let r = bind_ok (item_at d t) (λ x. times_at (item_at d) n x.1 >>= λ xs. Ok (x.0 ∷ xs.0, xs.1)) x whole in
    never r.0 r.1
times_blocked d (suc n) (item v vs) c t x fits h lt never e =
    let s = h.0 ++ (h.1 ++ t) in
    let parts = regroup h.0 h.1 c t h.4 in
    let whole : times_at (item_at d) (suc n) s ≡ Ok x = ap (times_at (item_at d) (suc n)) (sym parts) ∙ e in
    let fits' : IsBytes s = subst IsBytes parts fits in
    let r = bind_ok (item_at d s) (λ x. times_at (item_at d) n x.1 >>= λ xs. Ok (x.0 ∷ xs.0, xs.1)) x whole in
    let q = bind_ok (times_at (item_at d) n r.0.1) (λ xs. Ok (r.0.0 ∷ xs.0, xs.1)) x r.2 in
    let rest = encoding_read d v h.0 (h.1 ++ t) r.0 fits' h.2 r.1 in
    times_blocked d n vs h.1 t q.0 (IsBytes-append h.0 (h.1 ++ t) fits') h.3 (omega arith) never (ap (times_at (item_at d) n) (sym rest) ∙ q.1)

-- A pair that cannot be read: the key is missing, or the value after the key.
no_key : (d : ℕ) (t : List ℕ) (x : (Item × Item) × List ℕ) → NoRead d t → pair_at (item_at d) t ≡ Ok x → ⊥
no_key d t x never e = let r = bind_ok (item_at d t) (λ k. item_at d k.1 >>= λ v. Ok ((k.0, v.0), v.1)) x e in never r.0 r.1

no_value : (d : ℕ) (v : Item) (c t : List ℕ) (x : (Item × Item) × List ℕ) → IsBytes (c ++ t) → IsEncoding v c → NoRead d t → pair_at (item_at d) (c ++ t) ≡ Ok x
    → ⊥
no_value d v c t x fits h never e =
    let r = bind_ok (item_at d (c ++ t)) (λ k. item_at d k.1 >>= λ v. Ok ((k.0, v.0), v.1)) x e in
    let q = bind_ok (item_at d r.0.1) (λ v. Ok ((r.0.0, v.0), v.1)) x r.2 in
    never q.0 (ap (item_at d) (sym (encoding_read d v c t r.0 fits h r.1)) ∙ q.1)

pair_read : (d : ℕ) (v w : Item) (c e rest : List ℕ) (x : (Item × Item) × List ℕ) → IsBytes (c ++ (e ++ rest)) → IsEncoding v c → IsEncoding w e
    → pair_at (item_at d) (c ++ (e ++ rest)) ≡ Ok x → x.1 ≡ rest
pair_read d v w c e rest x fits h k is =
    let r = bind_ok (item_at d (c ++ (e ++ rest))) (λ k. item_at d k.1 >>= λ v. Ok ((k.0, v.0), v.1)) x is in
    let q = bind_ok (item_at d r.0.1) (λ v. Ok ((r.0.0, v.0), v.1)) x r.2 in
    let key = encoding_read d v c (e ++ rest) r.0 fits h r.1 in
    let value = encoding_read d w e rest q.0 (IsBytes-append c (e ++ rest) fits) k (ap (item_at d) (sym key) ∙ q.1) in
    ap (λ (y : (Item × Item) × List ℕ). y.1) (sym (ok_is ((r.0.0, q.0.0), q.0.1) x q.2)) ∙ value

pairs_blocked : (d n : ℕ) (vs : Items) (c t : List ℕ) (x : List (Item × Item) × List ℕ) → IsBytes (c ++ t) → AreEncodings vs c → items_count vs < 2 * n
    → NoRead d t → times_at (pair_at (item_at d)) n (c ++ t) ≡ Ok x → ⊥
unfolding times_at
pairs_blocked d zero vs c t x fits h lt never e = omega arith
pairs_blocked d (suc n) no_items c t x fits h lt never e =
    let whole : times_at (pair_at (item_at d)) (suc n) t ≡ Ok x = ap (λ (s : List ℕ). times_at (pair_at (item_at d)) (suc n) (s ++ t)) (sym h) ∙ e in
    let r = bind_ok (pair_at (item_at d) t) (λ x. times_at (pair_at (item_at d)) n x.1 >>= λ xs. Ok (x.0 ∷ xs.0, xs.1)) x whole in
    no_key d t r.0 never r.1
pairs_blocked d (suc n) (item v no_items) c t x fits h lt never e =
    let parts : c ++ t ≡ h.0 ++ t = ap (λ (s : List ℕ). s ++ t) (h.4 ∙ ap (λ (s : List ℕ). h.0 ++ s) h.3 ∙ append-nil h.0) in
    let whole : times_at (pair_at (item_at d)) (suc n) (h.0 ++ t) ≡ Ok x = ap (times_at (pair_at (item_at d)) (suc n)) (sym parts) ∙ e in
    let r = bind_ok (pair_at (item_at d) (h.0 ++ t)) (λ x. times_at (pair_at (item_at d)) n x.1 >>= λ xs. Ok (x.0 ∷ xs.0, xs.1)) x whole in
    no_value d v h.0 t r.0 (subst IsBytes parts fits) h.2 never r.1
pairs_blocked d (suc n) (item v (item w vs)) c t x fits h lt never e =
    let s = h.0 ++ (h.3.0 ++ (h.3.1 ++ t)) in
    let parts : c ++ t ≡ s = regroup h.0 h.1 c t h.4 ∙ ap (λ (y : List ℕ). h.0 ++ y) (regroup h.3.0 h.3.1 h.1 t h.3.4) in
    let whole : times_at (pair_at (item_at d)) (suc n) s ≡ Ok x = ap (times_at (pair_at (item_at d)) (suc n)) (sym parts) ∙ e in
    let fits' : IsBytes s = subst IsBytes parts fits in
    let r = bind_ok (pair_at (item_at d) s) (λ x. times_at (pair_at (item_at d)) n x.1 >>= λ xs. Ok (x.0 ∷ xs.0, xs.1)) x whole in
    let q = bind_ok (times_at (pair_at (item_at d)) n r.0.1) (λ xs. Ok (r.0.0 ∷ xs.0, xs.1)) x r.2 in
    let rest = pair_read d v w h.0 h.3.0 (h.3.1 ++ t) r.0 fits' h.2 h.3.2 r.1 in
    pairs_blocked d n vs h.3.1 t q.0 (IsBytes-append h.3.0 (h.3.1 ++ t) (IsBytes-append h.0 (h.3.0 ++ (h.3.1 ++ t)) fits')) h.3.3 (omega arith) never
    (ap (times_at (pair_at (item_at d)) n) (sym rest) ∙ q.1)

pairs_until_blocked : (d turns : ℕ) (vs : Items) (c t : List ℕ) (x : List (Item × Item) × List ℕ) → IsBytes (c ++ t) → AreEncodings vs c → NoRead d t
    → (is_even (items_count vs) ≡ true → begins_break t ≡ false) → until_at (pair_at (item_at d)) turns (c ++ t) ≡ Ok x → ⊥
unfolding until_at
pairs_until_blocked d zero vs c t x fits h never goes e = cc
pairs_until_blocked d (suc turns) no_items c t x fits h never goes e =
    let whole : until_at (pair_at (item_at d)) (suc turns) t ≡ Ok x = ap (λ (s : List ℕ). until_at (pair_at (item_at d)) (suc turns) (s ++ t)) (sym h) ∙ e in
    elim (chosen (begins_break t) _ _ _ whole) [
      | inl a ↦ false≢true (sym (goes refl) ∙ a.0)
      | inr a ↦ let r = bind_ok (pair_at (item_at d) t) (λ x. until_at (pair_at (item_at d)) turns x.1 >>= λ xs. Ok (x.0 ∷ xs.0, xs.1)) x a.1 in
          no_key d t r.0 never r.1
    ]
pairs_until_blocked d (suc turns) (item v no_items) c t x fits h never goes e =
    let parts : c ++ t ≡ h.0 ++ t = ap (λ (s : List ℕ). s ++ t) (h.4 ∙ ap (λ (s : List ℕ). h.0 ++ s) h.3 ∙ append-nil h.0) in
    let whole : until_at (pair_at (item_at d)) (suc turns) (h.0 ++ t) ≡ Ok x = ap (until_at (pair_at (item_at d)) (suc turns)) (sym parts) ∙ e in
    elim (chosen (begins_break (h.0 ++ t)) _ _ _ whole) [
      | inl a ↦ false≢true (sym (no_break h.0 t (IsEncoding-begins v h.0 h.2)) ∙ a.0)
      | inr a ↦ let r = bind_ok (pair_at (item_at d) (h.0 ++ t)) (λ x. until_at (pair_at (item_at d)) turns x.1 >>= λ xs. Ok (x.0 ∷ xs.0, xs.1)) x a.1 in
          no_value d v h.0 t r.0 (subst IsBytes parts fits) h.2 never r.1
    ]
pairs_until_blocked d (suc turns) (item v (item w vs)) c t x fits h never goes e =
    let s = h.0 ++ (h.3.0 ++ (h.3.1 ++ t)) in
    let parts : c ++ t ≡ s = regroup h.0 h.1 c t h.4 ∙ ap (λ (y : List ℕ). h.0 ++ y) (regroup h.3.0 h.3.1 h.1 t h.3.4) in
    let whole : until_at (pair_at (item_at d)) (suc turns) s ≡ Ok x = ap (until_at (pair_at (item_at d)) (suc turns)) (sym parts) ∙ e in
    let fits' : IsBytes s = subst IsBytes parts fits in
    elim (chosen (begins_break s) _ _ _ whole) [
      | inl a ↦ false≢true (sym (no_break h.0 (h.3.0 ++ (h.3.1 ++ t)) (IsEncoding-begins v h.0 h.2)) ∙ a.0)
      | inr a ↦
          let r = bind_ok (pair_at (item_at d) s) (λ x. until_at (pair_at (item_at d)) turns x.1 >>= λ xs. Ok (x.0 ∷ xs.0, xs.1)) x a.1 in
          let q = bind_ok (until_at (pair_at (item_at d)) turns r.0.1) (λ xs. Ok (r.0.0 ∷ xs.0, xs.1)) x r.2 in
          let rest = pair_read d v w h.0 h.3.0 (h.3.1 ++ t) r.0 fits' h.2 h.3.2 r.1 in
          pairs_until_blocked d turns vs h.3.1 t q.0 (IsBytes-append h.3.0 (h.3.1 ++ t) (IsBytes-append h.0 (h.3.0 ++ (h.3.1 ++ t)) fits')) h.3.3 never
          (λ even. goes (ap (λ (b : Bool). not (not b)) even)) (ap (until_at (pair_at (item_at d)) turns) (sym rest) ∙ q.1)
    ]

-- ---- openings of arrays, maps and tags

-- No item is read from t, and t does not begin with a break that may be there.
abbrev pub IsBlocked : Bool → ℕ → List ℕ → Type 0
IsBlocked e d t = NoRead d t × (e ≡ true → begins_break t ≡ false)

headed_fits : (m n : ℕ) (c o t : List ℕ) → IsHeaded m n c o → IsBytes (o ++ t) → IsBytes (c ++ t)
headed_fits m n c o t h fits = IsBytes-append h.head (c ++ t) (subst IsBytes (regroup h.head c o t h.parts) fits)

pub opens_blocked : (o : List ℕ) (e : Bool) → Opens o e → (d : ℕ) (t : List ℕ) → IsBytes (o ++ t) → IsBlocked e d t → NoRead (suc d) (o ++ t)
unfolding item_at things
opens_blocked o e (in_tag n p h) d t fits never x is =
    let r = IsHead-again 6 n p t h in
    let whole : item_by (things (item_at d)) (length (p ++ t)) r.argument major_types.Tag t ≡ Ok x =
    sym (ap (λ (y : Result (HeadView × List ℕ) Fault). y >>= λ h. item_by (things (item_at d)) (length (p ++ t)) h.0.argument h.0.major_type h.1) r.reads)
    ∙ is in
    let m = some_ok (length (p ++ t)) (number_of r.argument) (λ n. item_at d t >>= λ y. Ok (tag n y.0, y.1)) x whole in
    let w = bind_ok (item_at d t) (λ y. Ok (tag m.0 y.0, y.1)) x m.2 in
    never.0 w.0 w.1
opens_blocked o e (in_array n vs c p lt encodings h) d t fits never x is =
    let r = IsHeaded-again 4 n c p t h in
    let whole : (array_by (item_at d) (number_of r.argument) (c ++ t) >>= λ y. Ok (array (items_of y.0), y.1)) ≡ Ok x =
    sym (ap (λ (y : Result (HeadView × List ℕ) Fault). y >>= λ h. item_by (things (item_at d)) (length (p ++ t)) h.0.argument h.0.major_type h.1) r.reads)
    ∙ is in
    let w = bind_ok (array_by (item_at d) (number_of r.argument) (c ++ t)) (λ y. Ok (array (items_of y.0), y.1)) x whole in
    let g = guard_ok (ltb (length (c ++ t)) n) End (times_at (item_at d) n (c ++ t)) w.0
    (ap (λ (k : Option ℕ). array_by (item_at d) k (c ++ t)) (sym r.number) ∙ w.1) in
    times_blocked d n vs c t w.0 (headed_fits 4 n c p t h fits) encodings lt never.0 g.1
opens_blocked o e (in_map n vs c p lt encodings h) d t fits never x is =
    let r = IsHeaded-again 5 n c p t h in
    let whole : (map_by (item_at d) (number_of r.argument) (c ++ t) >>= λ y. Ok (dict (pairs_of y.0), y.1)) ≡ Ok x =
    sym (ap (λ (y : Result (HeadView × List ℕ) Fault). y >>= λ h. item_by (things (item_at d)) (length (p ++ t)) h.0.argument h.0.major_type h.1) r.reads)
    ∙ is in
    let w = bind_ok (map_by (item_at d) (number_of r.argument) (c ++ t)) (λ y. Ok (dict (pairs_of y.0), y.1)) x whole in
    let g = guard_ok (ltb (length (c ++ t) / 2) n) End (times_at (pair_at (item_at d)) n (c ++ t)) w.0
    (ap (λ (k : Option ℕ). map_by (item_at d) k (c ++ t)) (sym r.number) ∙ w.1) in
    pairs_blocked d n vs c t w.0 (headed_fits 5 n c p t h fits) encodings lt never.0 g.1
opens_blocked o e (in_open_array vs c encodings) d t fits never x is =
    let whole : (until_at (item_at d) (length (c ++ t)) (c ++ t) >>= λ y. Ok (array (items_of y.0), y.1)) ≡ Ok x =
    sym (ap (λ (y : Result (HeadView × List ℕ) Fault). y >>= λ h. item_by (things (item_at d)) (suc (length (c ++ t))) h.0.argument h.0.major_type h.1)
    (opening_again 4 (c ++ t))) ∙ is in
    let w = bind_ok (until_at (item_at d) (length (c ++ t)) (c ++ t)) (λ y. Ok (array (items_of y.0), y.1)) x whole in
    until_blocked d (length (c ++ t)) vs c t w.0 (λ i. fits (suc i)) encodings never.0 (never.1 refl) w.1
opens_blocked o e (in_open_map vs c encodings) d t fits never x is =
    let whole : (until_at (pair_at (item_at d)) (length (c ++ t)) (c ++ t) >>= λ y. Ok (dict (pairs_of y.0), y.1)) ≡ Ok x =
    sym (ap (λ (y : Result (HeadView × List ℕ) Fault). y >>= λ h. item_by (things (item_at d)) (suc (length (c ++ t))) h.0.argument h.0.major_type h.1)
    (opening_again 5 (c ++ t))) ∙ is in
    let w = bind_ok (until_at (pair_at (item_at d)) (length (c ++ t)) (c ++ t)) (λ y. Ok (dict (pairs_of y.0), y.1)) x whole in
    pairs_until_blocked d (length (c ++ t)) vs c t w.0 (λ i. fits (suc i)) encodings never.0 never.1 w.1

-- ---- inside open arrays, maps and tags

begins_no_break : (c t : List ℕ) → Begins c → begins_break (c ++ t) ≡ false
begins_no_break c t g = no_break c t g

Opens-begins : (o : List ℕ) (e : Bool) → Opens o e → Begins o
Opens-begins o e (in_array n vs c p lt encodings h) = IsHeaded-begins 4 n c p (omega arith) h
Opens-begins o e (in_map n vs c p lt encodings h) = IsHeaded-begins 5 n c p (omega arith) h
Opens-begins o e (in_tag n p h) = IsHead-begins 6 n p (omega arith) h
Opens-begins o e (in_open_array vs c encodings) = record { first = 0x9F; more = c; parts = refl; low = omega arith }
Opens-begins o e (in_open_map vs c encodings) = record { first = 0xBF; more = c; parts = refl; low = omega arith }

Due-begins : (c : List ℕ) (k : ℕ) (e : Bool) → Due c k e → 0 < k → Begins c
Due-begins c k e at_start lt = absurd (omega arith)
Due-begins c k e (innermost o f p) lt = Opens-begins o f p
Due-begins c k e (outer o q j f g p r) lt = begins_append o q (o ++ q) refl (Opens-begins o g p)

-- If nothing is read where an item is due, nothing is read from the whole.
pub due_blocked : (c : List ℕ) (k : ℕ) (e : Bool) → Due c k e → (d : ℕ) (t : List ℕ) → IsBytes (c ++ t) → IsBlocked e d t → NoRead (d + k) (c ++ t)
due_blocked c k e at_start d t fits h = subst (λ (n : ℕ). NoRead n t) (sym (add-zero d)) h.0
due_blocked c k e (innermost o f p) d t fits h = subst (λ (n : ℕ). NoRead n (o ++ t)) (sym (add-one d)) (opens_blocked o f p d t fits h)
due_blocked c k e (outer o q j f g p r) d t fits h =
    let parts = append_assoc o q t in
    let inner : IsBytes (q ++ t) = IsBytes-append o (q ++ t) (subst IsBytes parts fits) in
    let ih = due_blocked q (suc j) f r d t inner h in
    let whole = opens_blocked o g p (d + suc j) (q ++ t) (subst IsBytes parts fits)
    (ih, λ even. begins_no_break q t (Due-begins q (suc j) f r (omega arith))) in
    let depth_is : suc (d + suc j) ≡ d + suc (suc j) = omega arith in
    subst (λ (n : ℕ). NoRead n ((o ++ q) ++ t)) depth_is (subst (λ (s : List ℕ). NoRead (suc (d + suc j)) s) (sym parts) whole)

-- If nothing is read at a depth, nothing is read at a smaller depth.
pub no_read_below : (d k : ℕ) (s : List ℕ) → IsBytes s → NoRead (d + k) s → NoRead d s
no_read_below d k s fits never x e =
    let t = item_takes d s x fits e in
    let le : depth x.0 ≤ d + k = let low = t.encoding.1 in omega arith in
    never x (ap (item_at (d + k)) t.parts ∙ item_again (d + k) x.0 t.front x.1 t.encoding.0 le)

-- ---- the first byte of an encoding

-- The initial byte of an item, and the least number of bytes after it.
pub record IsFirst (v : Item) (x : ℕ) (more : List ℕ) : Type 0 where
  pub major_type : ((x / 32 ≤ 6) × (x % 32 ≤ 27)) ⊎ (((2 ≤ x / 32) × (x / 32 ≤ 5) × (x % 32 ≡ 31)) ⊎ (((244 ≤ x) × (x ≤ 246)) ⊎ ((249 ≤ x) × (x ≤ 251))))
  pub argument : (j : ℕ) → j < 4 → x % 32 ≡ 24 + j → 2 ^ j ≤ length more
  pub nests : 4 ≤ x / 32 → x / 32 ≤ 6 → 0 < depth v

record Starts (v : Item) (b : List ℕ) : Type 0 where
  first : ℕ
  more : List ℕ
  parts : b ≡ first ∷ more
  is_first : IsFirst v first more

-- The initial byte of a head.
pub record HeadStarts (m : ℕ) (h : List ℕ) : Type 0 where
  pub info : ℕ
  pub more : List ℕ
  pub parts : h ≡ (32 * m + info) ∷ more
  pub low : info ≤ 27
  pub argument : (j : ℕ) → j < 4 → info ≡ 24 + j → 2 ^ j ≤ length more

sized : (k : ℕ) (more : List ℕ) → 2 ^ k ≡ length more → k < 4 → (j : ℕ) → j < 4 → 24 + k ≡ 24 + j → 2 ^ j ≤ length more
sized k more e low j lt is = let same : k ≡ j = omega arith in subst (λ (i : ℕ). 2 ^ i ≤ length more) same (omega arith)

head_in_starts : (p : HeadWidth) (m n : ℕ) → Holds p n → HeadStarts m (head_in p m n)
head_in_starts within m n h = record { info = n; more = []; parts = refl; low = omega arith; argument = λ j lt is. absurd (omega arith) }
head_in_starts one m n h = record {
  info = 24;
  more = to_be_bytes w8 n;
  parts = refl;
  low = omega arith;
  argument =
      sized 0 (to_be_bytes w8 n) refl (omega arith);
}
head_in_starts two m n h = record {
  info = 25;
  more = to_be_bytes w16 n;
  parts = refl;
  low = omega arith;
  argument =
      sized 1 (to_be_bytes w16 n) refl (omega arith);
}
head_in_starts four m n h = record {
  info = 26;
  more = to_be_bytes w32 n;
  parts = refl;
  low = omega arith;
  argument =
      sized 2 (to_be_bytes w32 n) refl (omega arith);
}
head_in_starts eight m n h = record {
  info = 27;
  more = to_be_bytes w64 n;
  parts = refl;
  low = omega arith;
  argument =
      sized 3 (to_be_bytes w64 n) refl (omega arith);
}

head_starts : (m n : ℕ) (h : List ℕ) → IsHead m n h → HeadStarts m h
head_starts m n h is = subst (HeadStarts m) (sym is.spelled) (head_in_starts is.width m n is.holds)

pub headed_starts : (m n : ℕ) (s b : List ℕ) → IsHeaded m n s b → HeadStarts m b
headed_starts m n s b is =
    let h = head_starts m n is.head is.is_head in
    record {
      info = h.info;
      more = h.more ++ s;
      parts = is.parts ∙ ap (λ (y : List ℕ). y ++ s) h.parts;
      low = h.low;
      argument = λ j lt e. let long = h.argument j lt e in omega (arith, length-append h.more s);
    }

-- An item that begins with a head of major type m.
from_head : (v : Item) (m : ℕ) (b : List ℕ) → m ≤ 6 → HeadStarts m b → (4 ≤ m → 0 < depth v) → Starts v b
from_head v m b le h deep =
    let low = h.low in
    let quotient : (32 * m + h.info) / 32 ≡ m = omega arith in
    let remainder : (32 * m + h.info) % 32 ≡ h.info = omega arith in
    record {
      first = 32 * m + h.info;
      more = h.more;
      parts = h.parts;
      is_first = record {
        major_type = inl (omega arith, omega arith);
        argument = λ j lt e. h.argument j lt (sym remainder ∙ e);
        nests = λ ge hi. deep (omega arith);
      };
    }

-- An item of indefinite length.
from_opening : (v : Item) (m : ℕ) (s b : List ℕ) → 2 ≤ m → m ≤ 5 → b ≡ (32 * m + 31) ∷ (s ++ 255 ∷ []) → (4 ≤ m → 0 < depth v) → Starts v b
from_opening v m s b ge le e deep =
    let quotient : (32 * m + 31) / 32 ≡ m = omega arith in
    let remainder : (32 * m + 31) % 32 ≡ 31 = omega arith in
    record {
      first = 32 * m + 31;
      more = s ++ 255 ∷ [];
      parts = e;
      is_first = record {
        major_type = inr (inl (omega arith, omega arith, remainder));
        argument = λ j lt e. absurd (omega arith);
        nests = λ ge hi. deep (omega arith);
      };
    }

string_starts : (v : Item) (is_text : Bool) (s b : List ℕ) → IsStringEncoding is_text s b → Starts v b
string_starts v false s b (inl h) = from_head v 2 b (omega arith) (headed_starts 2 (length s) s b h.1) (λ ge. absurd (omega arith))
string_starts v true s b (inl h) = from_head v 3 b (omega arith) (headed_starts 3 (length s) s b h.1) (λ ge. absurd (omega arith))
string_starts v false s b (inr h) = from_opening v 2 h.1 b (omega arith) (omega arith) h.4 (λ ge. absurd (omega arith))
string_starts v true s b (inr h) = from_opening v 3 h.1 b (omega arith) (omega arith) h.4 (λ ge. absurd (omega arith))

encoding_starts : (v : Item) (b : List ℕ) → IsEncoding v b → Starts v b
encoding_starts (integer (pos n)) b h = from_head (integer (pos n)) 0 b (omega arith) (head_starts 0 n b h) (λ ge. absurd (omega arith))
encoding_starts (integer (negsuc n)) b h = from_head (integer (negsuc n)) 1 b (omega arith) (head_starts 1 n b h) (λ ge. absurd (omega arith))
encoding_starts (bytes s) b h = string_starts (bytes s) false s b h
encoding_starts (float (half n)) b h = record {
  first = 0xF9;
  more = to_be_bytes w16 n;
  parts = h.1;
  is_first =
      record {
        major_type = inr (inr (inr (omega arith, omega arith)));
        argument =
            λ j lt e. sized 1 (to_be_bytes w16 n) refl (omega arith) j lt (omega arith);
        nests = λ ge hi. absurd (omega arith);
      };
}
encoding_starts (float (single n)) b h = record {
  first = 0xFA;
  more = to_be_bytes w32 n;
  parts = h.1;
  is_first =
      record {
        major_type = inr (inr (inr (omega arith, omega arith)));
        argument =
            λ j lt e. sized 2 (to_be_bytes w32 n) refl (omega arith) j lt (omega arith);
        nests = λ ge hi. absurd (omega arith);
      };
}
encoding_starts (float (double n)) b h = record {
  first = 0xFB;
  more = to_be_bytes w64 n;
  parts = h.1;
  is_first =
      record {
        major_type = inr (inr (inr (omega arith, omega arith)));
        argument =
            λ j lt e. sized 3 (to_be_bytes w64 n) refl (omega arith) j lt (omega arith);
        nests = λ ge hi. absurd (omega arith);
      };
}
encoding_starts (text s) b h = string_starts (text s) true s b h
encoding_starts (boolean false) b h = record {
  first = 0xF4;
  more = [];
  parts = h;
  is_first =
      record { major_type = inr (inr (inl (omega arith, omega arith))); argument = λ j lt e. absurd (omega arith); nests = λ ge hi. absurd (omega arith) };
}
encoding_starts (boolean true) b h = record {
  first = 0xF5;
  more = [];
  parts = h;
  is_first =
      record { major_type = inr (inr (inl (omega arith, omega arith))); argument = λ j lt e. absurd (omega arith); nests = λ ge hi. absurd (omega arith) };
}
encoding_starts null b h = record {
  first = 0xF6;
  more = [];
  parts = h;
  is_first =
      record { major_type = inr (inr (inl (omega arith, omega arith))); argument = λ j lt e. absurd (omega arith); nests = λ ge hi. absurd (omega arith) };
}
encoding_starts (tag n v) b h = from_head (tag n v) 6 b (omega arith) (headed_starts 6 n h.0 b h.2) (λ ge. omega arith)
encoding_starts (array vs) b (c, h, inl e) = from_head (array vs) 4 b (omega arith) (headed_starts 4 (items_count vs) c b e) (λ ge. omega arith)
encoding_starts (array vs) b (c, h, inr e) = from_opening (array vs) 4 c b (omega arith) (omega arith) e (λ ge. omega arith)
encoding_starts (dict ps) b (c, h, inl e) = from_head (dict ps) 5 b (omega arith) (headed_starts 5 (pairs_count ps) c b e) (λ ge. omega arith)
encoding_starts (dict ps) b (c, h, inr e) = from_opening (dict ps) 5 c b (omega arith) (omega arith) e (λ ge. omega arith)

-- If an item is read from t, t begins with an initial byte of that item.
pub read_starts : (d : ℕ) (t : List ℕ) (y : Item × List ℕ) → IsBytes t → item_at d t ≡ Ok y → (x : ℕ) × (more : List ℕ) × (t ≡ x ∷ more) × IsFirst y.0 x more
    × (depth y.0 ≤ d)
read_starts d t y fits e =
    let k = item_takes d t y fits e in
    let s = encoding_starts y.0 k.front k.encoding.0 in
    let f = s.is_first in (
      s.first,
      s.more ++ y.1,
      k.parts ∙ ap (λ (z : List ℕ). z ++ y.1) s.parts,
      record { major_type = f.major_type; argument = λ j lt is. let long = f.argument j lt is in omega (arith, length-append s.more y.1); nests = f.nests },
      k.encoding.1,
    )
