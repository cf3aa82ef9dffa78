-- If reading fails, the fault that it gives is in the bytes.
use Rattle.std.proofs.Common.{◌≡◌, ℕ, zero, suc, ◌+◌, ◌*◌, ◌/◌, ◌%◌, ◌^◌, ◌<◌, ◌≤◌, Bool, true, false, cond, ltb, eqb, List, [], ◌∷◌, ◌++◌, length, take}
use Rattle.std.proofs.Common.{Option, Some, None, Result, Ok, Err, refl, sym, ap, subst, ◌∙◌, append_assoc, arith, inl, inr, ◌⊎◌}
use Rattle.std.specs.Prelude.{pos, negsuc, not}
use Rattle.std.specs.Str.{IsUtf8}
use Rattle.std.proofs.lemmas.Bool.{ltb-false, eqb-true, eqb-false, cases_lt}
use Rattle.std.proofs.lemmas.Str.{is_utf8-from_IsUtf8}
use Rattle.std.proofs.lemmas.List.{length-append, append-nil}
use Rattle.coset_cbor.specs.declared.fault.Fault.{Fault}
use Rattle.coset_cbor.specs.declared.fault.Fault.TheVariants.{End, Syntax, Simple, Deep}
use Rattle.coset_cbor.specs.declared.head.MajorType.{MajorType}
use Rattle.coset_cbor.specs.declared.head.MajorType.TheVariants as major_types
use Rattle.coset_cbor.specs.Heads.{Argument, HeadView, major_type_number}
use Rattle.coset_cbor.specs.Heads as places
use Rattle.coset_value.specs.Item.{Item, integer, bytes, tag, array, dict, Items, no_items, item, items_count}
use Rattle.coset_value.specs.View.{items_of, pairs_of}
use Rattle.coset_cbor.specs.Grammar.{HeadWidth, within, one, two, four, eight, Holds, head_in, IsHead, IsHeaded, EachInOrder, joined_chunks, string_type}
use Rattle.coset_cbor.specs.Grammar.{IsDefinite, AreEncodings}
use Rattle.coset_cbor.specs.Reading.{◌>>=◌, Parse, major_type_of, number_of, argument_by, head_at, unless_none, is_string_content, string_at, begins_chunk}
use Rattle.coset_cbor.specs.Reading.{chunk_at, begins_break, times_at, until_at, chunks_at, any_string_by, pair_at, simple_at, Inside, nothing, things, item_by}
use Rattle.coset_cbor.specs.ReadHeads.{EndsInHead}
use Rattle.coset_cbor.specs.Reading.{item_from, item_at}
use Rattle.std.proofs.lemmas.Bool.{ltb-true, false≢true}
use Rattle.coset_cbor.specs.Faults.{is_even, Opens, in_array, in_map, in_tag, in_open_array, in_open_map, Due, at_start, innermost, outer, DueChunk, IsDue}
use Rattle.coset_cbor.specs.Faults.{LacksContent, Ends, HasReservedInfo, HasNoLength, IsLowSimple, BeginsBreak, NoItem, NoChunk}
use Rattle.coset_cbor.specs.Faults.{IsBadTextString, IsNotSupported}
use Rattle.coset_cbor.specs.Faults.{Nests, FaultAt}
use Rattle.coset_cbor.proofs.Again.{IsEncodingBelow, IsPairEncodingBelow, Begins, IsEncoding-begins, begins_append, IsHeaded-begins, type_low}
use Rattle.coset_cbor.proofs.Takes.{IsBytes, bind_ok, chosen, ok_is, chunk_type, option_cases, number_head, none_head, head_takes}
use Rattle.coset_cbor.proofs.Takes.{IsSoundReader, item_takes, chunk_takes, pair_takes, IsArgumentEncoding}

-- ---- steps that failed

abbrev pub failed : {A : Type 0} → Fault → Result A Fault
failed {A} f = Err f

fault_is : {A : Type 0} (f g : Fault) → failed {A = A} f ≡ failed {A = A} g → f ≡ g
fault_is f g e = cc

bind_err : {A B : Type 0} (r : Result A Fault) (f : A → Result B Fault) (d : Fault) → (r >>= f) ≡ Err d → (r ≡ Err d) ⊎ ((x : A) × (r ≡ Ok x) × (f x ≡ Err d))
bind_err (Ok x) f d e = inr (x, refl, e)
bind_err {A} {B} (Err g) f d e = inl (ap (λ (h : Fault). failed {A = A} h) (fault_is {A = B} g d e))

bind_made : {A B : Type 0} (r : Result A Fault) (f : A → B) (d : Fault) → (r >>= λ x. Ok (f x)) ≡ Err d → r ≡ Err d
bind_made (Ok x) f d e = absurd cc
bind_made {A} {B} (Err g) f d e = ap (λ (h : Fault). failed {A = A} h) (fault_is {A = B} g d e)

guard_err : {A : Type 0} (b : Bool) (f g : Fault) (x : A) → cond b (Err f) (Ok x) ≡ Err g → (b ≡ true) × (f ≡ g)
guard_err {A} true f g x e = (refl, fault_is {A = A} f g e)
guard_err false f g x e = absurd cc

-- ---- heads

abbrev pub HeadFault : List ℕ → Fault → Type 0
HeadFault s f = ((f ≡ End) × EndsInHead s) ⊎ ((f ≡ Syntax (length s)) × HasReservedInfo s)

ends_in_head : (s : List ℕ) → EndsInHead s → Ends s
ends_in_head s (inl none) = inl none
ends_in_head s (inr few) = inr (inl few)

lacks : (x k : ℕ) (s : List ℕ) (f : Fault) → k < 4 → x % 32 ≡ 24 + k → ltb (length s) (2 ^ k) ≡ true → End ≡ f → HeadFault (x ∷ s) f
lacks x k s f lt is least_encoding e = inl (sym e, inr (k, lt, is, ltb-true _ _ least_encoding))

argument_fault : (x : ℕ) (s : List ℕ) (f : Fault) → argument_by (x % 32) (suc (length s)) s ≡ Err f → HeadFault (x ∷ s) f
argument_fault x s f e =
    elim (chosen (ltb (x % 32) 24) _ _ _ e) [
      | inl a ↦ absurd (cc (a.1))
      | inr a ↦ elim (chosen (eqb (x % 32) 24) _ _ _ a.1) [
        | inl b ↦ let g = guard_err (ltb (length s) 1) End f _ b.1 in lacks x 0 s f (omega arith) (eqb-true _ _ b.0) g.0 g.1
        | inr b ↦ elim (chosen (eqb (x % 32) 25) _ _ _ b.1) [
          | inl c ↦ let g = guard_err (ltb (length s) 2) End f _ c.1 in lacks x 1 s f (omega arith) (eqb-true _ _ c.0) g.0 g.1
          | inr c ↦ elim (chosen (eqb (x % 32) 26) _ _ _ c.1) [
            | inl d ↦ let g = guard_err (ltb (length s) 4) End f _ d.1 in lacks x 2 s f (omega arith) (eqb-true _ _ d.0) g.0 g.1
            | inr d ↦ elim (chosen (eqb (x % 32) 27) _ _ _ d.1) [
              | inl h ↦ let g = guard_err (ltb (length s) 8) End f _ h.1 in lacks x 3 s f (omega arith) (eqb-true _ _ h.0) g.0 g.1
              | inr h ↦ elim (chosen (eqb (x % 32) 31) _ _ _ h.1) [
                | inl k ↦ absurd (cc (k.1))
                | inr k ↦
                    let ge : 24 ≤ x % 32 = ltb-false _ _ a.0 in
                    let n24 = eqb-false _ _ b.0 in
                    let n25 = eqb-false _ _ c.0 in
                    let n26 = eqb-false _ _ d.0 in
                    let n27 = eqb-false _ _ h.0 in
                    let n31 = eqb-false _ _ k.0 in
                    inr (sym (fault_is {A = Argument × List ℕ} (Syntax (suc (length s))) f k.1), (omega arith, omega arith))
              ]
            ]
          ]
        ]
      ]
    ]

pub head_fault : (s : List ℕ) (f : Fault) → head_at s ≡ Err f → HeadFault s f
unfolding head_at
head_fault [] f e = inl (sym (fault_is {A = HeadView × List ℕ} End f e), inl refl)
head_fault (x ∷ s) f e = argument_fault x s f (bind_made (argument_by (x % 32) (suc (length s)) s)
    (λ a. (record { major_type = major_type_of (x / 32); argument = a.0 }, a.1)) f e)

-- ---- a fault inside an open array, map or tag

record Nested (o c : List ℕ) (d : ℕ) (e f : Bool) : Type 0 where
  flag : Bool
  due : Due (o ++ c) (suc d) flag
  is : (flag ≡ e) ⊎ ((c ≡ []) × (flag ≡ f) × (e ≡ false))

due_nest : (o : List ℕ) (f : Bool) → Opens o f → (c : List ℕ) (d : ℕ) (e : Bool) → Due c d e → Nested o c d e f
due_nest o f p c d e at_start = record { flag = f; due = subst (λ (x : List ℕ). Due x 1 f) (sym (append-nil o)) (innermost o f p); is = inr (refl, refl, refl) }
due_nest o f p c d e (innermost q g r) = record { flag = g; due = outer o q 0 g f p (innermost q g r); is = inl refl }
due_nest o f p c d e (outer q k n g h r w) = record { flag = g; due = outer o (q ++ k) (suc n) g f p (outer q k n g h r w); is = inl refl }

chunk_nest : (o : List ℕ) (f : Bool) → Opens o f → (is_text : Bool) (c : List ℕ) → DueChunk is_text c → DueChunk is_text (o ++ c)
chunk_nest o f p is_text c h =
    let n = due_nest o f p h.before h.level h.flag h.due in
    record {
      before = o ++ h.before;
      level = suc h.level;
      flag = n.flag;
      due = n.due;
      chunks = h.chunks;
      encodings = h.encodings;
      are_chunks = h.are_chunks;
      parts = ap (λ (x : List ℕ). o ++ x) h.parts ∙ sym (append_assoc o h.before ((32 * string_type is_text + 31) ∷ h.encodings));
    }

is_due_nest : (o : List ℕ) (f : Bool) → Opens o f → (c : List ℕ) → IsDue c → IsDue (o ++ c)
is_due_nest o f p c (inl h) = let n = due_nest o f p c h.0 h.1 h.2 in inl (suc h.0, n.flag, n.due)
is_due_nest o f p c (inr h) = inr (h.0, chunk_nest o f p h.0 c h.1)

moved : (o c t s : List ℕ) → s ≡ c ++ t → o ++ s ≡ (o ++ c) ++ t
moved o c t s e = ap (λ (x : List ℕ). o ++ x) e ∙ sym (append_assoc o c t)

-- s does not begin with a break that may be there.
abbrev pub NoBreakAt : Bool → List ℕ → Type 0
NoBreakAt f s = (f ≡ false) ⊎ (begins_break s ≡ false)

breaks : (t : List ℕ) → BeginsBreak t → begins_break t ≡ true
breaks [] h = absurd h
breaks (x ∷ t) h = ap (λ (y : ℕ). eqb y 255) h

no_item_flag : (e f : Bool) (t : List ℕ) → NoBreakAt f t → NoItem e t → NoItem f t
no_item_flag e f t nb (inl h) = inl h
no_item_flag e f t nb (inr (inl h)) = inr (inl h)
no_item_flag e f t nb (inr (inr (inl h))) = inr (inr (inl h))
no_item_flag e f t (inl nb) (inr (inr (inr h))) = inr (inr (inr (h.0, nb)))
no_item_flag e f t (inr nb) (inr (inr (inr h))) = absurd (false≢true (sym nb ∙ breaks t h.0))

nest_item : (o : List ℕ) (f : Bool) → Opens o f → (s c t : List ℕ) → NoBreakAt f s → s ≡ c ++ t → (d : ℕ) (e : Bool) → Due c d e → NoItem e t → (k : ℕ)
    × (g : Bool) × Due (o ++ c) k g × NoItem g t
nest_item o f p s c t nb parts d e due h =
    let n = due_nest o f p c d e due in
    elim n.is [
      | inl same ↦ (suc d, n.flag, n.due, subst (λ (g : Bool). NoItem g t) (sym same) h)
      | inr start ↦
          let all : s ≡ t = parts ∙ ap (λ (x : List ℕ). x ++ t) start.0 in
          let none : NoBreakAt f t = subst (λ (x : List ℕ). NoBreakAt f x) all nb in
          (suc d, n.flag, n.due, subst (λ (g : Bool). NoItem g t) (sym start.1) (no_item_flag e f t none h))
    ]

pub nest : (d : ℕ) (o : List ℕ) (f : Bool) → Opens o f → (s : List ℕ) → NoBreakAt f s → (g : Fault) → FaultAt d s g → FaultAt (suc d) (o ++ s) g
nest d o f p s nb End h = (o ++ h.0, h.1, moved o h.0 h.1 s h.2, (is_due_nest o f p h.0 h.3.0, h.3.1))
nest d o f p s nb (Syntax left) (c, t, parts, len, inl h) = (o ++ c, t, moved o c t s parts, len, inl (nest_item o f p s c t nb parts h.0 h.1 h.2 h.3))
nest d o f p s nb (Syntax left) (c, t, parts, len, inr (inl h)) = (o ++ c, t, moved o c t s parts, len, inr (inl (h.0, chunk_nest o f p h.0 c h.1, h.2)))
nest d o f p s nb (Syntax left) (c, t, parts, len, inr (inr h)) = (o ++ c, t, moved o c t s parts, len, inr (inr (is_due_nest o f p c h.0, h.1)))
nest d o f p s nb (Simple left) h = let n = due_nest o f p h.0 h.4.0 h.4.1 h.4.2 in
    (o ++ h.0, h.1, moved o h.0 h.1 s h.2, h.3, (suc h.4.0, n.flag, n.due, h.4.3))
nest d o f p s nb Deep h = let n = due_nest o f p h.0 d h.3.0 h.3.1 in (o ++ h.0, h.1, moved o h.0 h.1 s h.2, (n.flag, n.due, h.3.2))

-- ---- strings

not_sound : (is_text : Bool) (s : List ℕ) → is_string_content is_text s ≡ false → (is_text ≡ true) × (IsUtf8 s → ⊥)
not_sound false s e = absurd cc
not_sound true s e = (refl, λ u. false≢true (sym e ∙ is_utf8-from_IsUtf8 s u))

-- A definite-length string at t: its head h, and then r.
string_fault : (d : ℕ) (is_text : Bool) (s c t h r : List ℕ) (n : ℕ) (f : Fault) → s ≡ c ++ t → IsDue c → t ≡ h ++ r → IsHead (string_type is_text) n h
    → string_at is_text (length t) n r ≡ Err f → FaultAt d s f
unfolding string_at
string_fault d is_text s c t h r n f parts due split head e =
    elim (chosen (ltb (length r) n) _ _ _ e) [
      | inl a ↦
          let least_encoding : length r < n = ltb-true _ _ a.0 in
          let lack : LacksContent t = record {
            m = string_type is_text;
            n = n;
            rest = r;
            headed = record { head = h; is_head = head; parts = split };
            lacks =
                inl (type_two is_text, type_four is_text, least_encoding);
          } in
          let is : End ≡ f = fault_is {A = List ℕ × List ℕ} End f a.1 in
          subst (λ (g : Fault). FaultAt d s g) is (c, t, parts, (due, inr (inr lack)))
      | inr a ↦
          let long : n ≤ length r = ltb-false _ _ a.0 in
          elim (chosen (is_string_content is_text (take n r)) _ _ _ a.1) [
            | inl b ↦ absurd (cc (b.1))
            | inr b ↦
                let bad = not_sound is_text (take n r) b.0 in
                let is : Syntax (length t) ≡ f = fault_is {A = List ℕ × List ℕ} (Syntax (length t)) f b.1 in
                let head3 : IsHead 3 n h = subst (λ (x : Bool). IsHead (string_type x) n h) bad.0 head in
                let bad_text : IsBadTextString t = record
                { n = n; rest = r; headed = record { head = h; is_head = head3; parts = split }; there = long; bad = bad.1 } in
                subst (λ (g : Fault). FaultAt d s g) is (c, t, parts, refl, inr (inr (due, bad_text)))
          ]
    ]
  where
    type_two : (b : Bool) → 2 ≤ string_type b
    type_two false = omega arith
    type_two true = omega arith

    type_four : (b : Bool) → string_type b ≤ 4
    type_four false = omega arith
    type_four true = omega arith

first_major_type : (x : ℕ) (t : List ℕ) (h : HeadView × List ℕ) → head_at (x ∷ t) ≡ Ok h → h.0.major_type ≡ major_type_of (x / 32)
unfolding head_at
first_major_type x t h e =
    let r = bind_ok (argument_by (x % 32) (suc (length t)) t) (λ a. Ok (record { major_type = major_type_of (x / 32); argument = a.0 }, a.1)) h e in
    let made : HeadView × List ℕ = (record { major_type = major_type_of (x / 32); argument = r.0.0 }, r.0.1) in
    ap (λ (y : HeadView × List ℕ). y.0.major_type) (sym (ok_is made h r.2))

begins_chunk-type : (is_text : Bool) → begins_chunk is_text (major_type_of (string_type is_text)) ≡ true
begins_chunk-type false = refl
begins_chunk-type true = refl

bad_info_no_chunk : (is_text : Bool) (t : List ℕ) → HasReservedInfo t → NoChunk is_text t
bad_info_no_chunk is_text [] h = h
bad_info_no_chunk is_text (x ∷ t) h =
    let low = h.0 in
    let high = h.1 in
    (λ e. omega arith, λ k. let le = k.1 in omega arith)

other_no_chunk : (is_text : Bool) (t : List ℕ) (h : HeadView × List ℕ) → begins_break t ≡ false → head_at t ≡ Ok h → begins_chunk is_text h.0.major_type ≡ false
    → NoChunk is_text t
unfolding head_at
other_no_chunk is_text [] h goes e other = absurd cc
other_no_chunk is_text (x ∷ t) h goes e other = (
  eqb-false x 255 goes,
  λ k.
      false≢true (sym other ∙ ap (begins_chunk is_text) (first_major_type x t h e ∙ ap major_type_of k.0) ∙ begins_chunk-type is_text),
)

none_no_chunk : (is_text : Bool) (t front more : List ℕ) (m : ℕ) → begins_break t ≡ false → t ≡ front ++ more → front ≡ (32 * m + 31) ∷ [] → NoChunk is_text t
none_no_chunk is_text t front more m goes parts is =
    let all : t ≡ (32 * m + 31) ∷ more = parts ∙ ap (λ (y : List ℕ). y ++ more) is in
    subst (λ (y : List ℕ). NoChunk is_text y) (sym all) (
      (eqb-false (32 * m + 31) 255 (sym (ap begins_break all) ∙ goes)),
      λ k. let le = k.1 in omega arith,
    )

chunk_fault : (d : ℕ) (is_text : Bool) (s c t : List ℕ) (f : Fault) → s ≡ c ++ t → DueChunk is_text c → IsBytes t → begins_break t ≡ false
    → chunk_at is_text t ≡ Err f → FaultAt d s f
unfolding chunk_at
chunk_fault d is_text s c t f parts due fits goes e =
    elim (bind_err (head_at t) (λ h. cond (begins_chunk is_text h.0.major_type)
    (unless_none (length t) (number_of h.0.argument) (λ n. string_at is_text (length t) n h.1)) (Err (Syntax (length t)))) f e) [
      | inl a ↦ elim (head_fault t f a) [
        | inl b ↦ subst (λ (g : Fault). FaultAt d s g) (sym b.0) (c, t, parts, (inr (is_text, due), ends_in_head t b.1))
        | inr b ↦ subst (λ (g : Fault). FaultAt d s g) (sym b.0) (c, t, parts, refl, inr (inl (is_text, due, bad_info_no_chunk is_text t b.1)))
      ]
      | inr a ↦
          let h = a.0 in
          let head = head_takes t h fits a.1 in
          let syntax = λ (bad : NoChunk is_text t) (is : Syntax (length t) ≡ f). subst (λ (g : Fault). FaultAt d s g) is
          (c, t, parts, refl, inr (inl (is_text, due, bad))) in
          elim (chosen (begins_chunk is_text h.0.major_type) _ _ _ a.2) [
            | inr b ↦ syntax (other_no_chunk is_text t h goes a.1 b.0) (fault_is {A = List ℕ × List ℕ} (Syntax (length t)) f b.1)
            | inl b ↦ elim (option_cases (number_of h.0.argument)) [
              | inl none ↦
                  syntax (none_no_chunk is_text t head.front h.1 (major_type_number h.0.major_type) goes head.parts
                  (none_head (major_type_number h.0.major_type) h.0.argument head.front head.encoding none))
                  (fault_is {A = List ℕ × List ℕ} (Syntax (length t)) f
                  (ap (λ (o : Option ℕ). unless_none (length t) o (λ n. string_at is_text (length t) n h.1)) (sym none) ∙ b.1))
              | inr some ↦
                  let is = number_head (major_type_number h.0.major_type) some.0 h.0.argument head.front head.encoding some.1 in
                  string_fault d is_text s c t head.front h.1 some.0 f parts (inr (is_text, due)) head.parts
                  (subst (λ (m : ℕ). IsHead m some.0 head.front) (chunk_type is_text h.0.major_type b.0) is)
                  (ap (λ (o : Option ℕ). unless_none (length t) o (λ n. string_at is_text (length t) n h.1)) (sym some.1) ∙ b.1)
            ]
          ]
    ]

-- ---- repetition

-- Repeated reading failed at `left`, after the elements `passed`.
pub record Stopped {A : Type 0} (R : A → List ℕ → Type 0) (s : List ℕ) : Type 0 where
  pub passed : List A
  pub front : List ℕ
  pub encodings : EachInOrder R passed front
  pub left : List ℕ
  pub parts : s ≡ front ++ left
  pub left_fits : IsBytes left

stopped_later : {A : Type 0} (R : A → List ℕ → Type 0) (s c t : List ℕ) (x : A) → R x c → s ≡ c ++ t → Stopped R t → Stopped R s
stopped_later R s c t x h parts p = record {
  passed = x ∷ p.passed;
  front = c ++ p.front;
  encodings = (c, p.front, h, p.encodings, refl);
  left = p.left;
  parts = parts ∙ ap (λ (y : List ℕ). c ++ y) p.parts ∙ sym (append_assoc c p.front p.left);
  left_fits = p.left_fits;
}

pub times_fault : {A : Type 0} (R : A → List ℕ → Type 0) (read : Parse A) → IsSoundReader R read → (n : ℕ) (s : List ℕ) (f : Fault) → IsBytes s
    → times_at read n s ≡ Err f → (p : Stopped R s) × (length p.passed < n) × (read p.left ≡ Err f)
unfolding times_at stopped_later
times_fault R read sound zero s f fits e = absurd cc
times_fault R read sound (suc n) s f fits e =
    elim (bind_err (read s) (λ x. times_at read n x.1 >>= λ xs. Ok (x.0 ∷ xs.0, xs.1)) f e) [
      | inl a ↦ (record { passed = []; front = []; encodings = refl; left = s; parts = refl; left_fits = fits }, omega arith, a)
      | inr a ↦
          let t = sound s a.0 fits a.1 in
          let later = times_fault R read sound n a.0.1 f t.rest_fits (bind_made (times_at read n a.0.1) (λ xs. (a.0.0 ∷ xs.0, xs.1)) f a.2) in
          let less = later.1 in
          (stopped_later R s t.front a.0.1 a.0.0 t.encoding t.parts later.0, omega arith, later.2)
    ]

pub until_fault : {A : Type 0} (R : A → List ℕ → Type 0) (read : Parse A) → IsSoundReader R read → ((x : A) (c : List ℕ) → R x c → Begins c)
    → (turns : ℕ) (s : List ℕ) (f : Fault) → IsBytes s → length s ≤ turns → until_at read turns s ≡ Err f
    → (p : Stopped R s) × (((p.left ≡ []) × (f ≡ End)) ⊎ ((begins_break p.left ≡ false) × (read p.left ≡ Err f)))
unfolding until_at stopped_later
until_fault {A} R read sound begins zero [] f fits le e =
    (record { passed = []; front = []; encodings = refl; left = []; parts = refl; left_fits = fits }, inl (refl, sym (fault_is {A = List A × List ℕ} End f e)))
until_fault R read sound begins zero (x ∷ s) f fits le e = absurd (omega arith)
until_fault {A} R read sound begins (suc turns) s f fits le e =
    elim (chosen (begins_break s) _ _ _ e) [
      | inl c ↦ absurd (cc (c.1))
      | inr c ↦ elim (bind_err (read s) (λ x. until_at read turns x.1 >>= λ xs. Ok (x.0 ∷ xs.0, xs.1)) f c.1) [
        | inl a ↦ (record { passed = []; front = []; encodings = refl; left = s; parts = refl; left_fits = fits }, inr (c.0, a))
        | inr a ↦
            let t = sound s a.0 fits a.1 in
            let g = begins a.0.0 t.front t.encoding in
            let some : length t.front ≡ suc (length g.more) = ap length g.parts in
            let size : length s ≡ length t.front + length a.0.1 = ap length t.parts ∙ length-append t.front a.0.1 in
            let later = until_fault R read sound begins turns a.0.1 f t.rest_fits (omega arith)
            (bind_made (until_at read turns a.0.1) (λ xs. (a.0.0 ∷ xs.0, xs.1)) f a.2) in
            (stopped_later R s t.front a.0.1 a.0.0 t.encoding t.parts later.0, later.1)
      ]
    ]

-- ---- enclosed items

abbrev pub Faults : ℕ → Parse Item → Type 0
Faults d read = (s : List ℕ) (f : Fault) → IsBytes s → read s ≡ Err f → FaultAt d s f

pub record InsideFaults (d : ℕ) (inside : Inside) : Type 0 where
  pub one : (t : ℕ) (h s : List ℕ) (f : Fault) → IsHead 6 t h → IsBytes s → inside.one s ≡ Err f → FaultAt d (h ++ s) f
  pub items : (n : ℕ) (h s : List ℕ) (f : Fault) → IsHead 4 n h → IsBytes s → inside.items (Some n) s ≡ Err f → FaultAt d (h ++ s) f
  pub items_until : (s : List ℕ) (f : Fault) → IsBytes s → inside.items None s ≡ Err f → FaultAt d (0x9F ∷ s) f
  pub pairs : (n : ℕ) (h s : List ℕ) (f : Fault) → IsHead 5 n h → IsBytes s → inside.pairs (Some n) s ≡ Err f → FaultAt d (h ++ s) f
  pub pairs_until : (s : List ℕ) (f : Fault) → IsBytes s → inside.pairs None s ≡ Err f → FaultAt d (0xBF ∷ s) f

width_nests : (p : HeadWidth) (m n : ℕ) (s : List ℕ) → 4 ≤ m → m ≤ 6 → Holds p n → Nests (head_in p m n ++ s)
width_nests within m n s low high h = (omega arith, omega arith)
width_nests one m n s low high h = (omega arith, omega arith)
width_nests two m n s low high h = (omega arith, omega arith)
width_nests four m n s low high h = (omega arith, omega arith)
width_nests eight m n s low high h = (omega arith, omega arith)

head_nests : (m n : ℕ) (h s : List ℕ) → 4 ≤ m → m ≤ 6 → IsHead m n h → Nests (h ++ s)
head_nests m n h s low high is = subst (λ (x : List ℕ). Nests (x ++ s)) (sym is.spelled) (width_nests is.width m n s low high is.holds)

too_deep : {A : Type 0} (s : List ℕ) (f : Fault) → Nests s → failed {A = A} Deep ≡ failed {A = A} f → FaultAt 0 s f
too_deep {A} s f nests e = subst (λ (g : Fault). FaultAt 0 s g) (fault_is {A = A} Deep f e) ([], s, refl, (false, at_start, nests))

nothing_faults : InsideFaults 0 nothing
unfolding nothing
nothing_faults = record {
  one = λ t h s f is fits e. too_deep {A = Item × List ℕ} (h ++ s) f (head_nests 6 t h s (omega arith) (omega arith) is) e;
  items = λ n h s f is fits e. too_deep {A = List Item × List ℕ} (h ++ s) f (head_nests 4 n h s (omega arith) (omega arith) is) e;
  items_until = λ s f fits e. too_deep {A = List Item × List ℕ} (0x9F ∷ s) f (omega arith, omega arith) e;
  pairs = λ n h s f is fits e. too_deep {A = List (Item × Item) × List ℕ} (h ++ s) f (head_nests 5 n h s (omega arith) (omega arith) is) e;
  pairs_until = λ s f fits e. too_deep {A = List (Item × Item) × List ℕ} (0xBF ∷ s) f (omega arith, omega arith) e;
}

encodings_of : (d : ℕ) (vs : List Item) (b : List ℕ) → EachInOrder (IsEncodingBelow d) vs b → AreEncodings (items_of vs) b
encodings_of d [] b h = h
encodings_of d (v ∷ vs) b h = (h.0, h.1, h.2.0, encodings_of d vs h.1 h.3, h.4)

count_of : (vs : List Item) → items_count (items_of vs) ≡ length vs
count_of [] = refl
count_of (v ∷ vs) = ap suc (count_of vs)

abbrev flat : List (Item × Item) → Items → Items
flat [] tail = tail
flat (p ∷ ps) tail = item p.0 (item p.1 (flat ps tail))

flat_encodings : (d : ℕ) (ps : List (Item × Item)) (tail : Items) (b c : List ℕ) → EachInOrder (IsPairEncodingBelow d) ps b → AreEncodings tail c
    → AreEncodings (flat ps tail) (b ++ c)
flat_encodings d [] tail b c h k = subst (λ (x : List ℕ). AreEncodings tail (x ++ c)) (sym h) k
flat_encodings d (p ∷ ps) tail b c h k =
    let q = h.2 in (
      q.0,
      q.1 ++ (h.1 ++ c),
      q.2.0,
      (q.1, h.1 ++ c, q.3.0, flat_encodings d ps tail h.1 c h.3 k, refl),
      ap (λ (x : List ℕ). x ++ c) (h.4 ∙ ap (λ (y : List ℕ). y ++ h.1) q.4) ∙ simp append_assoc,
    )

flat_count : (ps : List (Item × Item)) (tail : Items) → items_count (flat ps tail) ≡ 2 * length ps + items_count tail
flat_count [] tail = omega arith
flat_count (p ∷ ps) tail = let e = flat_count ps tail in omega arith

twice : (b : Bool) → not (not b) ≡ b
twice true = refl
twice false = refl

flat_even : (ps : List (Item × Item)) (tail : Items) → is_even (items_count (flat ps tail)) ≡ is_even (items_count tail)
flat_even [] tail = refl
flat_even (p ∷ ps) tail = twice (is_even (items_count (flat ps tail))) ∙ flat_even ps tail

opened : (h c : List ℕ) (m n : ℕ) → IsHead m n h → IsHeaded m n c (h ++ c)
opened h c m n is = record { head = h; is_head = is; parts = refl }

-- A fault after an opening and the elements that were read.
behind : (d : ℕ) (h s c t : List ℕ) (e : Bool) (f : Fault) → Opens (h ++ c) e → s ≡ c ++ t → NoBreakAt e t → FaultAt d t f → FaultAt (suc d) (h ++ s) f
behind d h s c t e f opens parts nb stands = subst (λ (x : List ℕ). FaultAt (suc d) x f) (sym (moved h c t s parts)) (nest d (h ++ c) e opens t nb f stands)

ends_there : (d : ℕ) (h s c t : List ℕ) (e : Bool) (f : Fault) → Opens (h ++ c) e → s ≡ c ++ t → t ≡ [] → f ≡ End → FaultAt (suc d) (h ++ s) f
ends_there d h s c t e f opens parts left is = subst (λ (g : Fault). FaultAt (suc d) (h ++ s) g) (sym is)
    (h ++ c, t, moved h c t s parts, (inl (1, e, innermost (h ++ c) e opens), inl left))

lacking : (d m n : ℕ) (h s : List ℕ) (f : Fault) → IsHead m n h → ((2 ≤ m) × (m ≤ 4) × (length s < n)) ⊎ ((m ≡ 5) × (length s < 2 * n)) → End ≡ f
    → FaultAt d (h ++ s) f
lacking d m n h s f is lack e = subst (λ (g : Fault). FaultAt d (h ++ s) g) e
    ([], h ++ s, refl, (inl (0, false, at_start), inr (inr (record { m = m; n = n; rest = s; headed = opened h s m n is; lacks = lack }))))

-- After some pairs, a key or a value cannot be read.
pair_fault : (d : ℕ) (read : Parse Item) → IsSoundReader (IsEncodingBelow (suc d)) read → Faults d read
    → (h s : List ℕ) (f : Fault) (p : Stopped (IsPairEncodingBelow (suc d)) s) (e : Bool)
    → ((vs : Items) (c : List ℕ) → AreEncodings vs c → items_count vs ≡ 2 * length p.passed → Opens (h ++ c) e) → NoBreakAt e p.left
    → ((vs : Items) (c : List ℕ) → AreEncodings vs c → items_count vs ≡ 2 * length p.passed + 1 → is_even (items_count vs) ≡ false → Opens (h ++ c) false)
    → pair_at read p.left ≡ Err f → FaultAt (suc d) (h ++ s) f
pair_fault d read sound faults h s f p e at_key nb at_value bad =
    elim (bind_err (read p.left) (λ k. read k.1 >>= λ v. Ok ((k.0, v.0), v.1)) f bad) [
      | inl a ↦
          let encodings : AreEncodings (flat p.passed no_items) (p.front ++ []) = flat_encodings (suc d) p.passed no_items p.front [] p.encodings refl in
          let encodings' : AreEncodings (flat p.passed no_items) p.front =
          subst (λ (x : List ℕ). AreEncodings (flat p.passed no_items) x) (append-nil p.front) encodings in
          let count : items_count (flat p.passed no_items) ≡ 2 * length p.passed = flat_count p.passed no_items ∙ omega arith in
          behind d h s p.front p.left e f (at_key (flat p.passed no_items) p.front encodings' count) p.parts nb (faults p.left f p.left_fits a)
      | inr a ↦
          let k = sound p.left a.0 p.left_fits a.1 in
          let failed_value = bind_made (read a.0.1) (λ v. ((a.0.0, v.0), v.1)) f a.2 in
          let tail : Items = item a.0.0 no_items in
          let tail_encoding : AreEncodings tail k.front = (k.front, [], k.encoding.0, refl, sym (append-nil k.front)) in
          let encodings = flat_encodings (suc d) p.passed tail p.front k.front p.encodings tail_encoding in
          let parts : s ≡ (p.front ++ k.front) ++ a.0.1 = p.parts ∙ ap (λ (x : List ℕ). p.front ++ x) k.parts ∙ sym (append_assoc p.front k.front a.0.1) in
          behind d h s (p.front ++ k.front) a.0.1 false f
          (at_value (flat p.passed tail) (p.front ++ k.front) encodings (flat_count p.passed tail) (flat_even p.passed tail)) parts (inl refl)
          (faults a.0.1 f k.rest_fits failed_value)
    ]

things_fault : (d : ℕ) (read : Parse Item) → IsSoundReader (IsEncodingBelow (suc d)) read → Faults d read → InsideFaults (suc d) (things read)
unfolding things
things_fault d read sound faults =
    let pairs_sound = pair_takes (suc d) read sound in
    record {
      one = λ t h s f is fits e. nest d h false (in_tag t h is) s (inl refl) f (faults s f fits e);
      items = λ n h s f is fits e. elim (chosen (ltb (length s) n) _ _ _ e) [
        | inl a ↦ lacking (suc d) 4 n h s f is (inl (omega arith, omega arith, ltb-true _ _ a.0)) (fault_is {A = List Item × List ℕ} End f a.1)
        | inr a ↦
            let p = times_fault (IsEncodingBelow (suc d)) read sound n s f fits a.1 in
            let less = p.1 in
            let count = count_of p.0.passed in
            behind d h s p.0.front p.0.left false f (in_array n (items_of p.0.passed) p.0.front (h ++ p.0.front) (omega arith)
            (encodings_of (suc d) p.0.passed p.0.front p.0.encodings) (opened h p.0.front 4 n is)) p.0.parts (inl refl)
            (faults p.0.left f p.0.left_fits p.2)
      ];
      items_until = λ s f fits e.
          let p = until_fault (IsEncodingBelow (suc d)) read sound (λ v c h. IsEncoding-begins v c h.0) (length s) s f fits (omega arith) e in
          let opens : Opens (0x9F ∷ p.0.front) true = in_open_array (items_of p.0.passed) p.0.front (encodings_of (suc d) p.0.passed p.0.front p.0.encodings) in
          elim p.1 [
            | inl a ↦ ends_there d (0x9F ∷ []) s p.0.front p.0.left true f opens p.0.parts a.0 a.1
            | inr a ↦ behind d (0x9F ∷ []) s p.0.front p.0.left true f opens p.0.parts (inr a.0) (faults p.0.left f p.0.left_fits a.1)
          ];
      pairs = λ n h s f is fits e. elim (chosen (ltb (length s / 2) n) _ _ _ e) [
        | inl a ↦ let less = ltb-true _ _ a.0 in lacking (suc d) 5 n h s f is (inr (refl, omega arith)) (fault_is {A = List (Item × Item) × List ℕ} End f a.1)
        | inr a ↦
            let p = times_fault (IsPairEncodingBelow (suc d)) (pair_at read) pairs_sound n s f fits a.1 in
            let less = p.1 in
            pair_fault d read sound faults h s f p.0 false (λ vs c t k. in_map n vs c (h ++ c) (omega arith) t (opened h c 5 n is)) (inl refl)
            (λ vs c t k odd. in_map n vs c (h ++ c) (omega arith) t (opened h c 5 n is)) p.2
      ];
      pairs_until = λ s f fits e.
          let p = until_fault (IsPairEncodingBelow (suc d)) (pair_at read) pairs_sound (λ v c h. begins_append h.0 h.1 c h.4 (IsEncoding-begins v.0 h.0 h.2.0))
          (length s) s f fits (omega arith) e in
          let encodings : AreEncodings (flat p.0.passed no_items) (p.0.front ++ []) =
          flat_encodings (suc d) p.0.passed no_items p.0.front [] p.0.encodings refl in
          let encodings' : AreEncodings (flat p.0.passed no_items) p.0.front =
          subst (λ (x : List ℕ). AreEncodings (flat p.0.passed no_items) x) (append-nil p.0.front) encodings in
          elim p.1 [
            | inl a ↦ ends_there d (0xBF ∷ []) s p.0.front p.0.left _ f (in_open_map (flat p.0.passed no_items) p.0.front encodings') p.0.parts a.0 a.1
            | inr a ↦ pair_fault d read sound faults (0xBF ∷ []) s f p.0 true
                (λ vs c t k. subst (λ (b : Bool). Opens (0xBF ∷ c) b) (ap is_even k ∙ even_double (length p.0.passed)) (in_open_map vs c t)) (inr a.0)
                (λ vs c t k odd. subst (λ (b : Bool). Opens (0xBF ∷ c) b) odd (in_open_map vs c t)) a.1
          ];
    }
  where
    even_double : (n : ℕ) → is_even (2 * n) ≡ true
    even_double zero = refl
    even_double (suc n) = let e : 2 * suc n ≡ suc (suc (2 * n)) = omega arith in ap is_even e ∙ twice (is_even (2 * n)) ∙ even_double n

-- ---- items

no_length : (d m : ℕ) (s front r : List ℕ) (f : Fault) → (m ≡ 0) ⊎ ((m ≡ 1) ⊎ (m ≡ 6)) → s ≡ front ++ r → front ≡ (32 * m + 31) ∷ [] → Syntax (length s) ≡ f
    → FaultAt d s f
no_length d m s front r f major_type parts is e =
    let all : s ≡ (32 * m + 31) ∷ r = parts ∙ ap (λ (y : List ℕ). y ++ r) is in
    let q : (32 * m + 31) / 32 ≡ m = omega arith in
    let bad : HasNoLength ((32 * m + 31) ∷ r) = (omega arith, subst (λ (k : ℕ). (k ≡ 0) ⊎ ((k ≡ 1) ⊎ (k ≡ 6))) (sym q) major_type) in
    subst (λ (g : Fault). FaultAt d s g) e ([], s, refl, refl, inl (0, false, at_start, inr (inl (subst (λ (y : List ℕ). HasNoLength y) (sym all) bad))))

number_fault : {A : Type 0} (d m : ℕ) (s front r : List ℕ) (f : Fault) (a : Argument) (read : ℕ → Result A Fault) → (m ≡ 0) ⊎ ((m ≡ 1) ⊎ (m ≡ 6))
    → s ≡ front ++ r → IsArgumentEncoding m a front
    → unless_none (length s) (number_of a) read ≡ Err f → ((n : ℕ) → IsHead m n front → read n ≡ Err f → FaultAt d s f) → FaultAt d s f
number_fault {A} d m s front r f a read major_type parts shown e later = elim (option_cases (number_of a)) [
  | inl none ↦ no_length d m s front r f major_type parts (none_head m a front shown none)
      (fault_is {A = A} (Syntax (length s)) f (ap (λ (o : Option ℕ). unless_none (length s) o read) (sym none) ∙ e))
  | inr some ↦ later some.0 (number_head m some.0 a front shown some.1) (ap (λ (o : Option ℕ). unless_none (length s) o read) (sym some.1) ∙ e)
]

any_string_fault : (d : ℕ) (is_text : Bool) (s front r : List ℕ) (f : Fault) (a : Argument) → IsBytes r → s ≡ front ++ r
    → IsArgumentEncoding (string_type is_text) a front → any_string_by is_text (length s) (number_of a) r ≡ Err f → FaultAt d s f
unfolding chunks_at
any_string_fault d is_text s front r f a fits parts shown e = elim (option_cases (number_of a)) [
  | inr some ↦
      string_fault d is_text s [] s front r some.0 f refl (inl (0, false, at_start)) parts (number_head (string_type is_text) some.0 a front shown some.1)
      (ap (λ (o : Option ℕ). any_string_by is_text (length s) o r) (sym some.1) ∙ e)
  | inl none ↦
      let e' : chunks_at is_text r ≡ Err f = ap (λ (o : Option ℕ). any_string_by is_text (length s) o r) (sym none) ∙ e in
      let p = until_fault (IsDefinite is_text) (chunk_at is_text) (chunk_takes is_text)
      (λ v c h. IsHeaded-begins (string_type is_text) (length v) v c (type_low is_text) h.1) (length r) r f fits (omega arith)
      (bind_made (until_at (chunk_at is_text) (length r) r) (λ y. (joined_chunks y.0, y.1)) f e') in
      let first = 32 * string_type is_text + 31 in
      let c = first ∷ p.0.front in
      let due : DueChunk is_text c = record {
        before = [];
        level = 0;
        flag = false;
        due = at_start;
        chunks = p.0.passed;
        encodings = p.0.front;
        are_chunks =
            p.0.encodings;
        parts = refl;
      } in
      let all : s ≡ c ++ p.0.left = parts ∙ ap (λ (y : List ℕ). y ++ r) (none_head (string_type is_text) a front shown none)
      ∙ ap (λ (y : List ℕ). first ∷ y) p.0.parts in
      elim p.1 [
        | inl b ↦ subst (λ (g : Fault). FaultAt d s g) (sym b.1) (c, p.0.left, all, (inr (is_text, due), inl b.0))
        | inr b ↦ chunk_fault d is_text s c p.0.left f all due p.0.left_fits b.0 b.1
      ]
]

simple_first : (p : HeadWidth) (n : ℕ) (s front r : List ℕ) → s ≡ front ++ r → front ≡ head_in p 7 n → s ≡ head_in p 7 n ++ r
simple_first p n s front r parts is = parts ∙ ap (λ (y : List ℕ). y ++ r) is

not_supported : (d : ℕ) (s : List ℕ) (f : Fault) → IsNotSupported s → Simple (length s) ≡ f → FaultAt d s f
not_supported d s f bad e = subst (λ (g : Fault). FaultAt d s g) e ([], s, refl, refl, (0, false, at_start, bad))

no_item : (d : ℕ) (s : List ℕ) (f : Fault) → NoItem false s → Syntax (length s) ≡ f → FaultAt d s f
no_item d s f bad e = subst (λ (g : Fault). FaultAt d s g) e ([], s, refl, refl, inl (0, false, at_start, bad))

simple_fault : (d : ℕ) (s front r : List ℕ) (f : Fault) (a : Argument) → s ≡ front ++ r → IsArgumentEncoding 7 a front → simple_at (length s) a r ≡ Err f
    → FaultAt d s f
simple_fault d s front r f (places.Within n) parts h e =
    elim (chosen (eqb n 20) _ _ _ e) [
      | inl a ↦ absurd (cc (a.1))
      | inr a ↦ elim (chosen (eqb n 21) _ _ _ a.1) [
        | inl b ↦ absurd (cc (b.1))
        | inr b ↦ elim (chosen (eqb n 22) _ _ _ b.1) [
          | inl c ↦ absurd (cc (c.1))
          | inr c ↦
              let all : s ≡ (224 + n) ∷ r = simple_first within n s front r parts h.1 in
              let n20 = eqb-false n 20 a.0 in
              let n21 = eqb-false n 21 b.0 in
              let n22 = eqb-false n 22 c.0 in
              let lt = h.0 in
              let bad : IsNotSupported ((224 + n) ∷ r) = elim (cases_lt n 20) [
                | inl low ↦ inl (omega arith, omega arith)
                | inr high ↦ inr (inl (omega arith))
              ] in
              not_supported d s f (subst (λ (y : List ℕ). IsNotSupported y) (sym all) bad) (fault_is {A = Item × List ℕ} (Simple (length s)) f c.1)
        ]
      ]
    ]
simple_fault d s front r f (places.One n) parts h e =
    let all : s ≡ 0xF8 ∷ ((n % 256) ∷ r) = simple_first one n s front r parts h.1 in
    let lt = h.0 in
    let same : n % 256 ≡ n = omega arith in
    elim (chosen (ltb n 32) _ _ _ e) [
      | inl a ↦
          let low = ltb-true n 32 a.0 in
          let bad : IsLowSimple (0xF8 ∷ ((n % 256) ∷ r)) = (refl, omega arith) in
          no_item d s f (inr (inr (inl (subst (λ (y : List ℕ). IsLowSimple y) (sym all) bad)))) (fault_is {A = Item × List ℕ} (Syntax (length s)) f a.1)
      | inr a ↦
          let high = ltb-false n 32 a.0 in
          let bad : IsNotSupported (0xF8 ∷ ((n % 256) ∷ r)) = inr (inr (refl, n % 256, r, refl, omega arith)) in
          not_supported d s f (subst (λ (y : List ℕ). IsNotSupported y) (sym all) bad) (fault_is {A = Item × List ℕ} (Simple (length s)) f a.1)
    ]
simple_fault d s front r f (places.Two n) parts h e = absurd cc
simple_fault d s front r f (places.Four n) parts h e = absurd cc
simple_fault d s front r f (places.Eight n) parts h e = absurd cc
simple_fault d s front r f places.Indefinite parts h e =
    let all : s ≡ 255 ∷ r = parts ∙ ap (λ (y : List ℕ). y ++ r) h in
    let bad : BeginsBreak (255 ∷ r) = refl in
    no_item d s f (inr (inr (inr (subst (λ (y : List ℕ). BeginsBreak y) (sym all) bad, refl)))) (fault_is {A = Item × List ℕ} (Syntax (length s)) f e)

by_fault : (d : ℕ) (inside : Inside) → InsideFaults d inside → (s front r : List ℕ) (f : Fault) (a : Argument) (k : MajorType) → IsBytes r → s ≡ front ++ r
    → IsArgumentEncoding (major_type_number k) a front → item_by inside (length s) a k r ≡ Err f → FaultAt d s f
by_fault d inside inner s front r f a major_types.Unsigned fits parts h e =
    number_fault d 0 s front r f a (λ n. Ok (integer (pos n), r)) (inl refl) parts h e (λ n is bad. absurd cc)
by_fault d inside inner s front r f a major_types.Negative fits parts h e =
    number_fault d 1 s front r f a (λ n. Ok (integer (negsuc n), r)) (inr (inl refl)) parts h e (λ n is bad. absurd cc)
by_fault d inside inner s front r f a major_types.Bytes fits parts h e =
    any_string_fault d false s front r f a fits parts h (bind_made (any_string_by false (length s) (number_of a) r) (λ y. (bytes y.0, y.1)) f e)
by_fault d inside inner s front r f a major_types.Text fits parts h e =
    any_string_fault d true s front r f a fits parts h (bind_made (any_string_by true (length s) (number_of a) r) (λ y. (Item.text y.0, y.1)) f e)
by_fault d inside inner s front r f a major_types.Array fits parts h e =
    let e' = bind_made (inside.items (number_of a) r) (λ y. (array (items_of y.0), y.1)) f e in
    elim (option_cases (number_of a)) [
      | inl none ↦
          let all : s ≡ 0x9F ∷ r = parts ∙ ap (λ (y : List ℕ). y ++ r) (none_head 4 a front h none) in
          subst (λ (y : List ℕ). FaultAt d y f) (sym all) (inner.items_until r f fits (ap (λ (o : Option ℕ). inside.items o r) (sym none) ∙ e'))
      | inr some ↦
          subst (λ (y : List ℕ). FaultAt d y f) (sym parts)
          (inner.items some.0 front r f (number_head 4 some.0 a front h some.1) fits (ap (λ (o : Option ℕ). inside.items o r) (sym some.1) ∙ e'))
    ]
by_fault d inside inner s front r f a major_types.Map fits parts h e =
    let e' = bind_made (inside.pairs (number_of a) r) (λ y. (dict (pairs_of y.0), y.1)) f e in
    elim (option_cases (number_of a)) [
      | inl none ↦
          let all : s ≡ 0xBF ∷ r = parts ∙ ap (λ (y : List ℕ). y ++ r) (none_head 5 a front h none) in
          subst (λ (y : List ℕ). FaultAt d y f) (sym all) (inner.pairs_until r f fits (ap (λ (o : Option ℕ). inside.pairs o r) (sym none) ∙ e'))
      | inr some ↦
          subst (λ (y : List ℕ). FaultAt d y f) (sym parts)
          (inner.pairs some.0 front r f (number_head 5 some.0 a front h some.1) fits (ap (λ (o : Option ℕ). inside.pairs o r) (sym some.1) ∙ e'))
    ]
by_fault d inside inner s front r f a major_types.Tag fits parts h e =
    number_fault d 6 s front r f a (λ n. inside.one r >>= λ y. Ok (tag n y.0, y.1)) (inr (inr refl)) parts h e (λ n is bad.
    subst (λ (y : List ℕ). FaultAt d y f) (sym parts) (inner.one n front r f is fits (bind_made (inside.one r) (λ y. (tag n y.0, y.1)) f bad)))
by_fault d inside inner s front r f a major_types.Simple fits parts h e = simple_fault d s front r f a parts h e

from_fault : (d : ℕ) (inside : Inside) → InsideFaults d inside → Faults d (item_from inside)
from_fault d inside inner s f fits e =
    elim (bind_err (head_at s) (λ h. item_by inside (length s) h.0.argument h.0.major_type h.1) f e) [
      | inl a ↦ elim (head_fault s f a) [
        | inl b ↦ subst (λ (g : Fault). FaultAt d s g) (sym b.0) ([], s, refl, (inl (0, false, at_start), ends_in_head s b.1))
        | inr b ↦ no_item d s f (inl b.1) (sym b.0)
      ]
      | inr a ↦
          let h = head_takes s a.0 fits a.1 in
          by_fault d inside inner s h.front a.0.1 f a.0.0.argument a.0.0.major_type h.rest_fits h.parts h.encoding a.2
    ]

sound_below : (d : ℕ) → IsSoundReader (IsEncodingBelow (suc d)) (item_at d)
sound_below d s x fits e =
    let t = item_takes d s x fits e in
    let le = t.encoding.1 in
    record { front = t.front; encoding = (t.encoding.0, omega arith); parts = t.parts; rest_fits = t.rest_fits }

-- If reading an item fails, the fault that it gives is in the bytes.
pub item_fault : (d : ℕ) → Faults d (item_at d)
unfolding item_at
item_fault zero s f fits e = from_fault 0 nothing nothing_faults s f fits e
item_fault (suc d) s f fits e = from_fault (suc d) (things (item_at d))
    (things_fault d (item_at d) (sound_below d) (λ s f fits e. item_fault d s f fits e)) s f fits e
