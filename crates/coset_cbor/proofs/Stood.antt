-- If a fault is in bytes, no prefix of them is an item. In a proper prefix of an item, the only fault is the early end.
use Rattle.std.proofs.Common.{◌≡◌, ◌≢◌, ℕ, zero, suc, ◌+◌, ◌*◌, ◌/◌, ◌%◌, ◌^◌, ◌<◌, ◌≤◌, Bool, true, false, cond, ltb, List, [], ◌∷◌, ◌++◌, length, take, drop}
use Rattle.std.proofs.Common.{Option, Some, None, Result, Ok, Err, refl, sym, ap, subst, ◌∙◌, append_assoc, arith, inl, inr, ◌⊎◌}
use Rattle.std.specs.Str.{IsUtf8}
use Rattle.std.proofs.lemmas.Bool.{ltb-false, ne_eqb, false≢true}
use Rattle.std.proofs.lemmas.Str.{IsUtf8-from_is_utf8}
use Rattle.std.proofs.lemmas.List.{length-append, append-nil, take-append-le}
use Rattle.coset_value.specs.Item.{Item, depth, bytes, array, dict}
use Rattle.coset_value.specs.View.{items_of, pairs_of}
use Rattle.coset_cbor.specs.declared.fault.Fault.{Fault}
use Rattle.coset_cbor.specs.declared.fault.Fault.TheVariants.{End, Syntax}
use Rattle.coset_cbor.specs.declared.de.EndOfFile.{EndOfFile}
use Rattle.coset_cbor.specs.declared.de.Error.{Error}
use Rattle.coset_cbor.specs.declared.de.Error.TheVariants as errors
use Rattle.coset_cbor.specs.declared.head.MajorType.TheVariants as major_types
use Rattle.coset_cbor.specs.Heads.{Argument, HeadView}
use Rattle.coset_cbor.specs.Heads as places
use Rattle.coset_cbor.specs.Grammar.{IsHeaded, EachInOrder, IsDefinite, joined_chunks, string_type, IsItem}
use Rattle.coset_cbor.specs.Faults.{Due, DueChunk, LacksArgument, LacksContent, Ends, NoItem, NoChunk, IsBadTextString, IsNotSupported, Nests}
use Rattle.coset_cbor.specs.ReadErrors.{IsMemory, FaultIn}
use Rattle.coset_cbor.specs.Prefixes.{HasNoItem, IsEndOfInput}
use Rattle.coset_cbor.specs.Reading.{◌>>=◌, major_type_of, number_of, head_at, unless_none, is_string_content, string_at, begins_chunk, chunk_at, begins_break}
use Rattle.coset_cbor.specs.Reading.{until_at, chunks_at, any_string_by, times_at, pair_at, Inside, nothing, things, item_by, item_at}
use Rattle.coset_cbor.proofs.Again.{IsHeaded-begins, IsHead-again, opening_again, head_of, no_break, regroup, chunk_again, chunk_reads, item_again}
use Rattle.coset_cbor.proofs.Takes.{IsBytes, bind_ok, ok_is, guard_ok, guard_else, some_ok, chosen, chunk_takes}
use Rattle.coset_cbor.proofs.Blocks.{NoRead, IsBlocked, IsBytes-append, due_blocked, no_read_below, read_starts, IsFirst, HeadStarts, headed_starts}

-- ---- the bytes from a fault on, if an item is due

abbrev rest_of : List ℕ → List ℕ
rest_of [] = []
rest_of (x ∷ s) = s

abbrev first_of : List ℕ → ℕ
first_of [] = 0
first_of (x ∷ s) = x

-- If no item can begin with x before t, nothing is read from x ∷ t.
first_blocked : (e : Bool) (x : ℕ) (t : List ℕ) → IsBytes (x ∷ t) → x ≢ 255 → ((d : ℕ) (v : Item) → IsFirst v x t → depth v ≤ d → ⊥) → (d : ℕ)
    → IsBlocked e d (x ∷ t)
first_blocked e x t fits other bad d = (
  λ y is.
      let s = read_starts d (x ∷ t) y fits is in
      let first : x ≡ s.0 = ap first_of s.2 in
      let more : t ≡ s.1 = ap rest_of s.2 in
      bad d y.0 (subst (λ (z : ℕ). IsFirst y.0 z t) (sym first) (subst (λ (z : List ℕ). IsFirst y.0 s.0 z) (sym more) s.3)) s.4,
  λ even. ne_eqb x 255 other,
)

major_type_bad : (v : Item) (x : ℕ) (t : List ℕ) → IsFirst v x t
    → ((x / 32 ≤ 6) × (x % 32 ≤ 27) → ⊥) → ((2 ≤ x / 32) × (x / 32 ≤ 5) × (x % 32 ≡ 31) → ⊥) → ((244 ≤ x) × (x ≤ 246) → ⊥) → ((249 ≤ x) × (x ≤ 251) → ⊥) → ⊥
major_type_bad v x t f a b c d = elim f.major_type [
  | inl h ↦ a h
  | inr (inl h) ↦ b h
  | inr (inr (inl h)) ↦ c h
  | inr (inr (inr h)) ↦ d h
]

no_item_blocked : (e : Bool) (t : List ℕ) → IsBytes t → NoItem e t → (d : ℕ) → IsBlocked e d t
no_item_blocked e [] fits (inl h) d = absurd h
no_item_blocked e (x ∷ t) fits (inl h) d =
    let low = h.0 in
    let high = h.1 in
    first_blocked e x t fits (λ is. omega arith) (λ d v f le. major_type_bad v x t f (λ k. let a = k.1 in omega arith) (λ k. let a = k.2 in omega arith)
    (λ k. let a = k.0 in let b = k.1 in omega arith) (λ k. let a = k.0 in let b = k.1 in omega arith)) d
no_item_blocked e [] fits (inr (inl h)) d = absurd h
no_item_blocked e (x ∷ t) fits (inr (inl h)) d =
    let info = h.0 in
    let types : (x / 32 ≤ 1) ⊎ (x / 32 ≡ 6) = elim h.1 [ inl a ↦ inl (omega arith) | inr (inl a) ↦ inl (omega arith) | inr (inr a) ↦ inr a ] in
    first_blocked e x t fits (λ is. elim types [ inl a ↦ omega arith | inr a ↦ omega arith ])
    (λ d v f le. major_type_bad v x t f (λ k. let a = k.1 in omega arith)
    (λ k. let a = k.0 in let b = k.1 in elim types [ inl c ↦ omega arith | inr c ↦ omega arith ]) (λ k. let a = k.0 in let b = k.1 in omega arith)
    (λ k. let a = k.0 in let b = k.1 in omega arith)) d
no_item_blocked e [] fits (inr (inr (inl h))) d = absurd h
no_item_blocked e (x ∷ []) fits (inr (inr (inl h))) d = absurd h
no_item_blocked e (x ∷ y ∷ t) fits (inr (inr (inl h))) d =
    let is = h.0 in
    first_blocked e x (y ∷ t) fits (λ e. omega arith) (λ d v f le. major_type_bad v x (y ∷ t) f (λ k. let a = k.0 in omega arith)
    (λ k. let a = k.1 in omega arith) (λ k. let a = k.1 in omega arith) (λ k. let a = k.0 in omega arith)) d
no_item_blocked e [] fits (inr (inr (inr h))) d = absurd h.0
no_item_blocked e (x ∷ t) fits (inr (inr (inr h))) d = (
  λ y is.
      let s = read_starts d (x ∷ t) y fits is in
      let first : s.0 ≡ 255 = sym (ap first_of s.2) ∙ h.0 in
      major_type_bad y.0 s.0 s.1 s.3 (λ k. let a = k.0 in omega arith) (λ k. let a = k.1 in omega arith) (λ k. let a = k.1 in omega arith)
      (λ k. let a = k.1 in omega arith),
  λ even. absurd (false≢true (sym h.1 ∙ even)),
)

not_supported_blocked : (e : Bool) (t : List ℕ) → IsBytes t → IsNotSupported t → (d : ℕ) → IsBlocked e d t
not_supported_blocked e [] fits h d = absurd h
not_supported_blocked e (x ∷ t) fits h d =
    let range : ((224 ≤ x) × (x ≤ 243)) ⊎ ((247 ≤ x) × (x ≤ 248)) =
    elim h [ inl a ↦ inl a | inr (inl a) ↦ inr (omega arith, omega arith) | inr (inr a) ↦ let is = a.0 in inr (omega arith, omega arith) ] in
    elim range [
      | inl r ↦ let lo = r.0 in let hi = r.1 in first_blocked e x t fits (λ e. omega arith)
          (λ d v f le. major_type_bad v x t f (λ k. let a = k.0 in omega arith) (λ k. let a = k.1 in omega arith) (λ k. let a = k.0 in omega arith)
          (λ k. let a = k.0 in omega arith)) d
      | inr r ↦ let lo = r.0 in let hi = r.1 in first_blocked e x t fits (λ e. omega arith)
          (λ d v f le. major_type_bad v x t f (λ k. let a = k.0 in omega arith) (λ k. let a = k.1 in omega arith) (λ k. let a = k.1 in omega arith)
          (λ k. let a = k.0 in omega arith)) d
    ]

nests_blocked : (e : Bool) (t : List ℕ) → IsBytes t → Nests t → IsBlocked e 0 t
nests_blocked e [] fits h = absurd h
nests_blocked e (x ∷ t) fits h = let lo = h.0 in let hi = h.1 in (
  λ y is.
      let s = read_starts 0 (x ∷ t) y fits is in
      let first : x ≡ s.0 = ap first_of s.2 in
      let deep = s.3.nests (omega arith) (omega arith) in
      let flat = s.4 in
      omega arith,
  λ even. ne_eqb x 255 (λ is. omega arith),
)

nothing_blocked : (e : Bool) (d : ℕ) → IsBlocked e d []
nothing_blocked e d = (λ y is. let s = read_starts d [] y (λ i. omega arith) is in differ s.0 s.1 s.2, λ even. refl)
  where
    differ : (x : ℕ) (s : List ℕ) → ◌≡◌ {A = List ℕ} [] (x ∷ s) → ⊥
    differ x s e = cc

argument_blocked : (e : Bool) (t : List ℕ) → IsBytes t → LacksArgument t → (d : ℕ) → IsBlocked e d t
argument_blocked e [] fits h d = absurd h
argument_blocked e (x ∷ t) fits h d =
    let k = h.0 in
    let low = h.1 in
    let info = h.2 in
    let least_encoding = h.3 in
    first_blocked e x t fits (λ is. omega arith) (λ d v f le. let long = f.argument k low info in omega arith) d

-- A definite-length string whose content is missing or is not UTF-8.
abbrev NoString : Bool → ℕ → List ℕ → Type 0
NoString is_text n r = (left : ℕ) (x : List ℕ × List ℕ) → string_at is_text left n r ≡ Ok x → ⊥

short_string : (is_text : Bool) (n : ℕ) (r : List ℕ) → length r < n → NoString is_text n r
unfolding string_at
short_string is_text n r least_encoding left x e =
    let g = guard_ok (ltb (length r) n) End (cond (is_string_content is_text (take n r)) (Ok (take n r, drop n r)) (Err (Syntax left))) x e in
    let long : n ≤ length r = ltb-false _ _ g.0 in
    omega arith

bad_string : (n : ℕ) (r : List ℕ) → (IsUtf8 (take n r) → ⊥) → NoString true n r
unfolding string_at
bad_string n r bad left x e =
    let g = guard_ok (ltb (length r) n) End (cond (is_string_content true (take n r)) (Ok (take n r, drop n r)) (Err (Syntax left))) x e in
    let h = guard_else (is_string_content true (take n r)) (Syntax left) (Ok (take n r, drop n r)) x g.1 in
    bad (IsUtf8-from_is_utf8 (take n r) h.0)

-- A head, and the result of reading it.
record HeadIs (m n : ℕ) (t rest : List ℕ) : Type 0 where
  argument : Argument
  reads : head_at t ≡ Ok (head_of m argument, rest)
  number : number_of argument ≡ Some n

head_is : (m n : ℕ) (rest t : List ℕ) → IsHeaded m n rest t → HeadIs m n t rest
head_is m n rest t h =
    let r = IsHead-again m n h.head rest h.is_head in
    record { argument = r.argument; reads = ap head_at h.parts ∙ r.reads; number = r.number }

string_by_blocked : (is_text : Bool) (left n : ℕ) (o : Option ℕ) (s : List ℕ) (f : List ℕ → Item) (y : Item × List ℕ) → o ≡ Some n → NoString is_text n s
    → (any_string_by is_text left o s >>= λ x. Ok (f x.0, x.1)) ≡ Ok y → ⊥
string_by_blocked is_text left n o s f y num never e =
    let r = bind_ok (any_string_by is_text left o s) (λ x. Ok (f x.0, x.1)) y e in
    never left r.0 (ap (λ (k : Option ℕ). any_string_by is_text left k s) (sym num) ∙ r.1)

-- An array's elements or a map's pairs that the bytes cannot contain.
record NoElements (n : ℕ) (s : List ℕ) (inside : Inside) : Type 0 where
  items : length s < n → (x : List Item × List ℕ) → inside.items (Some n) s ≡ Ok x → ⊥
  pairs : length s < 2 * n → (x : List (Item × Item) × List ℕ) → inside.pairs (Some n) s ≡ Ok x → ⊥

nothing_elements : (n : ℕ) (s : List ℕ) → NoElements n s nothing
unfolding nothing
nothing_elements n s = record { items = λ lt x e. cc; pairs = λ lt x e. cc }

things_elements : (n : ℕ) (s : List ℕ) (d : ℕ) → NoElements n s (things (item_at d))
unfolding things
things_elements n s d = record {
  items = λ lt x e.
      let g = guard_ok (ltb (length s) n) End (times_at (item_at d) n s) x e in
      let long : n ≤ length s = ltb-false _ _ g.0 in
      omega arith;
  pairs = λ lt x e.
      let g = guard_ok (ltb (length s / 2) n) End (times_at (pair_at (item_at d)) n s) x e in
      let long : n ≤ length s / 2 = ltb-false _ _ g.0 in
      omega arith;
}

lacks_by : (inside : Inside) (left m n : ℕ) (a : Argument) (s : List ℕ) (y : Item × List ℕ) → NoElements n s inside → number_of a ≡ Some n
    → ((2 ≤ m) × (m ≤ 4) × (length s < n)) ⊎ ((m ≡ 5) × (length s < 2 * n)) → item_by inside left a (major_type_of m) s ≡ Ok y → ⊥
lacks_by inside left (suc (suc zero)) n a s y none num (inl h) e = string_by_blocked false left n (number_of a) s bytes y num (short_string false n s h.2) e
lacks_by inside left (suc (suc (suc zero))) n a s y none num (inl h) e =
    string_by_blocked true left n (number_of a) s Item.text y num (short_string true n s h.2) e
lacks_by inside left (suc (suc (suc (suc zero)))) n a s y none num (inl h) e =
    let r = bind_ok (inside.items (number_of a) s) (λ x. Ok (array (items_of x.0), x.1)) y e in
    none.items h.2 r.0 (ap (λ (k : Option ℕ). inside.items k s) (sym num) ∙ r.1)
lacks_by inside left zero n a s y none num (inl h) e = let lo = h.0 in omega arith
lacks_by inside left (suc zero) n a s y none num (inl h) e = let lo = h.0 in omega arith
lacks_by inside left (suc (suc (suc (suc (suc m))))) n a s y none num (inl h) e = let hi = h.1 in omega arith
lacks_by inside left m n a s y none num (inr h) e =
    let whole : item_by inside left a major_types.Map s ≡ Ok y = ap (λ (k : ℕ). item_by inside left a (major_type_of k) s) (sym h.0) ∙ e in
    let r = bind_ok (inside.pairs (number_of a) s) (λ x. Ok (dict (pairs_of x.0), x.1)) y whole in
    none.pairs h.1 r.0 (ap (λ (k : Option ℕ). inside.pairs k s) (sym num) ∙ r.1)

-- Reading an item reads its head and then the rest.
with_head : (d : ℕ) (t : List ℕ) (h : HeadView × List ℕ) (y : Item × List ℕ) → head_at t ≡ Ok h → item_at d t ≡ Ok y
    → ((item_by nothing (length t) h.0.argument h.0.major_type h.1 ≡ Ok y)
    ⊎ ((c : ℕ) × (item_by (things (item_at c)) (length t) h.0.argument h.0.major_type h.1 ≡ Ok y)))
unfolding item_at
with_head zero t h y e is = inl (sym (ap (λ (r : Result (HeadView × List ℕ) Fault). r >>= λ x. item_by nothing (length t) x.0.argument x.0.major_type x.1) e)
    ∙ is)
with_head (suc d) t h y e is = inr (
  d,
  sym (ap (λ (r : Result (HeadView × List ℕ) Fault). r >>= λ x. item_by (things (item_at d))
      (length t) x.0.argument x.0.major_type x.1) e) ∙ is,
)

content_blocked : (e : Bool) (t : List ℕ) → LacksContent t → (d : ℕ) → IsBlocked e d t
content_blocked e t h d = (
  λ y is.
      let r = head_is h.m h.n h.rest t h.headed in
      elim (with_head d t (head_of h.m r.argument, h.rest) y r.reads is) [
        | inl w ↦ lacks_by nothing (length t) h.m h.n r.argument h.rest y (nothing_elements h.n h.rest) r.number h.lacks w
        | inr w ↦ lacks_by (things (item_at w.0)) (length t) h.m h.n r.argument h.rest y (things_elements h.n h.rest w.0) r.number h.lacks w.1
      ],
  λ even. starts_no_break t h,
)
  where
    below : (m n : ℕ) (s : List ℕ) → ((2 ≤ m) × (m ≤ 4) × (length s < n)) ⊎ ((m ≡ 5) × (length s < 2 * n)) → m < 7
    below m n s (inl k) = let hi = k.1 in omega arith
    below m n s (inr k) = let is = k.0 in omega arith

    starts_no_break : (t : List ℕ) → LacksContent t → begins_break t ≡ false
    starts_no_break t h = ap begins_break (sym (append-nil t)) ∙ no_break t [] (IsHeaded-begins h.m h.n h.rest t (below h.m h.n h.rest h.lacks) h.headed)

bad_text_break : (t : List ℕ) → IsBadTextString t → begins_break t ≡ false
bad_text_break t h = ap begins_break (sym (append-nil t)) ∙ no_break t [] (IsHeaded-begins 3 h.n h.rest t (omega arith) h.headed)

bad_text_blocked : (e : Bool) (t : List ℕ) → IsBadTextString t → (d : ℕ) → IsBlocked e d t
bad_text_blocked e t h d = (
  λ y is.
      let r = head_is 3 h.n h.rest t h.headed in
      let never = bad_string h.n h.rest h.bad in
      elim (with_head d t (head_of 3 r.argument, h.rest) y r.reads is) [
        | inl w ↦ string_by_blocked true (length t) h.n (number_of r.argument) h.rest Item.text y r.number never w
        | inr w ↦ string_by_blocked true (length t) h.n (number_of r.argument) h.rest Item.text y r.number never w.1
      ],
  λ even. bad_text_break t h,
)

ends_blocked : (e : Bool) (t : List ℕ) → IsBytes t → Ends t → (d : ℕ) → IsBlocked e d t
ends_blocked e t fits (inl h) d = subst (λ (s : List ℕ). IsBlocked e d s) (sym h) (nothing_blocked e d)
ends_blocked e t fits (inr (inl h)) d = argument_blocked e t fits h d
ends_blocked e t fits (inr (inr h)) d = content_blocked e t h d

-- ---- the bytes from a fault on, if a chunk is due

-- No chunk is read from t, and t does not begin with the break.
abbrev NoChunkRead : Bool → List ℕ → Type 0
NoChunkRead is_text t = ((x : List ℕ × List ℕ) → chunk_at is_text t ≡ Ok x → ⊥) × (begins_break t ≡ false)

-- Reading a chunk reads its head and then the string.
chunk_with : (is_text : Bool) (t : List ℕ) (h : HeadView × List ℕ) (x : List ℕ × List ℕ) → head_at t ≡ Ok h → chunk_at is_text t ≡ Ok x
    → (begins_chunk is_text h.0.major_type ≡ true) × (n : ℕ) × (number_of h.0.argument ≡ Some n) × (string_at is_text (length t) n h.1 ≡ Ok x)
unfolding chunk_at
chunk_with is_text t h x e is =
    let whole = sym (ap (λ (r : Result (HeadView × List ℕ) Fault). r >>= λ h. cond (begins_chunk is_text h.0.major_type)
    (unless_none (length t) (number_of h.0.argument) (λ n. string_at is_text (length t) n h.1)) (Err (Syntax (length t)))) e) ∙ is in
    let g = guard_else (begins_chunk is_text h.0.major_type) (Syntax (length t)) _ x whole in
    let n = some_ok (length t) (number_of h.0.argument) (λ n. string_at is_text (length t) n h.1) x g.1 in
    (g.0, n.0, n.1, n.2)

-- A chunk begins with a head of the string's type.
chunk_first : (is_text : Bool) (t : List ℕ) (x : List ℕ × List ℕ) → IsBytes t → chunk_at is_text t ≡ Ok x → HeadStarts (string_type is_text) t
chunk_first is_text t x fits e =
    let k = chunk_takes is_text t x fits e in
    let h = headed_starts (string_type is_text) (length x.0) x.0 k.front k.encoding.1 in
    record {
      info = h.info;
      more = h.more ++ x.1;
      parts = k.parts ∙ ap (λ (z : List ℕ). z ++ x.1) h.parts;
      low = h.low;
      argument = λ j lt is. let long = h.argument j lt is in omega (arith, length-append h.more x.1);
    }

first_parts : (m : ℕ) (x : ℕ) (t : List ℕ) → HeadStarts m (x ∷ t) → (k : ℕ) × (x ≡ 32 * m + k) × (k ≤ 27) × ((j : ℕ) → j < 4 → k ≡ 24 + j → 2 ^ j ≤ length t)
first_parts m x t h = (
  h.info,
  ap first_of h.parts,
  h.low,
  λ j lt is. let long = h.argument j lt is in let same =
      ap (λ (s : List ℕ). length (rest_of s)) h.parts in omega arith,
)

no_chunk_read : (is_text : Bool) (t : List ℕ) → IsBytes t → NoChunk is_text t → NoChunkRead is_text t
no_chunk_read is_text [] fits h = absurd h
no_chunk_read is_text (x ∷ t) fits h = (
  λ y e.
      let p = first_parts (string_type is_text) x t (chunk_first is_text (x ∷ t) y fits e) in
      let is = p.1 in
      let low = p.2 in
      h.1 (omega arith, omega arith),
  ne_eqb x 255 h.0,
)

argument_chunk : (is_text : Bool) (t : List ℕ) → IsBytes t → LacksArgument t → NoChunkRead is_text t
argument_chunk is_text [] fits h = absurd h
argument_chunk is_text (x ∷ t) fits h =
    let k = h.0 in
    let lt = h.1 in
    let info = h.2 in
    let least_encoding = h.3 in (
      λ y e.
          let p = first_parts (string_type is_text) x t (chunk_first is_text (x ∷ t) y fits e) in
          let is = p.1 in
          let low = p.2 in
          let long = p.3 k lt (omega arith) in
          omega arith,
      ne_eqb x 255 (λ is. omega arith),
    )

nothing_chunk : (is_text : Bool) → NoChunkRead is_text []
nothing_chunk is_text = (λ y e. let h = chunk_first is_text [] y (λ i. omega arith) e in differ (32 * string_type is_text + h.info) h.more h.parts, refl)
  where
    differ : (x : ℕ) (s : List ℕ) → ◌≡◌ {A = List ℕ} [] (x ∷ s) → ⊥
    differ x s e = cc

map_no_chunk : (is_text : Bool) → begins_chunk is_text (major_type_of 5) ≡ false
map_no_chunk false = refl
map_no_chunk true = refl

content_chunk : (is_text : Bool) (t : List ℕ) → LacksContent t → NoChunkRead is_text t
content_chunk is_text t h = (λ x e. lacks x e h.lacks, (content_blocked true t h 0).1 refl)
  where
    same : (m n : ℕ) → ◌≡◌ {A = Option ℕ} (Some m) (Some n) → n ≡ m
    same m n e = cc

    lacks : (x : List ℕ × List ℕ) → chunk_at is_text t ≡ Ok x → ((2 ≤ h.m) × (h.m ≤ 4) × (length h.rest < h.n)) ⊎ ((h.m ≡ 5) × (length h.rest < 2 * h.n)) → ⊥
    lacks x e k =
        let r = head_is h.m h.n h.rest t h.headed in
        let w = chunk_with is_text t (head_of h.m r.argument, h.rest) x r.reads e in
        elim k [
          | inl k ↦ short_string is_text h.n h.rest k.2 (length t) x
              (ap (λ (n : ℕ). string_at is_text (length t) n h.rest) (same w.1 h.n (sym w.2 ∙ r.number)) ∙ w.3)
          | inr k ↦ false≢true (sym (map_no_chunk is_text) ∙ ap (λ (m : ℕ). begins_chunk is_text (major_type_of m)) (sym k.0) ∙ w.0)
        ]

bad_text_chunk : (is_text : Bool) (t : List ℕ) → IsBadTextString t → NoChunkRead is_text t
bad_text_chunk false t h = (
  λ x e. let r = head_is 3 h.n h.rest t h.headed in let w = chunk_with false t (head_of 3 r.argument, h.rest) x r.reads e in false≢true w.0,
  bad_text_break t h,
)
bad_text_chunk true t h = (
  λ x e.
      let r = head_is 3 h.n h.rest t h.headed in
      let w = chunk_with true t (head_of 3 r.argument, h.rest) x r.reads e in
      bad_string h.n h.rest h.bad (length t) x (ap (λ (n : ℕ). string_at true (length t) n h.rest) (same w.1 h.n (sym w.2 ∙ r.number)) ∙ w.3),
  bad_text_break t h,
)
  where
    same : (m n : ℕ) → ◌≡◌ {A = Option ℕ} (Some m) (Some n) → n ≡ m
    same m n e = cc

ends_chunk : (is_text : Bool) (t : List ℕ) → IsBytes t → Ends t → NoChunkRead is_text t
ends_chunk is_text t fits (inl h) = subst (λ (s : List ℕ). NoChunkRead is_text s) (sym h) (nothing_chunk is_text)
ends_chunk is_text t fits (inr (inl h)) = argument_chunk is_text t fits h
ends_chunk is_text t fits (inr (inr h)) = content_chunk is_text t h

-- After some chunks, no chunk can be read.
chunks_blocked : (is_text : Bool) (turns : ℕ) (ss : List (List ℕ)) (c t : List ℕ) (x : List (List ℕ) × List ℕ) → EachInOrder (IsDefinite is_text) ss c
    → NoChunkRead is_text t → until_at (chunk_at is_text) turns (c ++ t) ≡ Ok x → ⊥
unfolding until_at
chunks_blocked is_text zero ss c t x h never e = cc
chunks_blocked is_text (suc turns) [] c t x h never e =
    let whole : until_at (chunk_at is_text) (suc turns) t ≡ Ok x = ap (λ (s : List ℕ). until_at (chunk_at is_text) (suc turns) (s ++ t)) (sym h) ∙ e in
    elim (chosen (begins_break t) _ _ _ whole) [
      | inl a ↦ false≢true (sym never.1 ∙ a.0)
      | inr a ↦ let r = bind_ok (chunk_at is_text t) (λ x. until_at (chunk_at is_text) turns x.1 >>= λ xs. Ok (x.0 ∷ xs.0, xs.1)) x a.1 in never.0 r.0 r.1
    ]
chunks_blocked is_text (suc turns) (s ∷ ss) c t x h never e =
    let all = h.0 ++ (h.1 ++ t) in
    let whole : until_at (chunk_at is_text) (suc turns) all ≡ Ok x = ap (until_at (chunk_at is_text) (suc turns)) (sym (regroup h.0 h.1 c t h.4)) ∙ e in
    elim (chosen (begins_break all) _ _ _ whole) [
      | inl a ↦ false≢true (sym (no_break h.0 (h.1 ++ t) ((chunk_reads is_text).begins s h.0 h.2)) ∙ a.0)
      | inr a ↦
          let r = bind_ok (chunk_at is_text all) (λ x. until_at (chunk_at is_text) turns x.1 >>= λ xs. Ok (x.0 ∷ xs.0, xs.1)) x a.1 in
          let q = bind_ok (until_at (chunk_at is_text) turns r.0.1) (λ xs. Ok (r.0.0 ∷ xs.0, xs.1)) x r.2 in
          let is = ok_is (s, h.1 ++ t) r.0 (sym (chunk_again is_text s h.0 (h.1 ++ t) h.2) ∙ r.1) in
          let rest : h.1 ++ t ≡ r.0.1 = ap (λ (y : List ℕ × List ℕ). y.1) is in
          chunks_blocked is_text turns ss h.1 t q.0 h.3 never (ap (until_at (chunk_at is_text) turns) rest ∙ q.1)
    ]

abbrev made : (List ℕ → Item) → List ℕ × List ℕ → Result (Item × List ℕ) Fault
made f x = Ok (f x.0, x.1)

-- An indefinite-length string whose next chunk cannot be read.
opening_blocked : (is_text : Bool) (e : Bool) (ss : List (List ℕ)) (c t : List ℕ) → EachInOrder (IsDefinite is_text) ss c → NoChunkRead is_text t → (d : ℕ)
    → IsBlocked e d ((32 * string_type is_text + 31) ∷ (c ++ t))
unfolding chunks_at
opening_blocked is_text e ss c t h never d = (by_type is_text h never, λ even. other is_text)
  where
    other : (b : Bool) → begins_break ((32 * string_type b + 31) ∷ (c ++ t)) ≡ false
    other false = refl
    other true = refl

    joins : (b : Bool) (f : List ℕ → Item) (y : Item × List ℕ) → EachInOrder (IsDefinite b) ss c → NoChunkRead b t → (chunks_at b (c ++ t) >>= made f) ≡ Ok y
        → ⊥
    joins b f y h never is =
        let r = bind_ok (chunks_at b (c ++ t)) (made f) y is in
        let q = bind_ok (until_at (chunk_at b) (length (c ++ t)) (c ++ t)) (λ x. Ok (joined_chunks x.0, x.1)) r.0 r.1 in
        chunks_blocked b (length (c ++ t)) ss c t q.0 h never q.1

    by_type : (b : Bool) → EachInOrder (IsDefinite b) ss c → NoChunkRead b t → NoRead d ((32 * string_type b + 31) ∷ (c ++ t))
    by_type false h never y is = elim (with_head d ((32 * 2 + 31) ∷ (c ++ t)) (head_of 2 places.Indefinite, c ++ t) y (opening_again 2 (c ++ t)) is) [
      | inl w ↦ joins false bytes y h never w
      | inr w ↦ joins false bytes y h never w.1
    ]
    by_type true h never y is = elim (with_head d ((32 * 3 + 31) ∷ (c ++ t)) (head_of 3 places.Indefinite, c ++ t) y (opening_again 3 (c ++ t)) is) [
      | inl w ↦ joins true Item.text y h never w
      | inr w ↦ joins true Item.text y h never w.1
    ]

-- ---- the whole input

stood_item : (s c t : List ℕ) (k : ℕ) (e : Bool) → IsBytes s → s ≡ c ++ t → Due c k e → IsBlocked e 256 t → NoRead 256 s
stood_item s c t k e fits parts due h =
    no_read_below 256 k s fits (subst (λ (z : List ℕ). NoRead (256 + k) z) (sym parts) (due_blocked c k e due 256 t (subst IsBytes parts fits) h))

stood_chunk : (s c t : List ℕ) (is_text : Bool) → IsBytes s → s ≡ c ++ t → DueChunk is_text c → NoChunkRead is_text t → NoRead 256 s
stood_chunk s c t is_text fits parts due never =
    let rest = (32 * string_type is_text + 31) ∷ (due.encodings ++ t) in
    let whole : s ≡ due.before ++ rest = parts ∙ ap (λ (z : List ℕ). z ++ t) due.parts
    ∙ append_assoc due.before ((32 * string_type is_text + 31) ∷ due.encodings) t in
    stood_item s due.before rest due.level due.flag fits whole due.due (opening_blocked is_text due.flag due.chunks due.encodings t due.are_chunks never 256)

tail_fits : (s c t : List ℕ) → IsBytes s → s ≡ c ++ t → IsBytes t
tail_fits s c t fits parts = IsBytes-append c t (subst IsBytes parts fits)

stood : (s : List ℕ) (e : Error EndOfFile) → IsBytes s → (IsMemory e → ⊥) → FaultIn s e → NoRead 256 s
stood s (errors.Io x) fits other (c, t, parts, (inl due, ends)) =
    stood_item s c t due.0 due.1 fits parts due.2 (ends_blocked due.1 t (tail_fits s c t fits parts) ends 256)
stood s (errors.Io x) fits other (c, t, parts, (inr due, ends)) =
    stood_chunk s c t due.0 fits parts due.1 (ends_chunk due.0 t (tail_fits s c t fits parts) ends)
stood s (errors.Syntax i) fits other (c, t, parts, at, inl h) =
    stood_item s c t h.0 h.1 fits parts h.2 (no_item_blocked h.1 t (tail_fits s c t fits parts) h.3 256)
stood s (errors.Syntax i) fits other (c, t, parts, at, inr (inl h)) =
    stood_chunk s c t h.0 fits parts h.1 (no_chunk_read h.0 t (tail_fits s c t fits parts) h.2)
stood s (errors.Syntax i) fits other (c, t, parts, at, inr (inr (inl due, bad))) =
    stood_item s c t due.0 due.1 fits parts due.2 (bad_text_blocked due.1 t bad 256)
stood s (errors.Syntax i) fits other (c, t, parts, at, inr (inr (inr due, bad))) = stood_chunk s c t due.0 fits parts due.1 (bad_text_chunk due.0 t bad)
stood s (errors.Semantic None told) fits other h = absurd h
stood s (errors.Semantic (Some i) told) fits other (is, c, t, parts, at, h) =
    stood_item s c t h.0 h.1 fits parts h.2 (not_supported_blocked h.1 t (tail_fits s c t fits parts) h.3 256)
stood s errors.RecursionLimitExceeded fits other (c, t, parts, h) =
    subst (λ (z : List ℕ). NoRead 256 z) (sym parts) (due_blocked c 256 h.0 h.1 0 t (subst IsBytes parts fits)
    (nests_blocked h.0 t (tail_fits s c t fits parts) h.2))
stood s errors.OutOfMemory fits other h = absurd (other tt)

-- If a fault is in bytes, no prefix of them is an item.
pub no_item_stood : (s : List ℕ) (e : Error EndOfFile) → IsBytes s → (IsMemory e → ⊥) → FaultIn s e → HasNoItem s
no_item_stood s e fits other h v b rest parts is = stood s e fits other h (v, rest) (ap (item_at 256) parts ∙ item_again 256 v b rest is.0 is.1)

-- ---- in a prefix of an item

no_item_on : (e : Bool) (t d : List ℕ) → NoItem e t → NoItem e (t ++ d)
no_item_on e [] d (inl h) = absurd h
no_item_on e (x ∷ t) d (inl h) = inl h
no_item_on e [] d (inr (inl h)) = absurd h
no_item_on e (x ∷ t) d (inr (inl h)) = inr (inl h)
no_item_on e [] d (inr (inr (inl h))) = absurd h
no_item_on e (x ∷ []) d (inr (inr (inl h))) = absurd h
no_item_on e (x ∷ y ∷ t) d (inr (inr (inl h))) = inr (inr (inl h))
no_item_on e [] d (inr (inr (inr h))) = absurd h.0
no_item_on e (x ∷ t) d (inr (inr (inr h))) = inr (inr (inr h))

no_chunk_on : (is_text : Bool) (t d : List ℕ) → NoChunk is_text t → NoChunk is_text (t ++ d)
no_chunk_on is_text [] d h = absurd h
no_chunk_on is_text (x ∷ t) d h = h

bad_text_on : (t d : List ℕ) → IsBadTextString t → IsBadTextString (t ++ d)
bad_text_on t d h = record {
  n = h.n;
  rest = h.rest ++ d;
  headed = record { head = h.headed.head; is_head = h.headed.is_head; parts = regroup h.headed.head h.rest t d h.headed.parts };
  there = let enough = h.there in omega (arith, length-append h.rest d);
  bad = λ u. h.bad (subst IsUtf8 (take-append-le h.n h.rest d h.there) u);
}

not_supported_on : (t d : List ℕ) → IsNotSupported t → IsNotSupported (t ++ d)
not_supported_on [] d h = absurd h
not_supported_on (x ∷ t) d (inl h) = inl h
not_supported_on (x ∷ t) d (inr (inl h)) = inr (inl h)
not_supported_on (x ∷ t) d (inr (inr h)) = inr (inr (h.0, h.1, h.2 ++ d, ap (λ (s : List ℕ). s ++ d) h.3, h.4))

nests_on : (t d : List ℕ) → Nests t → Nests (t ++ d)
nests_on [] d h = absurd h
nests_on (x ∷ t) d h = h

on : (b s d c t : List ℕ) → b ≡ s ++ d → s ≡ c ++ t → b ≡ c ++ (t ++ d)
on b s d c t whole parts = whole ∙ ap (λ (z : List ℕ). z ++ d) parts ∙ append_assoc c t d

-- A fault other than the early end remains if more bytes follow.
stands_on : (b s d : List ℕ) (e : Error EndOfFile) → b ≡ s ++ d → FaultIn s e → IsEndOfInput e ⊎ FaultIn b e
stands_on b s d (errors.Io x) whole h = inl tt
stands_on b s d (errors.Syntax i) whole (c, t, parts, at, inl h) = inr (c, t ++ d, on b s d c t whole parts, at, inl (h.0, h.1, h.2, no_item_on h.1 t d h.3))
stands_on b s d (errors.Syntax i) whole (c, t, parts, at, inr (inl h)) =
    inr (c, t ++ d, on b s d c t whole parts, at, inr (inl (h.0, h.1, no_chunk_on h.0 t d h.2)))
stands_on b s d (errors.Syntax i) whole (c, t, parts, at, inr (inr (due, bad))) =
    inr (c, t ++ d, on b s d c t whole parts, at, inr (inr (due, bad_text_on t d bad)))
stands_on b s d (errors.Semantic None told) whole h = absurd h
stands_on b s d (errors.Semantic (Some i) told) whole (is, c, t, parts, at, h) =
    inr (is, c, t ++ d, on b s d c t whole parts, at, (h.0, h.1, h.2, not_supported_on t d h.3))
stands_on b s d errors.RecursionLimitExceeded whole (c, t, parts, h) = inr (c, t ++ d, on b s d c t whole parts, (h.0, h.1, nests_on t d h.2))
stands_on b s d errors.OutOfMemory whole h = inr tt

-- In a prefix of an item, the only fault is the early end.
pub end_in_front : (v : Item) (b s d : List ℕ) (e : Error EndOfFile) → IsBytes b → IsItem b v → b ≡ s ++ d → (IsMemory e → ⊥) → FaultIn s e → IsEndOfInput e
end_in_front v b s d e fits is whole other h = elim (stands_on b s d e whole h) [
  | inl end ↦ end
  | inr on ↦ absurd (no_item_stood b e fits other on v b [] (sym (append-nil b)) is)
]
