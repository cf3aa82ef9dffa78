-- Parts of the input.
use Rattle.std.proofs.Common.{◌≡◌, ◌∙◌, ◌++◌, ◌+◌, ◌-◌, ◌*◌, ◌%◌, ◌<◌, ℕ, List, []}
use Rattle.std.proofs.Common.{◌∷◌, length, drop, Option, Some, None, Bool, Bor, false, true, true≢false, ap, sym, subst, refl, inl, inr, arith}
use Rattle.std.specs.Prelude.{MatchOption}
use Rattle.std.proofs.lemmas.List.{append-nil, append_assoc, drop_at, length-append}
use Rattle.coset.specs.Grammar.{HeadWidth, within, one, two, four, eight, Holds, EnclosesContent, head_in, joined_chunks, string_type}
use Rattle.coset.specs.Item.{Item, integer, bytes, float, text, boolean, null, tag, array, dict}
use Rattle.coset.specs.Chunks.{YieldsChunk, chunks_left}
use Rattle.coset.specs.ShapeLaws.{some-none}
use Rattle.coset_cbor.specs.StringChunks.{HasChunks, as_string}
use Rattle.coset_cbor.specs.declared.chunks.ByteChunks.{ByteChunks}
use Rattle.ffi_query.specs.Places.{string_in}
use Rattle.ffi_query.specs.Located.{AreLocated, IsContentOf, IsNoContent, IsNoString, IsString, head_len, head_len_by, opens_chunks}

-- The whole input.
pub whole_located : (b s : List ℕ) → s ≡ b → AreLocated b s b
whole_located b s e = record { before = []; behind = []; ends = refl; begins = sym e ∙ sym (append-nil s) }

-- The front of a part, and its end.
pub located_front : (b s u r : List ℕ) → AreLocated b (s ++ u) r → AreLocated b s r
located_front b s u r l = record {
  before = l.before;
  behind = u ++ l.behind;
  ends = l.ends;
  begins = l.begins ∙ append_assoc s u l.behind;
}

pub located_behind : (b t u r : List ℕ) → AreLocated b (t ++ u) r → AreLocated b u (drop (length t) r)
located_behind b t u r l =
    let parts : r ≡ t ++ (u ++ l.behind) = l.begins ∙ append_assoc t u l.behind in
    let rest : drop (length t) r ≡ u ++ l.behind =
    ap (drop (length t)) parts ∙ drop_at t (u ++ l.behind) (length t) refl in record {
      before = l.before ++ t;
      behind = l.behind;
      ends = l.ends ∙ (ap (λ x. l.before ++ x) (parts ∙ ap (λ x. t ++ x) (sym rest)) ∙ sym (append_assoc l.before t (drop (length t) r)));
      begins = rest;
    }

-- The second of two parts, after the first was passed.
pub located_next : (b s t u r x : List ℕ) → s ≡ t ++ u → x ≡ drop (length t) r → AreLocated b s r → AreLocated b u x
located_next b s t u r x e is l = subst (AreLocated b u) (sym is) (located_behind b t u r (subst (λ y. AreLocated b y r) e l))

-- A key, its value, and the pairs after them.
pub record PairIn (b k v more r x y : List ℕ) : Type 0 where
  pub key : AreLocated b k r
  pub value : AreLocated b v x
  pub behind : AreLocated b more y

pub located_pair :
    (b s k v more r x y : List ℕ) → s ≡ k ++ (v ++ more) → x ≡ drop (length k) r → y ≡ drop (length v) x → AreLocated b s r
    → PairIn b k v more r x y
located_pair b s k v more r x y parts behind_key behind_value l =
    let rest = located_next b s k (v ++ more) r x parts behind_key l in record {
      key = located_front b k (v ++ more) r (subst (λ z. AreLocated b z r) parts l);
      value = located_front b v more x rest;
      behind = located_next b (v ++ more) v more x y refl behind_value rest;
    }

-- ---- heads

info_of : (m n : ℕ) → n < 32 → (32 * m + n) % 32 ≡ n
info_of m n lt = omega (arith, lt)

small : (n : ℕ) → n < 24 → head_len_by n ≡ 1
small n lt = grind (arith, lt)

head_size : (w : HeadWidth) (m n : ℕ) (s : List ℕ) → Holds w n → head_len (head_in w m n ++ s) ≡ length (head_in w m n)
head_size within m n s h = ap head_len_by (info_of m n (omega (arith, h))) ∙ small n h
head_size one m n s h = ap head_len_by (info_of m 24 (omega arith))
head_size two m n s h = ap head_len_by (info_of m 25 (omega arith))
head_size four m n s h = ap head_len_by (info_of m 26 (omega arith))
head_size eight m n s h = ap head_len_by (info_of m 27 (omega arith))

-- The elements or pairs of an array or a map follow its head.
record Held (s c : List ℕ) : Type 0 where
  head : List ℕ
  last : List ℕ
  parts : c ≡ head ++ (s ++ last)
  size : length head ≡ head_len c

held : (m n : ℕ) (s c : List ℕ) → EnclosesContent m n s c → Held s c
held m n s c (inl h) = record {
  head = h.head;
  last = [];
  parts = h.parts ∙ ap (λ x. h.head ++ x) (sym (append-nil s));
  size =
      ap length h.is_head.spelled
      ∙ (sym (head_size h.is_head.width m n s h.is_head.holds)
      ∙ (ap (λ x. head_len (x ++ s)) (sym h.is_head.spelled) ∙ ap head_len (sym h.parts)));
}
held m n s c (inr e) = record {
  head = (32 * m + 31) ∷ [];
  last = 255 ∷ [];
  parts = e;
  size = sym (ap head_len e ∙ ap head_len_by (info_of m 31 (omega arith)));
}

pub located_held : (m n : ℕ) (b s c r : List ℕ) → AreLocated b c r → EnclosesContent m n s c → AreLocated b s (drop (head_len c) r)
located_held m n b s c r l h =
    let x = held m n s c h in
    let whole : AreLocated b (x.head ++ (s ++ x.last)) r = subst (λ y. AreLocated b y r) x.parts l in
    let there : AreLocated b (s ++ x.last) (drop (length x.head) r) = located_behind b x.head (s ++ x.last) r whole in
    subst (λ k. AreLocated b s (drop k r)) x.size (located_front b s x.last (drop (length x.head) r) there)

-- The end of a part, by its length.
pub located_end : (b c t u r : List ℕ) (n : ℕ) → c ≡ t ++ u → n ≡ length c - length u → AreLocated b c r → AreLocated b u (drop n r)
located_end b c t u r n e is l =
    let size : n ≡ length t = is ∙ (ap (λ x. length x - length u) e ∙ (ap (λ k. k - length u) (length-append t u) ∙ (omega arith))) in
    subst (λ k. AreLocated b u (drop k r)) (sym size) (located_behind b t u r (subst (λ y. AreLocated b y r) e l))

-- ---- strings

abbrev first_or : {A : Type 0} → A → List A → A
first_or a [] = a
first_or a (x ∷ xs) = x

abbrev is_nil : {A : Type 0} → List A → Bool
is_nil [] = true
is_nil (x ∷ xs) = false

opened : (is_text : Bool) (c : List ℕ) → opens_chunks is_text ((32 * string_type is_text + 31) ∷ c) ≡ true
opened false c = refl
opened true c = refl

-- A string of definite length ends with its content.
pub string_is :
    (is_text : Bool) (b s : List ℕ) (v : Item) (ls ms : List (List ℕ)) → HasChunks is_text b ls → opens_chunks is_text b ≡ false → ls ≡ s ∷ ms
    → Some (joined_chunks ls) ≡ as_string is_text v → IsString is_text b v s
string_is is_text b s v ls ms (inl h) closed first w =
    let same : s ≡ h.0 = ap (first_or []) (sym first ∙ h.1) in record {
      head = h.2.1.head;
      ends = h.2.1.parts ∙ ap (λ x. h.2.1.head ++ x) (sym same);
      holds = sym w ∙ ap Some (ap joined_chunks h.1 ∙ (append-nil h.0 ∙ sym same));
    }
string_is is_text b s v ls ms (inr h) closed first w =
    absurd (true≢false (sym (ap (opens_chunks is_text) h.2 ∙ opened is_text (h.0 ++ 255 ∷ [])) ∙ closed))

-- A string of definite length has a chunk.
pub some_chunk : (is_text : Bool) (b : List ℕ) (ls : List (List ℕ)) → HasChunks is_text b ls → opens_chunks is_text b ≡ false → ls ≡ [] → ⊥
some_chunk is_text b ls (inl h) closed none = true≢false (ap is_nil (sym none ∙ h.1))
some_chunk is_text b ls (inr h) closed none = true≢false (sym (ap (opens_chunks is_text) h.2 ∙ opened is_text (h.0 ++ 255 ∷ [])) ∙ closed)

pub chunk_found :
    (b : List ℕ) (v : Item) (old new : ByteChunks) (r : Option (Bor (List ℕ))) → HasChunks false b (chunks_left old)
    → opens_chunks false b ≡ false → Some (joined_chunks (chunks_left old)) ≡ as_string false v → YieldsChunk old r new
    → MatchOption r (IsNoString false b v) (IsContentOf false b v)
chunk_found b v old new None has closed w y = absurd (some_chunk false b (chunks_left old) has closed y.0)
chunk_found b v old new (Some s) has closed w y = string_is false b s.now v (chunks_left old) (chunks_left new) has closed y.0 w

-- The content of a string of either type.
pub string_held : (is_text : Bool) (v : Item) (s : List ℕ) → as_string is_text v ≡ Some s → string_in v ≡ Some s
string_held false (bytes x) s e = e
string_held true (text x) s e = e
string_held false (text x) s e = absurd (some-none refl (sym e))
string_held true (bytes x) s e = absurd (some-none refl (sym e))
string_held false (integer n) s e = absurd (some-none refl (sym e))
string_held true (integer n) s e = absurd (some-none refl (sym e))
string_held false (float x) s e = absurd (some-none refl (sym e))
string_held true (float x) s e = absurd (some-none refl (sym e))
string_held false (boolean x) s e = absurd (some-none refl (sym e))
string_held true (boolean x) s e = absurd (some-none refl (sym e))
string_held false null s e = absurd (some-none refl (sym e))
string_held true null s e = absurd (some-none refl (sym e))
string_held false (tag n x) s e = absurd (some-none refl (sym e))
string_held true (tag n x) s e = absurd (some-none refl (sym e))
string_held false (array x) s e = absurd (some-none refl (sym e))
string_held true (array x) s e = absurd (some-none refl (sym e))
string_held false (dict x) s e = absurd (some-none refl (sym e))
string_held true (dict x) s e = absurd (some-none refl (sym e))

neither : (v : Item) → as_string false v ≡ None → as_string true v ≡ None → string_in v ≡ None
neither (bytes x) e f = e
neither (text x) e f = f
neither (integer n) e f = refl
neither (float x) e f = refl
neither (boolean x) e f = refl
neither null e f = refl
neither (tag n x) e f = refl
neither (array x) e f = refl
neither (dict x) e f = refl

pub no_content : (b : List ℕ) (v : Item) → IsNoString false b v → IsNoString true b v → IsNoContent b v
no_content b v (inl e) (inl f) = inl (neither v e f)
no_content b v (inr e) f = inr (inl e)
no_content b v (inl e) (inr f) = inr (inr f)
