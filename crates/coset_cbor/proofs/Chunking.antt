-- The chunks of a string, one after the other.
use Rattle.std.proofs.Common.{◌≡◌, ℕ, zero, suc, ◌+◌, ◌*◌, ◌≤◌, Bool, true, false, List, [], ◌∷◌, ◌++◌, length, take, Some, None, Result, Ok, Err, refl, sym}
use Rattle.std.proofs.Common.{ap, ap₂, subst, ◌∙◌, append_assoc, eqb, ltb, arith, inl, inr}
use Rattle.std.proofs.lemmas.List.{append-nil, append_cancel_right, length-append, take_at}
use Rattle.coset_value.specs.Item.{half, single, double, Item, integer, bytes, float, text, boolean, null, tag, array, dict}
use Rattle.coset_value.specs.Parts.{as_bytes, as_text}
use Rattle.coset_value.specs.View.{items_of, pairs_of}
use Rattle.coset_cbor.specs.declared.fault.Fault.{Fault}
use Rattle.coset_cbor.specs.declared.fault.Fault.TheVariants.{End, Syntax, Simple}
use Rattle.coset_cbor.specs.declared.head.MajorType.{MajorType}
use Rattle.coset_cbor.specs.declared.head.MajorType.TheVariants as major_types
use Rattle.coset_cbor.specs.Heads.{Argument, HeadView, major_type_number}
use Rattle.coset_cbor.specs.Heads as places
use Rattle.std.specs.Prelude.{pos, negsuc}
use Rattle.coset_cbor.specs.Grammar.{IsHeaded, EachInOrder, joined_chunks, string_type, IsDefinite, IsIndefinite}
use Rattle.coset_cbor.specs.Reading.{◌>>=◌, number_of, head_at, string_at, begins_chunk, chunk_at, until_at, chunks_at, any_string_by, simple_at, Inside}
use Rattle.coset_cbor.specs.Reading.{things, item_by, item_at}
use Rattle.coset_cbor.specs.Whole.{are_bytes, is_one_item, item_of}
use Rattle.coset_cbor.specs.StringChunks.{as_string, chunks_read, is_all_read, contents_or_none, are_chunks, chunk_contents, AreChunksOf}
use Rattle.coset_cbor.proofs.Again.{EachInOrder-long, chunk_again, chunk_reads, until_again}
use Rattle.coset_cbor.proofs.Takes.{IsBytes, IsBytes-take, IsBytes-rest, bind_ok, done, ok_is, chosen, some_ok, head_takes, none_head}
use Rattle.coset_cbor.proofs.Takes.{chunk_type, chunk_takes, until_take}
use Rattle.coset_cbor.proofs.Heads.{one_item_by}
use Rattle.coset_cbor.proofs.Whole.{both, are_bytes_is, are_bytes_from, one_item_bytes}

-- ---- the meaning of the test `are_chunks`

all_read : (r : Result (List (List ℕ) × List ℕ) Fault) → is_all_read r ≡ true → r ≡ done (contents_or_none r, [])
all_read (Ok (ss, [])) e = refl
all_read (Ok (ss, x ∷ s)) e = absurd cc
all_read (Err f) e = absurd cc

IsBytes-append : (a b : List ℕ) → IsBytes a → IsBytes b → IsBytes (a ++ b)
IsBytes-append [] b fits rest i = rest i
IsBytes-append (x ∷ a) b fits rest zero = fits 0
IsBytes-append (x ∷ a) b fits rest (suc i) = IsBytes-append a b (IsBytes-rest x a fits) rest i

break_fits : IsBytes (255 ∷ [])
break_fits zero = omega arith
break_fits (suc i) = omega arith

-- b consists of chunks with these contents.
pub record Chunked (is_text : Bool) (b : List ℕ) : Type 0 where
  pub fits : IsBytes b
  pub each : EachInOrder (IsDefinite is_text) (chunk_contents is_text b) b

pub chunks_are : (is_text : Bool) (b : List ℕ) → are_chunks is_text b ≡ true → Chunked is_text b
unfolding are_chunks chunk_contents
chunks_are is_text b e =
    let h = both (are_bytes b) (is_all_read (chunks_read is_text b)) e in
    let fits = are_bytes_is b h.0 in
    let contents = contents_or_none (chunks_read is_text b) in
    let t = until_take (IsDefinite is_text) (chunk_at is_text) (chunk_takes is_text) (suc (length b)) (b ++ 255 ∷ []) (contents, [])
    (IsBytes-append b (255 ∷ []) fits break_fits) (all_read (chunks_read is_text b) h.1) in
    record {
      fits = fits;
      each = subst (λ (c : List ℕ). EachInOrder (IsDefinite is_text) contents c) (sym (append_cancel_right b t.front (255 ∷ []) t.parts)) t.encoding;
    }

read_chunks : (is_text : Bool) (ss : List (List ℕ)) (b : List ℕ) → EachInOrder (IsDefinite is_text) ss b → chunks_read is_text b ≡ Ok (ss, [])
read_chunks is_text ss b h = until_again (IsDefinite is_text) (chunk_at is_text) (chunk_reads is_text) (suc (length b)) ss b [] h (omega arith)

pub contents_are : (is_text : Bool) (ss : List (List ℕ)) (b : List ℕ) → EachInOrder (IsDefinite is_text) ss b → chunk_contents is_text b ≡ ss
unfolding chunk_contents
contents_are is_text ss b h = ap contents_or_none (read_chunks is_text ss b h)

pub chunks_from : (is_text : Bool) (ss : List (List ℕ)) (b : List ℕ) → IsBytes b → EachInOrder (IsDefinite is_text) ss b → are_chunks is_text b ≡ true
unfolding are_chunks
chunks_from is_text ss b fits h = rw (are_bytes_from b fits) (ap is_all_read (read_chunks is_text ss b h))

-- Each chunk takes at least one byte.
chunks_long : (is_text : Bool) (ss : List (List ℕ)) (b : List ℕ) → EachInOrder (IsDefinite is_text) ss b → length (chunk_contents is_text b) ≤ length b
chunks_long is_text ss b h =
    let long = EachInOrder-long (IsDefinite is_text) (chunk_reads is_text).begins ss b h in
    let same = ap length (contents_are is_text ss b h) in
    omega arith

-- ---- the next chunk

abbrev failed : Fault → Result (List ℕ × List ℕ) Fault
failed f = Err f

apart : (x : List ℕ × List ℕ) (f : Fault) → done x ≡ failed f → ⊥
apart x f e = cc

none_read : (is_text : Bool) → chunk_at is_text [] ≡ failed End
unfolding chunk_at head_at
none_read is_text = refl

first_read : (is_text : Bool) (x : List ℕ) (xs : List (List ℕ)) (b : List ℕ) → (h : EachInOrder (IsDefinite is_text) (x ∷ xs) b)
    → chunk_at is_text b ≡ done (x, h.1)
first_read is_text x xs b h = ap (chunk_at is_text) h.4 ∙ chunk_again is_text x h.0 h.1 h.2

pub record NextChunk (is_text : Bool) (b s rest : List ℕ) : Type 0 where
  pub chunks : are_chunks is_text rest ≡ true
  pub counted : length (chunk_contents is_text rest) ≤ length rest
  pub contents : chunk_contents is_text b ≡ s ∷ chunk_contents is_text rest
  pub headed : IsHeaded (string_type is_text) (length s) (s ++ rest) b

-- A chunk after its head, and the bytes that follow.
headed_on : (m n : ℕ) (x s c d b : List ℕ) → b ≡ c ++ d → x ≡ s → IsHeaded m n x c → IsHeaded m n (s ++ d) b
headed_on m n x s c d b parts same h = record {
  head = h.head;
  is_head = h.is_head;
  parts = parts ∙ ap (λ (y : List ℕ). y ++ d) (h.parts ∙ ap (λ (y : List ℕ). h.head ++ y) same) ∙ append_assoc h.head s d;
}

next_of : (is_text : Bool) (ss : List (List ℕ)) (b s rest : List ℕ) → IsBytes b → EachInOrder (IsDefinite is_text) ss b → chunk_at is_text b ≡ Ok (s, rest)
    → NextChunk is_text b s rest
next_of is_text [] b s rest fits h e = absurd (apart (s, rest) End (sym e ∙ ap (chunk_at is_text) h ∙ none_read is_text))
next_of is_text (x ∷ xs) b s rest fits h e =
    let same = ok_is (x, h.1) (s, rest) (sym (first_read is_text x xs b h) ∙ e) in
    let first : x ≡ s = ap (λ (p : List ℕ × List ℕ). p.0) same in
    let after : h.1 ≡ rest = ap (λ (p : List ℕ × List ℕ). p.1) same in
    let others = subst (λ (c : List ℕ). EachInOrder (IsDefinite is_text) xs c) after h.3 in
    let head = headed_on (string_type is_text) (length x) x s h.0 h.1 b h.4 first h.2.1 in
    let left = contents_are is_text xs rest others in
    let all = contents_are is_text (x ∷ xs) b h in
    record {
      chunks = chunks_from is_text xs rest (chunk_takes is_text b (s, rest) fits e).rest_fits others;
      counted = chunks_long is_text xs rest others;
      contents = cc;
      headed = subst (λ (y : List ℕ). IsHeaded (string_type is_text) (length y) (s ++ rest) b) first
          (subst (λ (c : List ℕ). IsHeaded (string_type is_text) (length x) (s ++ c) b) after head);
    }

pub next_chunk : (is_text : Bool) (b s rest : List ℕ) → are_chunks is_text b ≡ true → chunk_at is_text b ≡ Ok (s, rest) → NextChunk is_text b s rest
next_chunk is_text b s rest are e =
    let c = chunks_are is_text b are in
    next_of is_text (chunk_contents is_text b) b s rest c.fits c.each e

end_of : (is_text : Bool) (ss : List (List ℕ)) (b : List ℕ) (f : Fault) → EachInOrder (IsDefinite is_text) ss b → chunk_at is_text b ≡ Err f → ss ≡ []
end_of is_text [] b f h e = refl
end_of is_text (x ∷ xs) b f h e = absurd (apart (x, h.1) f (sym (first_read is_text x xs b h) ∙ e))

-- If no chunk is read, no chunk is left.
pub no_chunk : (is_text : Bool) (b : List ℕ) (f : Fault) → are_chunks is_text b ≡ true → chunk_at is_text b ≡ Err f → chunk_contents is_text b ≡ []
no_chunk is_text b f are e = end_of is_text (chunk_contents is_text b) b f (chunks_are is_text b are).each e

-- The bytes are these chunks and no others.
pub chunks_alone : (is_text : Bool) (b : List ℕ) → are_chunks is_text b ≡ true
    → EachInOrder (IsDefinite is_text) (chunk_contents is_text b) b
    × ((ss : List (List ℕ)) → EachInOrder (IsDefinite is_text) ss b → ss ≡ chunk_contents is_text b)
chunks_alone is_text b are = ((chunks_are is_text b are).each, λ ss h. sym (contents_are is_text ss b h))

-- ---- the item after a head

abbrev unread : Fault → Result (Item × List ℕ) Fault
unread f = Err f

item_apart : (x : Item × List ℕ) (f : Fault) → done x ≡ unread f → ⊥
item_apart x f e = cc

abbrev string_item : Bool → List ℕ → Item
string_item false s = bytes s
string_item true s = text s

as_string-string_item : (is_text : Bool) (s : List ℕ) → as_string is_text (string_item is_text s) ≡ Some s
as_string-string_item false s = refl
as_string-string_item true s = refl

record StringRead (is_text : Bool) (left : ℕ) (a : Argument) (s : List ℕ) (v : Item) : Type 0 where
  content : List ℕ
  read : any_string_by is_text left (number_of a) s ≡ Ok (content, [])
  is : as_string is_text v ≡ Some content

abbrev string_made : Bool → List ℕ × List ℕ → Result (Item × List ℕ) Fault
string_made is_text x = Ok (string_item is_text x.0, x.1)

string_read_of : (is_text : Bool) (left : ℕ) (a : Argument) (s : List ℕ) (v : Item)
    → (any_string_by is_text left (number_of a) s >>= string_made is_text) ≡ Ok (v, []) → StringRead is_text left a s v
string_read_of is_text left a s v e =
    let r = bind_ok (any_string_by is_text left (number_of a) s) (string_made is_text) (v, []) e in
    let same = ok_is (string_item is_text r.0.0, r.0.1) (v, []) r.2 in
    let value : string_item is_text r.0.0 ≡ v = ap (λ (p : Item × List ℕ). p.0) same in
    record {
      content = r.0.0;
      read = r.1 ∙ ap (λ (c : List ℕ). done (r.0.0, c)) (ap (λ (p : Item × List ℕ). p.1) same);
      is = ap (as_string is_text) (sym value) ∙ as_string-string_item is_text r.0.0;
    }

string_read : (is_text : Bool) (inside : Inside) (left : ℕ) (a : Argument) (k : MajorType) (s : List ℕ) (v : Item) → begins_chunk is_text k ≡ true
    → item_by inside left a k s ≡ Ok (v, []) → StringRead is_text left a s v
string_read false inside left a major_types.Bytes s v is e = string_read_of false left a s v e
string_read true inside left a major_types.Text s v is e = string_read_of true left a s v e
string_read true inside left a major_types.Bytes s v is e = absurd cc
string_read false inside left a major_types.Text s v is e = absurd cc
string_read is_text inside left a major_types.Unsigned s v is e = absurd cc
string_read is_text inside left a major_types.Negative s v is e = absurd cc
string_read is_text inside left a major_types.Array s v is e = absurd cc
string_read is_text inside left a major_types.Map s v is e = absurd cc
string_read is_text inside left a major_types.Tag s v is e = absurd cc
string_read is_text inside left a major_types.Simple s v is e = absurd cc

not_string : (is_text : Bool) (v : Item) → as_bytes v ≡ None → as_text v ≡ None → as_string is_text v ≡ None
not_string false v e f = e
not_string true v e f = f

other_is : (is_text : Bool) (w v : Item) (s rest : List ℕ) → as_string is_text w ≡ None → done {A = Item × List ℕ} (w, s) ≡ done {A = Item × List ℕ} (v, rest)
    → as_string is_text v ≡ None
other_is is_text w v s rest none e = ap (λ (p : Item × List ℕ). as_string is_text p.0) (sym (ok_is (w, s) (v, rest) e)) ∙ none

simple_read : (is_text : Bool) (left : ℕ) (a : Argument) (s : List ℕ) (v : Item) (rest : List ℕ) → simple_at left a s ≡ Ok (v, rest)
    → as_string is_text v ≡ None
simple_read is_text left (places.Within n) s v rest e =
    elim (chosen (eqb n 20) _ _ _ e) [
      | inl c ↦ other_is is_text (boolean false) v s rest (not_string is_text (boolean false) refl refl) c.1
      | inr c ↦ elim (chosen (eqb n 21) _ _ _ c.1) [
        | inl d ↦ other_is is_text (boolean true) v s rest (not_string is_text (boolean true) refl refl) d.1
        | inr d ↦ elim (chosen (eqb n 22) _ _ _ d.1) [
          | inl f ↦ other_is is_text null v s rest (not_string is_text null refl refl) f.1
          | inr f ↦ absurd (item_apart (v, rest) (Simple left) (sym f.1))
        ]
      ]
    ]
simple_read is_text left (places.One n) s v rest e =
    elim (chosen (ltb n 32) _ _ _ e) [
      | inl c ↦ absurd (item_apart (v, rest) (Syntax left) (sym c.1))
      | inr c ↦ absurd (item_apart (v, rest) (Simple left) (sym c.1))
    ]
simple_read is_text left (places.Two n) s v rest e = other_is is_text (float (half n)) v s rest (not_string is_text (float (half n)) refl refl) e
simple_read is_text left (places.Four n) s v rest e = other_is is_text (float (single n)) v s rest (not_string is_text (float (single n)) refl refl) e
simple_read is_text left (places.Eight n) s v rest e = other_is is_text (float (double n)) v s rest (not_string is_text (float (double n)) refl refl) e
simple_read is_text left places.Indefinite s v rest e = absurd (item_apart (v, rest) (Syntax left) (sym e))

-- A head of another major type begins no string of this type.
pub other_read : (is_text : Bool) (inside : Inside) (left : ℕ) (a : Argument) (k : MajorType) (s : List ℕ) (v : Item) (rest : List ℕ)
    → begins_chunk is_text k ≡ false → item_by inside left a k s ≡ Ok (v, rest) → as_string is_text v ≡ None
other_read is_text inside left a major_types.Unsigned s v rest is e =
    let n = some_ok left (number_of a) (λ n. Ok (integer (pos n), s)) (v, rest) e in
    other_is is_text (integer (pos n.0)) v s rest (not_string is_text (integer (pos n.0)) refl refl) n.2
other_read is_text inside left a major_types.Negative s v rest is e =
    let n = some_ok left (number_of a) (λ n. Ok (integer (negsuc n), s)) (v, rest) e in
    other_is is_text (integer (negsuc n.0)) v s rest (not_string is_text (integer (negsuc n.0)) refl refl) n.2
other_read false inside left a major_types.Bytes s v rest is e = absurd cc
other_read true inside left a major_types.Bytes s v rest is e =
    let r = bind_ok (any_string_by false left (number_of a) s) (λ x. Ok (bytes x.0, x.1)) (v, rest) e in
    other_is true (bytes r.0.0) v r.0.1 rest refl r.2
other_read false inside left a major_types.Text s v rest is e =
    let r = bind_ok (any_string_by true left (number_of a) s) (λ x. Ok (text x.0, x.1)) (v, rest) e in
    other_is false (text r.0.0) v r.0.1 rest refl r.2
other_read true inside left a major_types.Text s v rest is e = absurd cc
other_read is_text inside left a major_types.Array s v rest is e =
    let r = bind_ok (inside.items (number_of a) s) (λ x. Ok (array (items_of x.0), x.1)) (v, rest) e in
    other_is is_text (array (items_of r.0.0)) v r.0.1 rest (not_string is_text (array (items_of r.0.0)) refl refl) r.2
other_read is_text inside left a major_types.Map s v rest is e =
    let r = bind_ok (inside.pairs (number_of a) s) (λ x. Ok (dict (pairs_of x.0), x.1)) (v, rest) e in
    other_is is_text (dict (pairs_of r.0.0)) v r.0.1 rest (not_string is_text (dict (pairs_of r.0.0)) refl refl) r.2
other_read is_text inside left a major_types.Tag s v rest is e =
    let n = some_ok left (number_of a) (λ n. inside.one s >>= λ x. Ok (tag n x.0, x.1)) (v, rest) e in
    let r = bind_ok (inside.one s) (λ x. Ok (tag n.0 x.0, x.1)) (v, rest) n.2 in
    other_is is_text (tag n.0 r.0.0) v r.0.1 rest (not_string is_text (tag n.0 r.0.0) refl refl) r.2
other_read is_text inside left a major_types.Simple s v rest is e = simple_read is_text left a s v rest e

pub no_string : (is_text : Bool) (b : List ℕ) (h : HeadView × List ℕ) → is_one_item b ≡ true → head_at b ≡ Ok h → begins_chunk is_text h.0.major_type ≡ false
    → as_string is_text (item_of b) ≡ None
no_string is_text b h is e major_type = other_read is_text (things (item_at 255)) (length b) h.0.argument h.0.major_type h.1 (item_of b) [] major_type
    (one_item_by b h is e)

-- ---- the chunks of a string

-- A definite-length string is its own only chunk.
pub whole_chunk : (is_text : Bool) (b : List ℕ) (h : HeadView × List ℕ) (n : ℕ) → is_one_item b ≡ true → head_at b ≡ Ok h
    → begins_chunk is_text h.0.major_type ≡ true → number_of h.0.argument ≡ Some n → AreChunksOf is_text b b
unfolding chunk_at
whole_chunk is_text b h n is e major_type number =
    let fits = one_item_bytes b is in
    let r = string_read is_text (things (item_at 255)) (length b) h.0.argument h.0.major_type h.1 (item_of b) major_type (one_item_by b h is e) in
    let content : string_at is_text (length b) n h.1 ≡ Ok (r.content, []) = rw number at r.read in
    let read : chunk_at is_text b ≡ Ok (r.content, []) = rw (e, major_type, number) content in
    let t = chunk_takes is_text b (r.content, []) fits read in
    let same : t.front ≡ b = sym (append-nil t.front) ∙ sym t.parts in
    let definite = subst (λ (c : List ℕ). IsDefinite is_text r.content c) same t.encoding in
    let each : EachInOrder (IsDefinite is_text) (r.content ∷ []) b = (b, [], definite, refl, sym (append-nil b)) in
    let contents = contents_are is_text (r.content ∷ []) b each in
    record {
      chunks = chunks_from is_text (r.content ∷ []) b fits each;
      counted = chunks_long is_text (r.content ∷ []) b each;
      contents = inl (r.content, contents, definite);
      held = inl refl;
      whole = r.is ∙ ap Some (sym (append-nil r.content) ∙ ap joined_chunks (sym contents));
    }

-- Equal lists are equal without their last elements.
fronts_same : (s c : List ℕ) (x y : ℕ) → s ++ x ∷ [] ≡ c ++ y ∷ [] → s ≡ c
fronts_same s c x y e =
    let len : length c ≡ length s = omega (arith, ap length e, length-append s (x ∷ []), length-append c (y ∷ [])) in
    sym (take_at s (x ∷ []) (length s) refl) ∙ ap (take (length s)) e ∙ take_at c (y ∷ []) (length s) len

IsBytes-front : (s : List ℕ) (x : ℕ) → IsBytes (s ++ x ∷ []) → IsBytes s
IsBytes-front s x fits = subst (λ (c : List ℕ). IsBytes c) (take_at s (x ∷ []) (length s) refl) (IsBytes-take (length s) (s ++ x ∷ []) fits)

-- b is an indefinite-length string, and s is the bytes after its initial byte: the chunks and the break.
record Between (is_text : Bool) (b s : List ℕ) : Type 0 where
  contents : List (List ℕ)
  chunks : List ℕ
  each : EachInOrder (IsDefinite is_text) contents chunks
  stops : s ≡ chunks ++ 255 ∷ []
  fits : IsBytes s
  broken : IsIndefinite (string_type is_text) chunks b
  whole : as_string is_text (item_of b) ≡ Some (joined_chunks contents)

between_of : (is_text : Bool) (b : List ℕ) (h : HeadView × List ℕ) → is_one_item b ≡ true → head_at b ≡ Ok h → begins_chunk is_text h.0.major_type ≡ true
    → number_of h.0.argument ≡ None → Between is_text b h.1
unfolding chunks_at
between_of is_text b h is e major_type number =
    let r = string_read is_text (things (item_at 255)) (length b) h.0.argument h.0.major_type h.1 (item_of b) major_type (one_item_by b h is e) in
    let read : (until_at (chunk_at is_text) (length h.1) h.1 >>= λ x. Ok (joined_chunks x.0, x.1)) ≡ Ok (r.content, []) = rw number at r.read in
    let u = bind_ok (until_at (chunk_at is_text) (length h.1) h.1) (λ x. Ok (joined_chunks x.0, x.1)) (r.content, []) read in
    let same = ok_is (joined_chunks u.0.0, u.0.1) (r.content, []) u.2 in
    let content : joined_chunks u.0.0 ≡ r.content = ap (λ (p : List ℕ × List ℕ). p.0) same in
    let ends : u.0.1 ≡ [] = ap (λ (p : List ℕ × List ℕ). p.1) same in
    let head = head_takes b h (one_item_bytes b is) e in
    let t = until_take (IsDefinite is_text) (chunk_at is_text) (chunk_takes is_text) (length h.1) h.1 u.0 head.rest_fits u.1 in
    let stops : h.1 ≡ t.front ++ 255 ∷ [] = t.parts ∙ ap (λ (c : List ℕ). t.front ++ 255 ∷ c) ends in
    let opening : head.front ≡ (32 * string_type is_text + 31) ∷ [] = none_head (major_type_number h.0.major_type) h.0.argument head.front head.encoding number
    ∙ ap (λ (m : ℕ). (32 * m + 31) ∷ []) (chunk_type is_text h.0.major_type major_type) in
    record {
      contents = u.0.0;
      chunks = t.front;
      each = t.encoding;
      stops = stops;
      fits = head.rest_fits;
      broken = head.parts ∙ ap₂ (λ (c d : List ℕ). c ++ d) opening stops;
      whole = r.is ∙ ap Some (sym content);
    }

pub broken_chunks : (is_text : Bool) (b : List ℕ) (h : HeadView × List ℕ) (s : List ℕ) (last : ℕ) → is_one_item b ≡ true → head_at b ≡ Ok h
    → begins_chunk is_text h.0.major_type ≡ true → number_of h.0.argument ≡ None → h.1 ≡ s ++ last ∷ [] → AreChunksOf is_text b s
broken_chunks is_text b h s last is e major_type number parts =
    let t = between_of is_text b h is e major_type number in
    let same : t.chunks ≡ s = fronts_same t.chunks s 255 last (sym t.stops ∙ parts) in
    let each = subst (λ (c : List ℕ). EachInOrder (IsDefinite is_text) t.contents c) same t.each in
    let contents = contents_are is_text t.contents s each in
    record {
      chunks = chunks_from is_text t.contents s (IsBytes-front s last (subst (λ (c : List ℕ). IsBytes c) parts t.fits)) each;
      counted = chunks_long is_text t.contents s each;
      held = inr (subst (λ (c : List ℕ). IsIndefinite (string_type is_text) c b) same t.broken);
      contents = inr (
        s,
        subst (λ (ss : List (List ℕ)). EachInOrder (IsDefinite is_text) ss s) (sym contents) each,
        subst (λ (c : List ℕ). IsIndefinite (string_type is_text) c b) same t.broken,
      );
      whole = t.whole ∙ ap Some (ap joined_chunks (sym contents));
    }

-- A break follows the chunks.
pub has_break : (is_text : Bool) (b : List ℕ) (h : HeadView × List ℕ) → is_one_item b ≡ true → head_at b ≡ Ok h → begins_chunk is_text h.0.major_type ≡ true
    → number_of h.0.argument ≡ None → length h.1 ≡ 0 → ⊥
has_break is_text b h is e major_type number none =
    let t = between_of is_text b h is e major_type number in
    omega (arith, ap length t.stops, length-append t.chunks (255 ∷ []))
