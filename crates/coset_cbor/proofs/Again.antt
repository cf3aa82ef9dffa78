-- An encoding of a value is read as that value.
use Rattle.std.proofs.Common.{◌≡◌, ℕ, zero, suc, ◌+◌, ◌*◌, ◌/◌, ◌%◌, ◌^◌, ◌<◌, ◌≤◌, Bool, true, false, ltb, eqb, List, [], ◌∷◌, ◌++◌, length, Some, None}
use Rattle.std.proofs.Common.{Result, Ok, refl, sym, ap, subst, ◌∙◌, append_assoc, arith, inl, inr}
use Rattle.std.specs.Prelude.{pos, negsuc}
use Rattle.std.specs.Int.{Width, w8, w16, w32, w64, byte_len, from_be_bytes, to_be_bytes}
use Rattle.std.proofs.lemmas.Bool.{lt-ltb, le-ltb, ne_eqb}
use Rattle.std.proofs.lemmas.Str.{is_utf8-from_IsUtf8}
use Rattle.std.proofs.lemmas.List.{take_at, drop_at, length-append, append_cancel_right}
use Rattle.std.proofs.lemmas.Nat.{from_be_bytes-to_be_bytes_2, from_be_bytes-to_be_bytes_4, from_be_bytes-to_be_bytes_8}
use Rattle.coset_cbor.specs.declared.fault.Fault.{Fault}
use Rattle.coset_cbor.specs.Heads.{Argument, HeadView}
use Rattle.coset_cbor.specs.Heads as places
use Rattle.coset_value.specs.Item.{half, single, double, Item, integer, bytes, float, text, boolean, null, tag, array, dict, Items, no_items, item, Pairs}
use Rattle.coset_value.specs.Item.{no_pairs, pair, items_count, pairs_count, depth, items_depth, pairs_depth}
use Rattle.coset_value.specs.View.{items_of, pairs_of}
use Rattle.coset_cbor.specs.Grammar.{HeadWidth, within, one, two, four, eight, Holds, head_in, IsHead, IsHeaded, IsIndefinite, EachInOrder, IsStringContent}
use Rattle.coset_cbor.specs.Grammar.{string_type, IsDefinite, IsStringEncoding, EnclosesContent, IsEncoding, AreEncodings, ArePairEncodings}
use Rattle.coset_cbor.specs.Reading.{◌>>=◌, Parse, major_type_of, number_of, argument_at, argument_by, head_at, is_string_content, string_at, begins_chunk}
use Rattle.coset_cbor.specs.Reading.{chunk_at, begins_break, times_at, until_at, chunks_at, any_string_by, pair_at, array_by, map_by, Inside, nothing, things}
use Rattle.coset_cbor.specs.Reading.{item_from, item_at}

-- ---- heads

pub record IsWide (w : Width) (limit : ℕ) : Type 0 where
  pub len : (n : ℕ) → length (to_be_bytes w n) ≡ byte_len w
  pub again : (n : ℕ) → n < limit → from_be_bytes w (to_be_bytes w n) ≡ n

pub wide8 : IsWide w8 (2 ^ 8)
wide8 = record { len = λ n. refl; again = λ n lt. omega arith }

pub wide16 : IsWide w16 (2 ^ 16)
wide16 = record { len = λ n. refl; again = λ n lt. from_be_bytes-to_be_bytes_2 n lt }

pub wide32 : IsWide w32 (2 ^ 32)
wide32 = record { len = λ n. refl; again = λ n lt. from_be_bytes-to_be_bytes_4 n lt }

pub wide64 : IsWide w64 (2 ^ 64)
wide64 = record { len = λ n. refl; again = λ n lt. from_be_bytes-to_be_bytes_8 n lt }

argument_again : (place : ℕ → Argument) (w : Width) (limit : ℕ) (wide : IsWide w limit) (n : ℕ) (rest : List ℕ) → n < limit
    → argument_at place w (byte_len w) (to_be_bytes w n ++ rest) ≡ Ok (place n, rest)
argument_again place w limit wide n rest lt =
    let len = wide.len n in
    let long : ltb (length (to_be_bytes w n ++ rest)) (byte_len w) ≡ false = le-ltb _ _ (omega (arith, length-append (to_be_bytes w n) rest)) in
    rw (long, take_at (to_be_bytes w n) rest (byte_len w) len, drop_at (to_be_bytes w n) rest (byte_len w) len, wide.again n lt) refl

abbrev pub argument_in : HeadWidth → ℕ → Argument
argument_in within n = places.Within n
argument_in one n = places.One n
argument_in two n = places.Two n
argument_in four n = places.Four n
argument_in eight n = places.Eight n

number_of-argument_in : (p : HeadWidth) (n : ℕ) → number_of (argument_in p n) ≡ Some n
number_of-argument_in within n = refl
number_of-argument_in one n = refl
number_of-argument_in two n = refl
number_of-argument_in four n = refl
number_of-argument_in eight n = refl

first_div : (m k : ℕ) → k < 32 → (32 * m + k) / 32 ≡ m
first_div m k lt = omega arith

first_mod : (m k : ℕ) → k < 32 → (32 * m + k) % 32 ≡ k
first_mod m k lt = omega arith

abbrev pub head_of : ℕ → Argument → HeadView
head_of m a = record { major_type = major_type_of m; argument = a }

-- Reads an initial byte of major type m with low bits k.
first_again : (m k : ℕ) (s : List ℕ) → k < 32 → head_at ((32 * m + k) ∷ s) ≡ (argument_by k (suc (length s)) s >>= λ a. Ok (head_of m a.0, a.1))
unfolding head_at
first_again m k s lt = rw (first_div m k lt, first_mod m k lt) refl

pub head_again : (p : HeadWidth) (m n : ℕ) (rest : List ℕ) → Holds p n → head_at (head_in p m n ++ rest) ≡ Ok (head_of m (argument_in p n), rest)
head_again within m n rest h =
    let small : ltb n 24 ≡ true = lt-ltb n 24 h in
    first_again m n rest (omega arith) ∙ rw small refl
head_again one m n rest h = first_again m 24 (to_be_bytes w8 n ++ rest) (omega arith) ∙ rw (argument_again places.One w8 (2 ^ 8) wide8 n rest h) refl
head_again two m n rest h = first_again m 25 (to_be_bytes w16 n ++ rest) (omega arith) ∙ rw (argument_again places.Two w16 (2 ^ 16) wide16 n rest h) refl
head_again four m n rest h = first_again m 26 (to_be_bytes w32 n ++ rest) (omega arith) ∙ rw (argument_again places.Four w32 (2 ^ 32) wide32 n rest h) refl
head_again eight m n rest h = first_again m 27 (to_be_bytes w64 n ++ rest) (omega arith) ∙ rw (argument_again places.Eight w64 (2 ^ 64) wide64 n rest h) refl

-- Reading the head of b gives the argument n and leaves rest.
pub record HeadAgain (m n : ℕ) (b rest : List ℕ) : Type 0 where
  pub argument : Argument
  pub reads : head_at b ≡ Ok (head_of m argument, rest)
  pub number : number_of argument ≡ Some n

pub IsHead-again : (m n : ℕ) (h rest : List ℕ) → IsHead m n h → HeadAgain m n (h ++ rest) rest
IsHead-again m n h rest is = record {
  argument = argument_in is.width n;
  reads = ap (λ (x : List ℕ). head_at (x ++ rest)) is.spelled ∙ head_again is.width m n rest is.holds;
  number = number_of-argument_in is.width n;
}

pub IsHeaded-again : (m n : ℕ) (s b rest : List ℕ) → IsHeaded m n s b → HeadAgain m n (b ++ rest) (s ++ rest)
IsHeaded-again m n s b rest is =
    let r = IsHead-again m n is.head (s ++ rest) is.is_head in
    record {
      argument = r.argument;
      reads = ap head_at (ap (λ (x : List ℕ). x ++ rest) is.parts ∙ append_assoc is.head s rest) ∙ r.reads;
      number = r.number;
    }

-- Reads the initial byte of an indefinite length.
pub opening_again : (m : ℕ) (s : List ℕ) → head_at ((32 * m + 31) ∷ s) ≡ Ok (head_of m places.Indefinite, s)
opening_again m s = first_again m 31 s (omega arith)

-- ---- bytes that are not empty and do not begin with the break

pub record Begins (b : List ℕ) : Type 0 where
  pub first : ℕ
  pub more : List ℕ
  pub parts : b ≡ first ∷ more
  pub low : first < 255

head_begins : (p : HeadWidth) (m n : ℕ) → m < 7 → Holds p n → Begins (head_in p m n)
head_begins within m n lt h = record { first = 32 * m + n; more = []; parts = refl; low = omega arith }
head_begins one m n lt h = record { first = 32 * m + 24; more = to_be_bytes w8 n; parts = refl; low = omega arith }
head_begins two m n lt h = record { first = 32 * m + 25; more = to_be_bytes w16 n; parts = refl; low = omega arith }
head_begins four m n lt h = record { first = 32 * m + 26; more = to_be_bytes w32 n; parts = refl; low = omega arith }
head_begins eight m n lt h = record { first = 32 * m + 27; more = to_be_bytes w64 n; parts = refl; low = omega arith }

pub IsHead-begins : (m n : ℕ) (h : List ℕ) → m < 7 → IsHead m n h → Begins h
IsHead-begins m n h lt is = subst (λ (x : List ℕ). Begins x) (sym is.spelled) (head_begins is.width m n lt is.holds)

pub begins_append : (c d b : List ℕ) → b ≡ c ++ d → Begins c → Begins b
begins_append c d b e g = record { first = g.first; more = g.more ++ d; parts = e ∙ ap (λ (x : List ℕ). x ++ d) g.parts; low = g.low }

pub IsHeaded-begins : (m n : ℕ) (s b : List ℕ) → m < 7 → IsHeaded m n s b → Begins b
IsHeaded-begins m n s b lt is = begins_append is.head s b is.parts (IsHead-begins m n is.head lt is.is_head)

IsIndefinite-begins : (m : ℕ) (s b : List ℕ) → m < 7 → IsIndefinite m s b → Begins b
IsIndefinite-begins m s b lt is = record { first = 32 * m + 31; more = s ++ 255 ∷ []; parts = is; low = omega arith }

EnclosesContent-begins : (m n : ℕ) (s b : List ℕ) → m < 7 → EnclosesContent m n s b → Begins b
EnclosesContent-begins m n s b lt (inl h) = IsHeaded-begins m n s b lt h
EnclosesContent-begins m n s b lt (inr h) = IsIndefinite-begins m s b lt h

pub type_low : (is_text : Bool) → string_type is_text < 7
type_low false = omega arith
type_low true = omega arith

IsStringEncoding-begins : (is_text : Bool) (s b : List ℕ) → IsStringEncoding is_text s b → Begins b
IsStringEncoding-begins is_text s b (inl h) = IsHeaded-begins (string_type is_text) (length s) s b (type_low is_text) h.1
IsStringEncoding-begins is_text s b (inr h) = IsIndefinite-begins (string_type is_text) h.1 b (type_low is_text) h.4

pub IsEncoding-begins : (v : Item) (b : List ℕ) → IsEncoding v b → Begins b
IsEncoding-begins (integer (pos n)) b h = IsHead-begins 0 n b (omega arith) h
IsEncoding-begins (integer (negsuc n)) b h = IsHead-begins 1 n b (omega arith) h
IsEncoding-begins (bytes s) b h = IsStringEncoding-begins false s b h
IsEncoding-begins (float (half n)) b h = record { first = 0xF9; more = to_be_bytes w16 n; parts = h.1; low = omega arith }
IsEncoding-begins (float (single n)) b h = record { first = 0xFA; more = to_be_bytes w32 n; parts = h.1; low = omega arith }
IsEncoding-begins (float (double n)) b h = record { first = 0xFB; more = to_be_bytes w64 n; parts = h.1; low = omega arith }
IsEncoding-begins (text s) b h = IsStringEncoding-begins true s b h
IsEncoding-begins (boolean false) b h = record { first = 0xF4; more = []; parts = h; low = omega arith }
IsEncoding-begins (boolean true) b h = record { first = 0xF5; more = []; parts = h; low = omega arith }
IsEncoding-begins null b h = record { first = 0xF6; more = []; parts = h; low = omega arith }
IsEncoding-begins (tag t v) b h = IsHeaded-begins 6 t h.0 b (omega arith) h.2
IsEncoding-begins (array vs) b h = EnclosesContent-begins 4 (items_count vs) h.0 b (omega arith) h.2
IsEncoding-begins (dict ps) b h = EnclosesContent-begins 5 (pairs_count ps) h.0 b (omega arith) h.2

other_break : (n : ℕ) → n < 255 → eqb n 255 ≡ false
other_break n lt = ne_eqb n 255 (λ e. absurd (omega arith))

pub no_break : (b rest : List ℕ) → Begins b → begins_break (b ++ rest) ≡ false
no_break b rest g = ap (λ (x : List ℕ). begins_break (x ++ rest)) g.parts ∙ other_break g.first g.low

-- ---- strings

sound_again : (is_text : Bool) (s : List ℕ) → IsStringContent is_text s → is_string_content is_text s ≡ true
sound_again false s h = refl
sound_again true s h = is_utf8-from_IsUtf8 s h

pub string_again : (is_text : Bool) (left : ℕ) (s rest : List ℕ) → IsStringContent is_text s → string_at is_text left (length s) (s ++ rest) ≡ Ok (s, rest)
unfolding string_at
string_again is_text left s rest sound =
    let long : ltb (length (s ++ rest)) (length s) ≡ false = le-ltb _ _ (omega (arith, length-append s rest)) in
    rw (long, take_at s rest (length s) refl, drop_at s rest (length s) refl, sound_again is_text s sound) refl

pub begins_chunk-type : (is_text : Bool) → begins_chunk is_text (major_type_of (string_type is_text)) ≡ true
begins_chunk-type false = refl
begins_chunk-type true = refl

pub chunk_again : (is_text : Bool) (s c rest : List ℕ) → IsDefinite is_text s c → chunk_at is_text (c ++ rest) ≡ Ok (s, rest)
unfolding chunk_at
chunk_again is_text s c rest h =
    let r = IsHeaded-again (string_type is_text) (length s) s c rest h.1 in
    rw (r.reads, begins_chunk-type is_text, r.number, string_again is_text (length (c ++ rest)) s rest h.0) refl

-- ---- repetition

-- `read` reads each encoding by R as its value.
pub record ReadsAgain {A : Type 0} (R : A → List ℕ → Type 0) (read : Parse A) : Type 0 where
  pub again : (x : A) (c rest : List ℕ) → R x c → read (c ++ rest) ≡ Ok (x, rest)
  pub begins : (x : A) (c : List ℕ) → R x c → Begins c

pub regroup : (c d b rest : List ℕ) → b ≡ c ++ d → b ++ rest ≡ c ++ (d ++ rest)
regroup c d b rest e = ap (λ (x : List ℕ). x ++ rest) e ∙ append_assoc c d rest

pub times_again : {A : Type 0} (R : A → List ℕ → Type 0) (read : Parse A) (reads : ReadsAgain R read) (xs : List A) (b rest : List ℕ) → EachInOrder R xs b
    → times_at read (length xs) (b ++ rest) ≡ Ok (xs, rest)
unfolding times_at
times_again R read reads [] b rest h = ap (λ (x : List ℕ). Ok ([], x ++ rest)) h
times_again R read reads (x ∷ xs) b rest h =
    ap (times_at read (suc (length xs))) (regroup h.0 h.1 b rest h.4) ∙ rw (reads.again x h.0 (h.1 ++ rest) h.2, times_again R read reads xs h.1 rest h.3) refl

pub until_again : {A : Type 0} (R : A → List ℕ → Type 0) (read : Parse A) (reads : ReadsAgain R read) (turns : ℕ) (xs : List A) (b rest : List ℕ)
    → EachInOrder R xs b → length b < turns → until_at read turns (b ++ 255 ∷ rest) ≡ Ok (xs, rest)
unfolding until_at
until_again R read reads zero xs b rest h lt = absurd (omega arith)
until_again R read reads (suc turns) [] b rest h lt = ap (λ (x : List ℕ). until_at read (suc turns) (x ++ 255 ∷ rest)) h
until_again R read reads (suc turns) (x ∷ xs) b rest h lt =
    let g = reads.begins x h.0 h.2 in
    let goes = no_break h.0 (h.1 ++ 255 ∷ rest) g in
    let size : length b ≡ length h.0 + length h.1 = ap length h.4 ∙ length-append h.0 h.1 in
    let some : length h.0 ≡ suc (length g.more) = ap length g.parts in
    ap (until_at read (suc turns)) (regroup h.0 h.1 b (255 ∷ rest) h.4)
    ∙ rw (goes, reads.again x h.0 (h.1 ++ 255 ∷ rest) h.2, until_again R read reads turns xs h.1 rest h.3 (omega arith)) refl

-- Each element takes at least one byte.
pub EachInOrder-long : {A : Type 0} (R : A → List ℕ → Type 0) (begins : (x : A) (c : List ℕ) → R x c → Begins c) (xs : List A) (b : List ℕ) → EachInOrder R xs b
    → length xs ≤ length b
EachInOrder-long R begins [] b h = omega arith
EachInOrder-long R begins (x ∷ xs) b h =
    let g = begins x h.0 h.2 in
    let size : length b ≡ length h.0 + length h.1 = ap length h.4 ∙ length-append h.0 h.1 in
    let some : length h.0 ≡ suc (length g.more) = ap length g.parts in
    let others = EachInOrder-long R begins xs h.1 h.3 in
    omega arith

-- ---- enclosed items

abbrev pub list_of : Items → List Item
list_of no_items = []
list_of (item v vs) = v ∷ list_of vs

pub items_of-list_of : (vs : Items) → items_of (list_of vs) ≡ vs
items_of-list_of no_items = refl
items_of-list_of (item v vs) = ap (item v) (items_of-list_of vs)

pub length-list_of : (vs : Items) → length (list_of vs) ≡ items_count vs
length-list_of no_items = refl
length-list_of (item v vs) = ap suc (length-list_of vs)

abbrev pub pair_list_of : Pairs → List (Item × Item)
pair_list_of no_pairs = []
pair_list_of (pair k v ps) = (k, v) ∷ pair_list_of ps

pub pairs_of-pair_list_of : (ps : Pairs) → pairs_of (pair_list_of ps) ≡ ps
pairs_of-pair_list_of no_pairs = refl
pairs_of-pair_list_of (pair k v ps) = ap (pair k v) (pairs_of-pair_list_of ps)

pub length-pair_list_of : (ps : Pairs) → length (pair_list_of ps) ≡ pairs_count ps
length-pair_list_of no_pairs = refl
length-pair_list_of (pair k v ps) = ap suc (length-pair_list_of ps)

-- An encoding of a value less than d deep.
abbrev pub IsEncodingBelow : ℕ → Item → List ℕ → Type 0
IsEncodingBelow d v b = IsEncoding v b × (depth v < d)

abbrev pub IsPairEncodingBelow : ℕ → (Item × Item) → List ℕ → Type 0
IsPairEncodingBelow d p b = (c : List ℕ) × (e : List ℕ) × IsEncodingBelow d p.0 c × IsEncodingBelow d p.1 e × (b ≡ c ++ e)

AreEncodings-EachInOrder : (d : ℕ) (vs : Items) (b : List ℕ) → AreEncodings vs b → items_depth vs < d → EachInOrder (IsEncodingBelow d) (list_of vs) b
AreEncodings-EachInOrder d no_items b h lt = h
AreEncodings-EachInOrder d (item v vs) b h lt = (h.0, h.1, (h.2, omega arith), AreEncodings-EachInOrder d vs h.1 h.3 (omega arith), h.4)

ArePairEncodings-EachInOrder : (d : ℕ) (ps : Pairs) (b : List ℕ) → ArePairEncodings ps b → pairs_depth ps < d
    → EachInOrder (IsPairEncodingBelow d) (pair_list_of ps) b
ArePairEncodings-EachInOrder d no_pairs b h lt = h
ArePairEncodings-EachInOrder d (pair k v ps) b h lt = (
  h.0 ++ h.1,
  h.2,
  (h.0, h.1, (h.3, omega arith), (h.4, omega arith), refl),
  ArePairEncodings-EachInOrder d ps h.2 h.5 (omega arith),
  h.6
      ∙ sym (append_assoc h.0 h.1 h.2),
)

pub pair_reads : (d : ℕ) (read : Parse Item) → ReadsAgain (IsEncodingBelow d) read → ReadsAgain (IsPairEncodingBelow d) (pair_at read)
pair_reads d read reads = record {
  again = λ p c rest h.
      ap (pair_at read) (ap (λ (x : List ℕ). x ++ rest) h.4 ∙ append_assoc h.0 h.1 rest)
      ∙ rw (reads.again p.0 h.0 (h.1 ++ rest) h.2, reads.again p.1 h.1 rest h.3) refl;
  begins = λ p c h. begins_append h.0 h.1 c h.4 (IsEncoding-begins p.0 h.0 h.2.0);
}

-- The readers `inside` read encodings of values less than d deep as these values.
pub record InsideAgain (d : ℕ) (inside : Inside) : Type 0 where
  pub one : (v : Item) (c rest : List ℕ) → IsEncoding v c → depth v < d → inside.one (c ++ rest) ≡ Ok (v, rest)
  pub items : (vs : Items) (c rest : List ℕ) → AreEncodings vs c → items_depth vs < d → inside.items (Some (items_count vs)) (c ++ rest) ≡ Ok (list_of vs, rest)
  pub items_until : (vs : Items) (c rest : List ℕ) → AreEncodings vs c → items_depth vs < d → inside.items None (c ++ 255 ∷ rest) ≡ Ok (list_of vs, rest)
  pub pairs : (ps : Pairs) (c rest : List ℕ) → ArePairEncodings ps c → pairs_depth ps < d
      → inside.pairs (Some (pairs_count ps)) (c ++ rest) ≡ Ok (pair_list_of ps, rest)
  pub pairs_until : (ps : Pairs) (c rest : List ℕ) → ArePairEncodings ps c → pairs_depth ps < d
      → inside.pairs None (c ++ 255 ∷ rest) ≡ Ok (pair_list_of ps, rest)

nothing_again : InsideAgain 0 nothing
nothing_again = record {
  one = λ v c rest h lt. absurd (omega arith);
  items = λ v c rest h lt. absurd (omega arith);
  items_until = λ v c rest h lt. absurd (omega arith);
  pairs = λ v c rest h lt. absurd (omega arith);
  pairs_until = λ v c rest h lt. absurd (omega arith);
}

pub within_turns : (c rest : List ℕ) → length c < length (c ++ 255 ∷ rest)
within_turns c rest = omega (arith, length-append c (255 ∷ rest))

pub things_again : (d : ℕ) (read : Parse Item) → ReadsAgain (IsEncodingBelow d) read → InsideAgain d (things read)
unfolding things
things_again d read reads =
    let pair_readers = pair_reads d read reads in
    record {
      one = λ v c rest h lt. reads.again v c rest (h, lt);
      items = λ vs c rest h lt.
          let each = AreEncodings-EachInOrder d vs c h lt in
          let long : length (list_of vs) ≤ length c = EachInOrder-long (IsEncodingBelow d) reads.begins (list_of vs) c each in
          let enough : ltb (length (c ++ rest)) (length (list_of vs)) ≡ false = le-ltb _ _ (omega (arith, length-append c rest)) in
          ap (λ (n : ℕ). array_by read (Some n) (c ++ rest)) (sym (length-list_of vs))
          ∙ rw enough (times_again (IsEncodingBelow d) read reads (list_of vs) c rest each);
      items_until = λ vs c rest h lt. until_again (IsEncodingBelow d) read reads (length (c ++ 255 ∷ rest)) (list_of vs) c rest
          (AreEncodings-EachInOrder d vs c h lt) (within_turns c rest);
      pairs = λ ps c rest h lt.
          let each = ArePairEncodings-EachInOrder d ps c h lt in
          let long : length (pair_list_of ps) * 2 ≤ length c = pairs_long d (pair_list_of ps) c each in
          let enough : ltb (length (c ++ rest) / 2) (length (pair_list_of ps)) ≡ false = le-ltb _ _ (omega (arith, length-append c rest)) in
          ap (λ (n : ℕ). map_by read (Some n) (c ++ rest)) (sym (length-pair_list_of ps))
          ∙ rw enough (times_again (IsPairEncodingBelow d) (pair_at read) pair_readers (pair_list_of ps) c rest each);
      pairs_until = λ ps c rest h lt. until_again (IsPairEncodingBelow d) (pair_at read) pair_readers (length (c ++ 255 ∷ rest)) (pair_list_of ps) c rest
          (ArePairEncodings-EachInOrder d ps c h lt) (within_turns c rest);
    }
  where
    pairs_long : (d : ℕ) (ps : List (Item × Item)) (b : List ℕ) → EachInOrder (IsPairEncodingBelow d) ps b → length ps * 2 ≤ length b
    pairs_long d [] b h = omega arith
    pairs_long d (p ∷ ps) b h =
        let k = IsEncoding-begins p.0 h.2.0 h.2.2.0 in
        let v = IsEncoding-begins p.1 h.2.1 h.2.3.0 in
        let first : length h.2.0 ≡ suc (length k.more) = ap length k.parts in
        let second : length h.2.1 ≡ suc (length v.more) = ap length v.parts in
        let both : length h.0 ≡ length h.2.0 + length h.2.1 = ap length h.2.4 ∙ length-append h.2.0 h.2.1 in
        let size : length b ≡ length h.0 + length h.1 = ap length h.4 ∙ length-append h.0 h.1 in
        let others = pairs_long d ps h.1 h.3 in
        omega arith

-- Reading a string gives its content s and leaves rest.
pub record StringAgain (is_text : Bool) (left : ℕ) (s b rest : List ℕ) : Type 0 where
  argument : Argument
  more : List ℕ
  reads : head_at b ≡ Ok (head_of (string_type is_text) argument, more)
  string : any_string_by is_text left (number_of argument) more ≡ Ok (s, rest)

pub broken_is : (m : ℕ) (c b rest : List ℕ) → IsIndefinite m c b → b ++ rest ≡ (32 * m + 31) ∷ (c ++ 255 ∷ rest)
broken_is m c b rest e = ap (λ (x : List ℕ). x ++ rest) e ∙ ap (λ (x : List ℕ). (32 * m + 31) ∷ x) (append_assoc c (255 ∷ []) rest)

pub chunk_reads : (is_text : Bool) → ReadsAgain (IsDefinite is_text) (chunk_at is_text)
chunk_reads is_text = record {
  again = λ s c rest h. chunk_again is_text s c rest h;
  begins = λ s c h. IsHeaded-begins (string_type is_text) (length s) s c (type_low is_text) h.1;
}

IsStringEncoding-again : (is_text : Bool) (left : ℕ) (s b rest : List ℕ) → IsStringEncoding is_text s b → StringAgain is_text left s (b ++ rest) rest
unfolding chunks_at
IsStringEncoding-again is_text left s b rest (inl h) =
    let r = IsHeaded-again (string_type is_text) (length s) s b rest h.1 in
    record { argument = r.argument; more = s ++ rest; reads = r.reads; string = rw r.number (string_again is_text left s rest h.0) }
IsStringEncoding-again is_text left s b rest (inr h) =
    let all = until_again (IsDefinite is_text) (chunk_at is_text) (chunk_reads is_text) (length (h.1 ++ 255 ∷ rest)) h.0 h.1 rest h.3 (within_turns h.1 rest) in
    record {
      argument = places.Indefinite;
      more = h.1 ++ 255 ∷ rest;
      reads = ap head_at (broken_is (string_type is_text) h.1 b rest h.4) ∙ opening_again (string_type is_text) (h.1 ++ 255 ∷ rest);
      string = rw (all, h.2) refl;
    }

from_again : (d : ℕ) (inside : Inside) → InsideAgain d inside → (v : Item) (b rest : List ℕ) → IsEncoding v b → depth v ≤ d
    → item_from inside (b ++ rest) ≡ Ok (v, rest)
from_again d inside inner (integer (pos n)) b rest h le = let r = IsHead-again 0 n b rest h in rw (r.reads, r.number) refl
from_again d inside inner (integer (negsuc n)) b rest h le = let r = IsHead-again 1 n b rest h in rw (r.reads, r.number) refl
from_again d inside inner (bytes s) b rest h le = let r = IsStringEncoding-again false (length (b ++ rest)) s b rest h in rw (r.reads, r.string) refl
from_again d inside inner (float (half n)) b rest h le = let r = head_again two 7 n rest h.0 in ap (λ (x : List ℕ). item_from inside (x ++ rest)) h.1
    ∙ rw r refl
from_again d inside inner (float (single n)) b rest h le = let r = head_again four 7 n rest h.0 in ap (λ (x : List ℕ). item_from inside (x ++ rest)) h.1
    ∙ rw r refl
from_again d inside inner (float (double n)) b rest h le = let r = head_again eight 7 n rest h.0 in ap (λ (x : List ℕ). item_from inside (x ++ rest)) h.1
    ∙ rw r refl
from_again d inside inner (text s) b rest h le = let r = IsStringEncoding-again true (length (b ++ rest)) s b rest h in rw (r.reads, r.string) refl
from_again d inside inner (boolean false) b rest h le = let r = head_again within 7 20 rest (omega arith) in ap (λ (x : List ℕ). item_from inside (x ++ rest)) h
    ∙ rw r refl
from_again d inside inner (boolean true) b rest h le = let r = head_again within 7 21 rest (omega arith) in ap (λ (x : List ℕ). item_from inside (x ++ rest)) h
    ∙ rw r refl
from_again d inside inner null b rest h le = let r = head_again within 7 22 rest (omega arith) in ap (λ (x : List ℕ). item_from inside (x ++ rest)) h
    ∙ rw r refl
from_again d inside inner (tag t v) b rest h le =
    let r = IsHeaded-again 6 t h.0 b rest h.2 in
    rw (r.reads, r.number, inner.one v h.0 rest h.1 (omega arith)) refl
from_again d inside inner (array vs) b rest (c, h, inl e) le =
    let r = IsHeaded-again 4 (items_count vs) c b rest e in
    rw (r.reads, r.number, inner.items vs c rest h (omega arith), items_of-list_of vs) refl
from_again d inside inner (array vs) b rest (c, h, inr e) le =
    ap (item_from inside) (broken_is 4 c b rest e) ∙ rw
    (opening_again 4 (c ++ 255 ∷ rest), inner.items_until vs c rest h (omega arith), items_of-list_of vs) refl
from_again d inside inner (dict ps) b rest (c, h, inl e) le =
    let r = IsHeaded-again 5 (pairs_count ps) c b rest e in
    rw (r.reads, r.number, inner.pairs ps c rest h (omega arith), pairs_of-pair_list_of ps) refl
from_again d inside inner (dict ps) b rest (c, h, inr e) le =
    ap (item_from inside) (broken_is 5 c b rest e) ∙ rw
    (opening_again 5 (c ++ 255 ∷ rest), inner.pairs_until ps c rest h (omega arith), pairs_of-pair_list_of ps) refl

-- An encoding of a value at most d deep is read as that value, whatever follows.
pub item_again : (d : ℕ) (v : Item) (b rest : List ℕ) → IsEncoding v b → depth v ≤ d → item_at d (b ++ rest) ≡ Ok (v, rest)
unfolding item_at
item_again zero v b rest h le = from_again 0 nothing nothing_again v b rest h le
item_again (suc d) v b rest h le = from_again (suc d) (things (item_at d))
    (things_again (suc d) (item_at d) (record {
      again = λ v c rest h. item_again d v c rest h.0 (omega arith);
      begins =
          λ v c h. IsEncoding-begins v c h.0;
    })) v b rest h le

abbrev done : Item × List ℕ → Result (Item × List ℕ) Fault
done x = Ok x

-- Needed because `cc` does not look into pairs.
pub ok_is : (x y : Item × List ℕ) → done x ≡ done y → x ≡ y
ok_is x y e = cc

-- No encoding is a proper prefix of another.
pub encodings_differ : (v w : Item) (b c x y : List ℕ) → IsEncoding v b → IsEncoding w c → b ++ x ≡ c ++ y → (v ≡ w) × (b ≡ c)
encodings_differ v w b c x y h k e =
    let d = depth v + depth w in
    let both : done (v, x) ≡ done (w, y) = sym (item_again d v b x h (omega arith)) ∙ ap (item_at d) e ∙ item_again d w c y k (omega arith) in
    let same = ok_is (v, x) (w, y) both in
    let rest : x ≡ y = ap (λ (p : Item × List ℕ). p.1) same in
    (ap (λ (p : Item × List ℕ). p.0) same, append_cancel_right b c x (e ∙ ap (λ (z : List ℕ). c ++ z) (sym rest)))
