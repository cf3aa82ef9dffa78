-- Bytes that are read as a value are an encoding of it.
use Rattle.std.proofs.Common.{◌≡◌, ℕ, zero, suc, ◌+◌, ◌*◌, ◌/◌, ◌%◌, ◌^◌, ◌<◌, ◌≤◌, Bool, true, false, cond, ltb, eqb, List, [], ◌∷◌, ◌++◌, length, get_or}
use Rattle.std.proofs.Common.{take, drop, Option, Some, None, Result, Ok, Err, refl, sym, ap, subst, ◌∙◌, append_assoc, arith, inl, inr, ◌⊎◌}
use Rattle.std.specs.Prelude.{pos, negsuc}
use Rattle.std.specs.Int.{Width, w8, w16, w32, w64, byte_len, from_be_bytes, to_be_bytes}
use Rattle.std.proofs.lemmas.Bool.{ltb-true, ltb-false, eqb-true, cases_lt}
use Rattle.std.proofs.lemmas.Str.{IsUtf8-from_is_utf8}
use Rattle.std.proofs.lemmas.List.{take-append-drop, length-take, append-nil, get_or-drop, get_or-take, get_or_past}
use Rattle.std.proofs.lemmas.Nat.{be_bytes_2, be_bytes_4, be_bytes_8}
use Rattle.coset_cbor.specs.declared.fault.Fault.{Fault}
use Rattle.coset_cbor.specs.declared.fault.Fault.TheVariants.{End, Syntax, Simple}
use Rattle.coset_cbor.specs.declared.head.MajorType.{MajorType}
use Rattle.coset_cbor.specs.declared.head.MajorType.TheVariants as major_types
use Rattle.coset_cbor.specs.Heads.{Argument, HeadView, major_type_number}
use Rattle.coset_cbor.specs.Heads as places
use Rattle.coset_value.specs.Item.{half, single, double, Item, integer, bytes, float, boolean, null, tag, array, dict, items_count, pairs_count, depth}
use Rattle.coset_value.specs.Item.{items_depth, pairs_depth}
use Rattle.coset_value.specs.View.{items_of, pairs_of}
use Rattle.coset_cbor.specs.Grammar.{within, one, two, four, eight, head_in, IsHead, IsHeaded, IsIndefinite, EachInOrder, joined_chunks, IsStringContent}
use Rattle.coset_cbor.specs.Grammar.{string_type, IsDefinite, IsStringEncoding, IsEncoding, AreEncodings, ArePairEncodings}
use Rattle.coset_cbor.specs.Reading.{◌>>=◌, Parse, major_type_of, number_of, argument_at, argument_by, head_at, unless_none, is_string_content, string_at}
use Rattle.coset_cbor.specs.Reading.{begins_chunk, chunk_at, begins_break, times_at, until_at, chunks_at, any_string_by, pair_at, simple_at, Inside, nothing}
use Rattle.coset_cbor.specs.Reading.{things, item_by, item_from, item_at}
use Rattle.coset_cbor.proofs.Again.{IsEncodingBelow, IsPairEncodingBelow}

abbrev pub IsBytes : List ℕ → Type 0
IsBytes bs = (i : ℕ) → get_or bs i 0 < 256

pub IsBytes-drop : (n : ℕ) (bs : List ℕ) → IsBytes bs → IsBytes (drop n bs)
IsBytes-drop n bs h i = rw get_or-drop (h (n + i))

pub IsBytes-take : (n : ℕ) (bs : List ℕ) → IsBytes bs → IsBytes (take n bs)
IsBytes-take n bs h i =
    elim (cases_lt i n) [
      | inl lt ↦ rw (get_or-take n bs i 0 lt) (h i)
      | inr le ↦ rw (get_or_past (take n bs) i 0 (omega (arith, length-take n bs))) (omega arith)
    ]

pub IsBytes-rest : (b : ℕ) (bs : List ℕ) → IsBytes (b ∷ bs) → IsBytes bs
IsBytes-rest b bs h i = h (suc i)

-- ---- readings that succeeded

pub bind_ok : {A B : Type 0} (r : Result A Fault) (f : A → Result B Fault) (y : B) → (r >>= f) ≡ Ok y → (x : A) × (r ≡ Ok x) × (f x ≡ Ok y)
bind_ok (Ok x) f y e = (x, refl, e)
bind_ok (Err d) f y e = absurd cc

abbrev pub done : {A : Type 0} → A → Result A Fault
done x = Ok x

pub ok_is : {A : Type 0} (x y : A) → done x ≡ done y → x ≡ y
ok_is x y e = cc

pub guard_ok : {A : Type 0} (b : Bool) (d : Fault) (x : Result A Fault) (y : A) → cond b (Err d) x ≡ Ok y → (b ≡ false) × (x ≡ Ok y)
guard_ok true d x y e = absurd cc
guard_ok false d x y e = (refl, e)

pub guard_else : {A : Type 0} (b : Bool) (d : Fault) (x : Result A Fault) (y : A) → cond b x (Err d) ≡ Ok y → (b ≡ true) × (x ≡ Ok y)
guard_else true d x y e = (refl, e)
guard_else false d x y e = absurd cc

pub chosen : {A : Type 0} (b : Bool) (x y z : A) → cond b x y ≡ z → ((b ≡ true) × (x ≡ z)) ⊎ ((b ≡ false) × (y ≡ z))
chosen true x y z e = inl (refl, e)
chosen false x y z e = inr (refl, e)

pub some_ok : {A : Type 0} (left : ℕ) (o : Option ℕ) (read : ℕ → Result A Fault) (y : A) → unless_none left o read ≡ Ok y → (n : ℕ) × (o ≡ Some n)
    × (read n ≡ Ok y)
some_ok left None read y e = absurd cc
some_ok left (Some n) read y e = (n, refl, e)

pub option_cases : (o : Option ℕ) → (o ≡ None) ⊎ ((n : ℕ) × (o ≡ Some n))
option_cases None = inl refl
option_cases (Some n) = inr (n, refl)

-- ---- heads

major_type_number-major_type_of : (m : ℕ) → m < 8 → major_type_number (major_type_of m) ≡ m
major_type_number-major_type_of zero lt = refl
major_type_number-major_type_of (suc zero) lt = refl
major_type_number-major_type_of (suc (suc zero)) lt = refl
major_type_number-major_type_of (suc (suc (suc zero))) lt = refl
major_type_number-major_type_of (suc (suc (suc (suc zero)))) lt = refl
major_type_number-major_type_of (suc (suc (suc (suc (suc zero))))) lt = refl
major_type_number-major_type_of (suc (suc (suc (suc (suc (suc zero)))))) lt = refl
major_type_number-major_type_of (suc (suc (suc (suc (suc (suc (suc zero))))))) lt = refl
major_type_number-major_type_of (suc (suc (suc (suc (suc (suc (suc (suc m)))))))) lt = absurd (omega arith)

-- f is a head of major type m with this argument.
abbrev pub IsArgumentEncoding : ℕ → Argument → List ℕ → Type 0
IsArgumentEncoding m (places.Within n) f = (n < 24) × (f ≡ head_in within m n)
IsArgumentEncoding m (places.One n) f = (n < 2 ^ 8) × (f ≡ head_in one m n)
IsArgumentEncoding m (places.Two n) f = (n < 2 ^ 16) × (f ≡ head_in two m n)
IsArgumentEncoding m (places.Four n) f = (n < 2 ^ 32) × (f ≡ head_in four m n)
IsArgumentEncoding m (places.Eight n) f = (n < 2 ^ 64) × (f ≡ head_in eight m n)
IsArgumentEncoding m places.Indefinite f = f ≡ (32 * m + 31) ∷ []

some_is : (m n : ℕ) → ◌≡◌ {A = Option ℕ} (Some m) (Some n) → m ≡ n
some_is m n e = cc

pub number_head : (m n : ℕ) (a : Argument) (f : List ℕ) → IsArgumentEncoding m a f → number_of a ≡ Some n → IsHead m n f
number_head m n (places.Within k) f h e = let s : k ≡ n = some_is k n e in
    subst (λ (x : ℕ). IsHead m x f) s (record { width = within; holds = h.0; spelled = h.1 })
number_head m n (places.One k) f h e = let s : k ≡ n = some_is k n e in subst (λ (x : ℕ). IsHead m x f) s (record { width = one; holds = h.0; spelled = h.1 })
number_head m n (places.Two k) f h e = let s : k ≡ n = some_is k n e in subst (λ (x : ℕ). IsHead m x f) s (record { width = two; holds = h.0; spelled = h.1 })
number_head m n (places.Four k) f h e = let s : k ≡ n = some_is k n e in subst (λ (x : ℕ). IsHead m x f) s (record { width = four; holds = h.0; spelled = h.1 })
number_head m n (places.Eight k) f h e = let s : k ≡ n = some_is k n e in
    subst (λ (x : ℕ). IsHead m x f) s (record { width = eight; holds = h.0; spelled = h.1 })
number_head m n places.Indefinite f h e = absurd cc

pub none_head : (m : ℕ) (a : Argument) (f : List ℕ) → IsArgumentEncoding m a f → number_of a ≡ None → f ≡ (32 * m + 31) ∷ []
none_head m (places.Within k) f h e = absurd cc
none_head m (places.One k) f h e = absurd cc
none_head m (places.Two k) f h e = absurd cc
none_head m (places.Four k) f h e = absurd cc
none_head m (places.Eight k) f h e = absurd cc
none_head m places.Indefinite f h e = h

record WidthBack (w : Width) (limit : ℕ) : Type 0 where
  back : (bs : List ℕ) → length bs ≡ byte_len w → IsBytes bs → to_be_bytes w (from_be_bytes w bs) ≡ bs
  below : (bs : List ℕ) → IsBytes bs → from_be_bytes w bs < limit

one_byte : (bs : List ℕ) → length bs ≡ 1 → IsBytes bs → to_be_bytes w8 (from_be_bytes w8 bs) ≡ bs
one_byte [] len fits = absurd (omega arith)
one_byte (x ∷ []) len fits = let lt : x < 256 = fits 0 in let e : x % 256 ≡ x = omega arith in ap (λ (y : ℕ). y ∷ []) e
one_byte (x ∷ y ∷ more) len fits = absurd (omega arith)

back8 : WidthBack w8 (2 ^ 8)
back8 = record { back = one_byte; below = λ bs fits. omega (arith, fits 0) }

back16 : WidthBack w16 (2 ^ 16)
back16 = record { back = λ bs len fits. be_bytes_2 bs _ len fits refl; below = λ bs fits. omega (arith, fits 0, fits 1) }

back32 : WidthBack w32 (2 ^ 32)
back32 = record { back = λ bs len fits. be_bytes_4 bs _ len fits refl; below = λ bs fits. omega (arith, fits 0, fits 1, fits 2, fits 3) }

back64 : WidthBack w64 (2 ^ 64)
back64 = record {
  back = λ bs len fits. be_bytes_8 bs _ len fits refl;
  below =
      λ bs fits. omega (arith, fits 0, fits 1, fits 2, fits 3, fits 4, fits 5, fits 6, fits 7);
}

-- The bytes that an argument takes after an initial byte with low bits k.
record ArgumentTakes (k : ℕ) (s : List ℕ) (x : Argument × List ℕ) : Type 0 where
  more : List ℕ
  encoding : (m : ℕ) → IsArgumentEncoding m x.0 ((32 * m + k) ∷ more)
  parts : s ≡ more ++ x.1
  rest_fits : IsBytes x.1

argument_takes : (place : ℕ → Argument) (w : Width) (limit k : ℕ) (back : WidthBack w limit)
    (shows : (m n : ℕ) → n < limit → IsArgumentEncoding m (place n) ((32 * m + k) ∷ to_be_bytes w n))
    (s : List ℕ) (x : Argument × List ℕ) → IsBytes s → argument_at place w (byte_len w) s ≡ Ok x → ArgumentTakes k s x
argument_takes place w limit k back shows s x fits e =
    let g = guard_ok (ltb (length s) (byte_len w)) End (Ok (place (from_be_bytes w (take (byte_len w) s)), drop (byte_len w) s)) x e in
    let long : byte_len w ≤ length s = ltb-false _ _ g.0 in
    let front = take (byte_len w) s in
    let fits_front = IsBytes-take (byte_len w) s fits in
    let len : length front ≡ byte_len w = omega (arith, length-take (byte_len w) s) in
    subst (λ (y : Argument × List ℕ). ArgumentTakes k s y) (ok_is (place (from_be_bytes w front), drop (byte_len w) s) x g.1) (record {
      more = front;
      encoding = λ m. subst (λ (b : List ℕ). IsArgumentEncoding m (place (from_be_bytes w front)) ((32 * m + k) ∷ b)) (back.back front len fits_front)
          (shows m (from_be_bytes w front) (back.below front fits_front));
      parts = sym (take-append-drop (byte_len w) s);
      rest_fits = IsBytes-drop (byte_len w) s fits;
    })

argument_by_takes : (info left : ℕ) (s : List ℕ) (x : Argument × List ℕ) → IsBytes s → argument_by info left s ≡ Ok x → ArgumentTakes info s x
argument_by_takes info left s x fits e =
    elim (chosen (ltb info 24) _ _ _ e) [
      | inl a ↦ let lt : info < 24 = ltb-true _ _ a.0 in
          subst (λ (y : Argument × List ℕ). ArgumentTakes info s y) (ok_is (places.Within info, s) x a.1)
          (record { more = []; encoding = λ m. (lt, plain m); parts = refl; rest_fits = fits })
      | inr a ↦ elim (chosen (eqb info 24) _ _ _ a.1) [
        | inl b ↦ subst (λ (k : ℕ). ArgumentTakes k s x) (sym (eqb-true _ _ b.0))
            (argument_takes places.One w8 (2 ^ 8) 24 back8 (λ m n lt. (lt, refl)) s x fits b.1)
        | inr b ↦ elim (chosen (eqb info 25) _ _ _ b.1) [
          | inl c ↦ subst (λ (k : ℕ). ArgumentTakes k s x) (sym (eqb-true _ _ c.0))
              (argument_takes places.Two w16 (2 ^ 16) 25 back16 (λ m n lt. (lt, refl)) s x fits c.1)
          | inr c ↦ elim (chosen (eqb info 26) _ _ _ c.1) [
            | inl d ↦ subst (λ (k : ℕ). ArgumentTakes k s x) (sym (eqb-true _ _ d.0))
                (argument_takes places.Four w32 (2 ^ 32) 26 back32 (λ m n lt. (lt, refl)) s x fits d.1)
            | inr d ↦ elim (chosen (eqb info 27) _ _ _ d.1) [
              | inl f ↦ subst (λ (k : ℕ). ArgumentTakes k s x) (sym (eqb-true _ _ f.0))
                  (argument_takes places.Eight w64 (2 ^ 64) 27 back64 (λ m n lt. (lt, refl)) s x fits f.1)
              | inr f ↦
                  let g = guard_else (eqb info 31) (Syntax left) (Ok (places.Indefinite, s)) x f.1 in
                  let is : 31 ≡ info = sym (eqb-true _ _ g.0) in
                  subst (λ (k : ℕ). ArgumentTakes k s x) is
                  (subst (λ (y : Argument × List ℕ). ArgumentTakes 31 s y) (ok_is (places.Indefinite, s) x g.1)
                  (record { more = []; encoding = λ m. refl; parts = refl; rest_fits = fits }))
            ]
          ]
        ]
      ]
    ]
  where
    plain : (m : ℕ) → ◌≡◌ {A = List ℕ} ((32 * m + info) ∷ []) ((32 * m + info) ∷ [])
    plain m = refl

-- The bytes that a head takes.
pub record HeadTakes (s : List ℕ) (x : HeadView × List ℕ) : Type 0 where
  pub front : List ℕ
  pub encoding : IsArgumentEncoding (major_type_number x.0.major_type) x.0.argument front
  pub parts : s ≡ front ++ x.1
  pub rest_fits : IsBytes x.1

pub head_takes : (s : List ℕ) (x : HeadView × List ℕ) → IsBytes s → head_at s ≡ Ok x → HeadTakes s x
unfolding head_at
head_takes [] x fits e = absurd cc
head_takes (b ∷ s) x fits e =
    let low : b < 256 = fits 0 in
    let q : b / 32 < 8 = omega arith in
    let split : b ≡ 32 * (b / 32) + b % 32 = omega arith in
    let r = bind_ok (argument_by (b % 32) (suc (length s)) s) (λ a. Ok (record { major_type = major_type_of (b / 32); argument = a.0 }, a.1)) x e in
    let t = argument_by_takes (b % 32) (suc (length s)) s r.0 (IsBytes-rest b s fits) r.1 in
    let made : HeadView × List ℕ = (record { major_type = major_type_of (b / 32); argument = r.0.0 }, r.0.1) in
    subst (λ (y : HeadView × List ℕ). HeadTakes (b ∷ s) y) (ok_is made x r.2) (record {
      front = b ∷ t.more;
      encoding = subst (λ (m : ℕ). IsArgumentEncoding m r.0.0 (b ∷ t.more)) (sym (major_type_number-major_type_of (b / 32) q))
          (subst (λ (y : ℕ). IsArgumentEncoding (b / 32) r.0.0 (y ∷ t.more)) (sym split) (t.encoding (b / 32)));
      parts = ap (λ (y : List ℕ). b ∷ y) t.parts;
      rest_fits = t.rest_fits;
    })

-- ---- readers

pub record Takes {A : Type 0} (R : A → List ℕ → Type 0) (s : List ℕ) (x : A × List ℕ) : Type 0 where
  pub front : List ℕ
  pub encoding : R x.0 front
  pub parts : s ≡ front ++ x.1
  pub rest_fits : IsBytes x.1

abbrev pub IsSoundReader : {A : Type 0} → (A → List ℕ → Type 0) → Parse A → Type 0
IsSoundReader {A} R read = (s : List ℕ) (x : A × List ℕ) → IsBytes s → read s ≡ Ok x → Takes R s x

record StringTakes (is_text : Bool) (n : ℕ) (s : List ℕ) (x : List ℕ × List ℕ) : Type 0 where
  sound : IsStringContent is_text x.0
  len : length x.0 ≡ n
  parts : s ≡ x.0 ++ x.1
  rest_fits : IsBytes x.1

sound_takes : (is_text : Bool) (s : List ℕ) → is_string_content is_text s ≡ true → IsStringContent is_text s
sound_takes false s e = tt
sound_takes true s e = IsUtf8-from_is_utf8 s e

string_takes : (is_text : Bool) (left n : ℕ) (s : List ℕ) (x : List ℕ × List ℕ) → IsBytes s → string_at is_text left n s ≡ Ok x → StringTakes is_text n s x
unfolding string_at
string_takes is_text left n s x fits e =
    let g = guard_ok (ltb (length s) n) End (cond (is_string_content is_text (take n s)) (Ok (take n s, drop n s)) (Err (Syntax left))) x e in
    let h = guard_else (is_string_content is_text (take n s)) (Syntax left) (Ok (take n s, drop n s)) x g.1 in
    let long : n ≤ length s = ltb-false _ _ g.0 in
    subst (λ (y : List ℕ × List ℕ). StringTakes is_text n s y) (ok_is (take n s, drop n s) x h.1) (record {
      sound = sound_takes is_text (take n s) h.0;
      len = omega (arith, length-take n s);
      parts = sym (take-append-drop n s);
      rest_fits = IsBytes-drop n s fits;
    })

-- A head with the string's length, and then the string.
definite_takes : (is_text : Bool) (n : ℕ) (f s : List ℕ) (x : List ℕ × List ℕ) → IsHead (string_type is_text) n f → StringTakes is_text n s x
    → IsDefinite is_text x.0 (f ++ x.0)
definite_takes is_text n f s x h t = (t.sound, record { head = f; is_head = subst (λ (k : ℕ). IsHead (string_type is_text) k f) (sym t.len) h; parts = refl })

pub chunk_type : (is_text : Bool) (k : MajorType) → begins_chunk is_text k ≡ true → major_type_number k ≡ string_type is_text
chunk_type false major_types.Bytes e = refl
chunk_type true major_types.Bytes e = absurd cc
chunk_type true major_types.Text e = refl
chunk_type false major_types.Text e = absurd cc
chunk_type is_text major_types.Unsigned e = absurd cc
chunk_type is_text major_types.Negative e = absurd cc
chunk_type is_text major_types.Array e = absurd cc
chunk_type is_text major_types.Map e = absurd cc
chunk_type is_text major_types.Tag e = absurd cc
chunk_type is_text major_types.Simple e = absurd cc

pub chunk_takes : (is_text : Bool) → IsSoundReader (IsDefinite is_text) (chunk_at is_text)
unfolding chunk_at
chunk_takes is_text s x fits e =
    let r = bind_ok (head_at s) (λ h. cond (begins_chunk is_text h.0.major_type)
    (unless_none (length s) (number_of h.0.argument) (λ n. string_at is_text (length s) n h.1)) (Err (Syntax (length s)))) x e in
    let h = r.0 in
    let g = guard_else (begins_chunk is_text h.0.major_type) (Syntax (length s)) _ x r.2 in
    let n = some_ok (length s) (number_of h.0.argument) (λ n. string_at is_text (length s) n h.1) x g.1 in
    let head = head_takes s h fits r.1 in
    let t = string_takes is_text (length s) n.0 h.1 x head.rest_fits n.2 in
    let is = number_head (major_type_number h.0.major_type) n.0 h.0.argument head.front head.encoding n.1 in
    record {
      front = head.front ++ x.0;
      encoding = definite_takes is_text n.0 head.front h.1 x (subst (λ (m : ℕ). IsHead m n.0 head.front) (chunk_type is_text h.0.major_type g.0) is) t;
      parts = head.parts ∙ ap (λ (y : List ℕ). head.front ++ y) t.parts ∙ sym (append_assoc head.front x.0 x.1);
      rest_fits = t.rest_fits;
    }

pub times_take : {A : Type 0} (R : A → List ℕ → Type 0) (read : Parse A) → IsSoundReader R read → (n : ℕ) (s : List ℕ) (x : List A × List ℕ) → IsBytes s
    → times_at read n s ≡ Ok x → Takes (EachInOrder R) s x × (length x.0 ≡ n)
unfolding times_at
times_take {A} R read sound zero s x fits e =
    subst (λ (y : List A × List ℕ). Takes (EachInOrder R) s y × (length y.0 ≡ 0)) (ok_is ([], s) x e)
    (record { front = []; encoding = refl; parts = refl; rest_fits = fits }, refl)
times_take {A} R read sound (suc n) s x fits e =
    let a = bind_ok (read s) (λ x. times_at read n x.1 >>= λ xs. Ok (x.0 ∷ xs.0, xs.1)) x e in
    let b = bind_ok (times_at read n a.0.1) (λ xs. Ok (a.0.0 ∷ xs.0, xs.1)) x a.2 in
    let t = sound s a.0 fits a.1 in
    let u = times_take R read sound n a.0.1 b.0 t.rest_fits b.1 in
    let made : List A × List ℕ = (a.0.0 ∷ b.0.0, b.0.1) in
    subst (λ (y : List A × List ℕ). Takes (EachInOrder R) s y × (length y.0 ≡ suc n)) (ok_is made x b.2) (
      record {
        front = t.front ++ u.0.front;
        encoding = (t.front, u.0.front, t.encoding, u.0.encoding, refl);
        parts = t.parts ∙ ap (λ (y : List ℕ). t.front ++ y) u.0.parts ∙ sym (append_assoc t.front u.0.front b.0.1);
        rest_fits = u.0.rest_fits;
      },
      ap suc u.1,
    )

-- The bytes that are read before the break.
pub record TakesBroken {A : Type 0} (R : A → List ℕ → Type 0) (s : List ℕ) (x : List A × List ℕ) : Type 0 where
  pub front : List ℕ
  pub encoding : EachInOrder R x.0 front
  pub parts : s ≡ front ++ 255 ∷ x.1
  pub rest_fits : IsBytes x.1

pub break_is : (s : List ℕ) → begins_break s ≡ true → s ≡ 255 ∷ drop 1 s
break_is [] e = absurd cc
break_is (x ∷ s) e = ap (λ (y : ℕ). y ∷ s) (eqb-true x 255 e)

pub until_take : {A : Type 0} (R : A → List ℕ → Type 0) (read : Parse A) → IsSoundReader R read → (turns : ℕ) (s : List ℕ) (x : List A × List ℕ) → IsBytes s
    → until_at read turns s ≡ Ok x → TakesBroken R s x
unfolding until_at
until_take R read sound zero s x fits e = absurd cc
until_take {A} R read sound (suc turns) s x fits e =
    elim (chosen (begins_break s) _ _ _ e) [
      | inl c ↦ subst (λ (y : List A × List ℕ). TakesBroken R s y) (ok_is ([], drop 1 s) x c.1)
          (record { front = []; encoding = refl; parts = break_is s c.0; rest_fits = IsBytes-drop 1 s fits })
      | inr c ↦
          let a = bind_ok (read s) (λ x. until_at read turns x.1 >>= λ xs. Ok (x.0 ∷ xs.0, xs.1)) x c.1 in
          let b = bind_ok (until_at read turns a.0.1) (λ xs. Ok (a.0.0 ∷ xs.0, xs.1)) x a.2 in
          let t = sound s a.0 fits a.1 in
          let u = until_take R read sound turns a.0.1 b.0 t.rest_fits b.1 in
          let made : List A × List ℕ = (a.0.0 ∷ b.0.0, b.0.1) in
          subst (λ (y : List A × List ℕ). TakesBroken R s y) (ok_is made x b.2) (record {
            front = t.front ++ u.front;
            encoding = (t.front, u.front, t.encoding, u.encoding, refl);
            parts = t.parts ∙ ap (λ (y : List ℕ). t.front ++ y) u.parts ∙ sym (append_assoc t.front u.front (255 ∷ b.0.1));
            rest_fits = u.rest_fits;
          })
    ]

-- ---- enclosed items

pub pair_takes : (d : ℕ) (read : Parse Item) → IsSoundReader (IsEncodingBelow d) read → IsSoundReader (IsPairEncodingBelow d) (pair_at read)
pair_takes d read sound s x fits e =
    let a = bind_ok (read s) (λ k. read k.1 >>= λ v. Ok ((k.0, v.0), v.1)) x e in
    let b = bind_ok (read a.0.1) (λ v. Ok ((a.0.0, v.0), v.1)) x a.2 in
    let t = sound s a.0 fits a.1 in
    let u = sound a.0.1 b.0 t.rest_fits b.1 in
    let made : (Item × Item) × List ℕ = ((a.0.0, b.0.0), b.0.1) in
    subst (λ (y : (Item × Item) × List ℕ). Takes (IsPairEncodingBelow d) s y) (ok_is made x b.2) (record {
      front = t.front ++ u.front;
      encoding = (t.front, u.front, t.encoding, u.encoding, refl);
      parts = t.parts ∙ ap (λ (y : List ℕ). t.front ++ y) u.parts ∙ sym (append_assoc t.front u.front b.0.1);
      rest_fits = u.rest_fits;
    })

items_count-items_of : (vs : List Item) → items_count (items_of vs) ≡ length vs
items_count-items_of [] = refl
items_count-items_of (v ∷ vs) = ap suc (items_count-items_of vs)

pairs_count-pairs_of : (ps : List (Item × Item)) → pairs_count (pairs_of ps) ≡ length ps
pairs_count-pairs_of [] = refl
pairs_count-pairs_of (p ∷ ps) = ap suc (pairs_count-pairs_of ps)

AreEncodings-from : (d : ℕ) (vs : List Item) (b : List ℕ) → 0 < d → EachInOrder (IsEncodingBelow d) vs b → AreEncodings (items_of vs) b
    × (items_depth (items_of vs) < d)
AreEncodings-from d [] b lt h = (h, lt)
AreEncodings-from d (v ∷ vs) b lt h =
    let others = AreEncodings-from d vs h.1 lt h.3 in
    let here = h.2.1 in
    let there = others.1 in
    ((h.0, h.1, h.2.0, others.0, h.4), omega arith)

ArePairEncodings-from : (d : ℕ) (ps : List (Item × Item)) (b : List ℕ) → 0 < d → EachInOrder (IsPairEncodingBelow d) ps b → ArePairEncodings (pairs_of ps) b
    × (pairs_depth (pairs_of ps) < d)
ArePairEncodings-from d [] b lt h = (h, lt)
ArePairEncodings-from d (p ∷ ps) b lt h =
    let others = ArePairEncodings-from d ps h.1 lt h.3 in
    let key = h.2.2.1 in
    let value = h.2.3.1 in
    let there = others.1 in
    ((h.2.0, h.2.1, h.1, h.2.2.0, h.2.3.0, others.0, h.4 ∙ ap (λ (y : List ℕ). y ++ h.1) h.2.4 ∙ append_assoc h.2.0 h.2.1 h.1), omega arith)

pub record InsideTakes (d : ℕ) (inside : Inside) : Type 0 where
  pub one : (s : List ℕ) (x : Item × List ℕ) → IsBytes s → inside.one s ≡ Ok x → Takes (IsEncodingBelow d) s x
  pub items : (n : ℕ) (s : List ℕ) (x : List Item × List ℕ) → IsBytes s → inside.items (Some n) s ≡ Ok x → Takes (EachInOrder (IsEncodingBelow d)) s x
      × (length x.0 ≡ n) × (0 < d)
  pub items_until : (s : List ℕ) (x : List Item × List ℕ) → IsBytes s → inside.items None s ≡ Ok x → TakesBroken (IsEncodingBelow d) s x × (0 < d)
  pub pairs : (n : ℕ) (s : List ℕ) (x : List (Item × Item) × List ℕ) → IsBytes s → inside.pairs (Some n) s ≡ Ok x
      → Takes (EachInOrder (IsPairEncodingBelow d)) s x × (length x.0 ≡ n) × (0 < d)
  pub pairs_until : (s : List ℕ) (x : List (Item × Item) × List ℕ) → IsBytes s → inside.pairs None s ≡ Ok x → TakesBroken (IsPairEncodingBelow d) s x × (0 < d)

nothing_takes : InsideTakes 0 nothing
unfolding nothing
nothing_takes = record {
  one = λ s x fits e. absurd cc;
  items = λ n s x fits e. absurd cc;
  items_until = λ s x fits e. absurd cc;
  pairs = λ n s x fits e. absurd cc;
  pairs_until = λ s x fits e. absurd cc;
}

things_take : (d : ℕ) (read : Parse Item) → IsSoundReader (IsEncodingBelow (suc d)) read → InsideTakes (suc d) (things read)
unfolding things
things_take d read sound =
    let pairs_sound = pair_takes (suc d) read sound in
    record {
      one = λ s x fits e. sound s x fits e;
      items = λ n s x fits e.
          let g = guard_ok (ltb (length s) n) End (times_at read n s) x e in
          let t = times_take (IsEncodingBelow (suc d)) read sound n s x fits g.1 in (t.0, t.1, omega arith);
      items_until = λ s x fits e. (until_take (IsEncodingBelow (suc d)) read sound (length s) s x fits e, omega arith);
      pairs = λ n s x fits e.
          let g = guard_ok (ltb (length s / 2) n) End (times_at (pair_at read) n s) x e in
          let t = times_take (IsPairEncodingBelow (suc d)) (pair_at read) pairs_sound n s x fits g.1 in (t.0, t.1, omega arith);
      pairs_until = λ s x fits e. (until_take (IsPairEncodingBelow (suc d)) (pair_at read) pairs_sound (length s) s x fits e, omega arith);
    }

-- ---- items

-- The bytes that an item takes after its head f.
record Behind {A : Type 0} (R : A → List ℕ → Type 0) (f s : List ℕ) (x : A × List ℕ) : Type 0 where
  more : List ℕ
  body : R x.0 (f ++ more)
  parts : s ≡ more ++ x.1
  rest_fits : IsBytes x.1

abbrev pub IsEncodingUpTo : ℕ → Item → List ℕ → Type 0
IsEncodingUpTo d v b = IsEncoding v b × (depth v ≤ d)

broken_parts : (c s rest : List ℕ) → s ≡ c ++ 255 ∷ rest → s ≡ (c ++ 255 ∷ []) ++ rest
broken_parts c s rest e = e ∙ sym (append_assoc c (255 ∷ []) rest)

broken_body : (m : ℕ) (f c : List ℕ) → f ≡ (32 * m + 31) ∷ [] → IsIndefinite m c (f ++ (c ++ 255 ∷ []))
broken_body m f c e = ap (λ (y : List ℕ). y ++ (c ++ 255 ∷ [])) e

any_string_takes : (is_text : Bool) (left : ℕ) (a : Argument) (f s : List ℕ) (x : List ℕ × List ℕ) → IsBytes s → IsArgumentEncoding (string_type is_text) a f
    → any_string_by is_text left (number_of a) s ≡ Ok x → Behind (IsStringEncoding is_text) f s x
unfolding chunks_at
any_string_takes is_text left a f s x fits t e =
    elim (option_cases (number_of a)) [
      | inl none ↦
          let e' : chunks_at is_text s ≡ Ok x = ap (λ (o : Option ℕ). any_string_by is_text left o s) (sym none) ∙ e in
          let r = bind_ok (until_at (chunk_at is_text) (length s) s) (λ y. Ok (joined_chunks y.0, y.1)) x e' in
          let u = until_take (IsDefinite is_text) (chunk_at is_text) (chunk_takes is_text) (length s) s r.0 fits r.1 in
          let made : List ℕ × List ℕ = (joined_chunks r.0.0, r.0.1) in
          subst (λ (y : List ℕ × List ℕ). Behind (IsStringEncoding is_text) f s y) (ok_is made x r.2) (record {
            more = u.front ++ 255 ∷ [];
            body = inr (r.0.0, u.front, refl, u.encoding, broken_body (string_type is_text) f u.front (none_head (string_type is_text) a f t none));
            parts = broken_parts u.front s r.0.1 u.parts;
            rest_fits = u.rest_fits;
          })
      | inr some ↦
          let n = some.0 in
          let e' : string_at is_text left n s ≡ Ok x = ap (λ (o : Option ℕ). any_string_by is_text left o s) (sym some.1) ∙ e in
          let u = string_takes is_text left n s x fits e' in
          record {
            more = x.0;
            body = inl (definite_takes is_text n f s x (number_head (string_type is_text) n a f t some.1) u);
            parts = u.parts;
            rest_fits = u.rest_fits;
          }
    ]

headed : (m n k : ℕ) (f c : List ℕ) → IsHead m n f → n ≡ k → IsHeaded m k c (f ++ c)
headed m n k f c h e = record { head = f; is_head = subst (λ (y : ℕ). IsHead m y f) e h; parts = refl }

plain_takes : (d : ℕ) (f s : List ℕ) (v : Item) (x : Item × List ℕ) → IsBytes s → IsEncoding v (f ++ []) → depth v ≤ d → done (v, s) ≡ done x
    → Behind (IsEncodingUpTo d) f s x
plain_takes d f s v x fits t le e = subst (λ (y : Item × List ℕ). Behind (IsEncodingUpTo d) f s y) (ok_is (v, s) x e)
    (record { more = []; body = (t, le); parts = refl; rest_fits = fits })

within_is : (n k : ℕ) (f : List ℕ) → f ≡ head_in within 7 n → eqb n k ≡ true → f ++ [] ≡ head_in within 7 k
within_is n k f h e = append-nil f ∙ h ∙ ap (λ (y : ℕ). head_in within 7 y) (eqb-true n k e)

simple_takes : (d left : ℕ) (a : Argument) (f s : List ℕ) (x : Item × List ℕ) → IsBytes s → IsArgumentEncoding 7 a f → simple_at left a s ≡ Ok x
    → Behind (IsEncodingUpTo d) f s x
simple_takes d left (places.Within n) f s x fits t e =
    elim (chosen (eqb n 20) _ _ _ e) [
      | inl a ↦ plain_takes d f s (boolean false) x fits (within_is n 20 f t.1 a.0) (omega arith) a.1
      | inr a ↦ elim (chosen (eqb n 21) _ _ _ a.1) [
        | inl b ↦ plain_takes d f s (boolean true) x fits (within_is n 21 f t.1 b.0) (omega arith) b.1
        | inr b ↦
            let g = guard_else (eqb n 22) (Simple left) (Ok (null, s)) x b.1 in
            plain_takes d f s null x fits (within_is n 22 f t.1 g.0) (omega arith) g.1
      ]
    ]
simple_takes d left (places.One n) f s x fits t e = elim (chosen (ltb n 32) _ _ _ e) [ inl a ↦ absurd (cc (a.1)) | inr a ↦ absurd (cc (a.1)) ]
simple_takes d left (places.Two n) f s x fits t e = plain_takes d f s (float (half n)) x fits (t.0, append-nil f ∙ t.1) (omega arith) e
simple_takes d left (places.Four n) f s x fits t e = plain_takes d f s (float (single n)) x fits (t.0, append-nil f ∙ t.1) (omega arith) e
simple_takes d left (places.Eight n) f s x fits t e = plain_takes d f s (float (double n)) x fits (t.0, append-nil f ∙ t.1) (omega arith) e
simple_takes d left places.Indefinite f s x fits t e = absurd cc

by_takes : (d : ℕ) (inside : Inside) → InsideTakes d inside → (left : ℕ) (a : Argument) (k : MajorType) (f s : List ℕ) (x : Item × List ℕ) → IsBytes s
    → IsArgumentEncoding (major_type_number k) a f → item_by inside left a k s ≡ Ok x → Behind (IsEncodingUpTo d) f s x
by_takes d inside inner left a major_types.Unsigned f s x fits t e =
    let n = some_ok left (number_of a) (λ n. Ok (integer (pos n), s)) x e in
    plain_takes d f s (integer (pos n.0)) x fits (subst (λ (b : List ℕ). IsHead 0 n.0 b) (sym (append-nil f)) (number_head 0 n.0 a f t n.1)) (omega arith) n.2
by_takes d inside inner left a major_types.Negative f s x fits t e =
    let n = some_ok left (number_of a) (λ n. Ok (integer (negsuc n), s)) x e in
    plain_takes d f s (integer (negsuc n.0)) x fits (subst (λ (b : List ℕ). IsHead 1 n.0 b) (sym (append-nil f)) (number_head 1 n.0 a f t n.1))
    (omega arith) n.2
by_takes d inside inner left a major_types.Bytes f s x fits t e =
    let r = bind_ok (any_string_by false left (number_of a) s) (λ y. Ok (bytes y.0, y.1)) x e in
    let u = any_string_takes false left a f s r.0 fits t r.1 in
    let made : Item × List ℕ = (bytes r.0.0, r.0.1) in
    subst (λ (y : Item × List ℕ). Behind (IsEncodingUpTo d) f s y) (ok_is made x r.2)
    (record { more = u.more; body = (u.body, omega arith); parts = u.parts; rest_fits = u.rest_fits })
by_takes d inside inner left a major_types.Text f s x fits t e =
    let r = bind_ok (any_string_by true left (number_of a) s) (λ y. Ok (Item.text y.0, y.1)) x e in
    let u = any_string_takes true left a f s r.0 fits t r.1 in
    let made : Item × List ℕ = (Item.text r.0.0, r.0.1) in
    subst (λ (y : Item × List ℕ). Behind (IsEncodingUpTo d) f s y) (ok_is made x r.2)
    (record { more = u.more; body = (u.body, omega arith); parts = u.parts; rest_fits = u.rest_fits })
by_takes d inside inner left a major_types.Array f s x fits t e =
    let r = bind_ok (inside.items (number_of a) s) (λ y. Ok (array (items_of y.0), y.1)) x e in
    let made : Item × List ℕ = (array (items_of r.0.0), r.0.1) in
    subst (λ (y : Item × List ℕ). Behind (IsEncodingUpTo d) f s y) (ok_is made x r.2) (elim (option_cases (number_of a)) [
      | inl none ↦
          let u = inner.items_until s r.0 fits (ap (λ (o : Option ℕ). inside.items o s) (sym none) ∙ r.1) in
          let all = AreEncodings-from d r.0.0 u.0.front u.1 u.0.encoding in
          let deep = all.1 in
          record {
            more = u.0.front ++ 255 ∷ [];
            body = ((u.0.front, all.0, inr (broken_body 4 f u.0.front (none_head 4 a f t none))), omega arith);
            parts =
                broken_parts u.0.front s r.0.1 u.0.parts;
            rest_fits = u.0.rest_fits;
          }
      | inr some ↦
          let u = inner.items some.0 s r.0 fits (ap (λ (o : Option ℕ). inside.items o s) (sym some.1) ∙ r.1) in
          let all = AreEncodings-from d r.0.0 u.0.front u.2 u.0.encoding in
          let deep = all.1 in
          record {
            more = u.0.front;
            body = (
              (
                u.0.front,
                all.0,
                inl (headed 4 some.0 _ f u.0.front (number_head 4 some.0 a f t some.1) (sym u.1 ∙ sym (items_count-items_of r.0.0))),
              ),
              omega arith,
            );
            parts =
                u.0.parts;
            rest_fits = u.0.rest_fits;
          }
    ])
by_takes d inside inner left a major_types.Map f s x fits t e =
    let r = bind_ok (inside.pairs (number_of a) s) (λ y. Ok (dict (pairs_of y.0), y.1)) x e in
    let made : Item × List ℕ = (dict (pairs_of r.0.0), r.0.1) in
    subst (λ (y : Item × List ℕ). Behind (IsEncodingUpTo d) f s y) (ok_is made x r.2) (elim (option_cases (number_of a)) [
      | inl none ↦
          let u = inner.pairs_until s r.0 fits (ap (λ (o : Option ℕ). inside.pairs o s) (sym none) ∙ r.1) in
          let all = ArePairEncodings-from d r.0.0 u.0.front u.1 u.0.encoding in
          let deep = all.1 in
          record {
            more = u.0.front ++ 255 ∷ [];
            body = ((u.0.front, all.0, inr (broken_body 5 f u.0.front (none_head 5 a f t none))), omega arith);
            parts =
                broken_parts u.0.front s r.0.1 u.0.parts;
            rest_fits = u.0.rest_fits;
          }
      | inr some ↦
          let u = inner.pairs some.0 s r.0 fits (ap (λ (o : Option ℕ). inside.pairs o s) (sym some.1) ∙ r.1) in
          let all = ArePairEncodings-from d r.0.0 u.0.front u.2 u.0.encoding in
          let deep = all.1 in
          record {
            more = u.0.front;
            body = (
              (
                u.0.front,
                all.0,
                inl (headed 5 some.0 _ f u.0.front (number_head 5 some.0 a f t some.1) (sym u.1 ∙ sym (pairs_count-pairs_of r.0.0))),
              ),
              omega arith,
            );
            parts =
                u.0.parts;
            rest_fits = u.0.rest_fits;
          }
    ])
by_takes d inside inner left a major_types.Tag f s x fits t e =
    let n = some_ok left (number_of a) (λ n. inside.one s >>= λ y. Ok (tag n y.0, y.1)) x e in
    let r = bind_ok (inside.one s) (λ y. Ok (tag n.0 y.0, y.1)) x n.2 in
    let u = inner.one s r.0 fits r.1 in
    let deep = u.encoding.1 in
    let made : Item × List ℕ = (tag n.0 r.0.0, r.0.1) in
    subst (λ (y : Item × List ℕ). Behind (IsEncodingUpTo d) f s y) (ok_is made x r.2)
    (record {
      more = u.front;
      body = ((u.front, u.encoding.0, headed 6 n.0 n.0 f u.front (number_head 6 n.0 a f t n.1) refl), omega arith);
      parts =
          u.parts;
      rest_fits = u.rest_fits;
    })
by_takes d inside inner left a major_types.Simple f s x fits t e = simple_takes d left a f s x fits t e

from_takes : (d : ℕ) (inside : Inside) → InsideTakes d inside → IsSoundReader (IsEncodingUpTo d) (item_from inside)
from_takes d inside inner s x fits e =
    let r = bind_ok (head_at s) (λ h. item_by inside (length s) h.0.argument h.0.major_type h.1) x e in
    let h = head_takes s r.0 fits r.1 in
    let u = by_takes d inside inner (length s) r.0.0.argument r.0.0.major_type h.front r.0.1 x h.rest_fits h.encoding r.2 in
    record {
      front = h.front ++ u.more;
      encoding = u.body;
      parts = h.parts ∙ ap (λ (y : List ℕ). h.front ++ y) u.parts ∙ sym (append_assoc h.front u.more x.1);
      rest_fits = u.rest_fits;
    }

-- Bytes that are read as a value are an encoding of it, and the value is at most d deep.
pub item_takes : (d : ℕ) → IsSoundReader (IsEncodingUpTo d) (item_at d)
unfolding item_at
item_takes zero s x fits e = from_takes 0 nothing nothing_takes s x fits e
item_takes (suc d) s x fits e =
    from_takes (suc d) (things (item_at d)) (things_take d (item_at d) (λ s x fits e.
    let t = item_takes d s x fits e in
    let le = t.encoding.1 in
    record { front = t.front; encoding = (t.encoding.0, omega arith); parts = t.parts; rest_fits = t.rest_fits })) s x fits e
