-- A check takes at most as many steps as there are bytes, even if it fails.
use Rattle.std.proofs.Common.{◌≡◌, ℕ, zero, suc, ◌+◌, ◌/◌, ◌%◌, ◌≤◌, Bool, true, false, cond, ltb, eqb, List, [], ◌∷◌, take, drop, length, Option, Some, None}
use Rattle.std.proofs.Common.{Result, Ok, Err, refl, ap, arith}
use Rattle.std.specs.Prelude.{pos, negsuc}
use Rattle.std.specs.Int.{Width, w8, w16, w32, w64, from_be_bytes}
use Rattle.std.proofs.lemmas.Bool.{ltb-false}
use Rattle.std.proofs.lemmas.List.{length-take, length-drop}
use Rattle.coset_value.specs.Item.{Item}
use Rattle.coset_value.specs.View.{items_of, pairs_of}
use Rattle.coset_cbor.specs.declared.fault.Fault.{Fault}
use Rattle.coset_cbor.specs.declared.fault.Fault.TheVariants.{End, Syntax, Simple}
use Rattle.coset_cbor.specs.declared.head.MajorType.{MajorType}
use Rattle.coset_cbor.specs.declared.head.MajorType.TheVariants as major_types
use Rattle.coset_cbor.specs.Heads.{Argument, HeadView}
use Rattle.coset_cbor.specs.Heads as places
use Rattle.coset_cbor.specs.Grammar.{joined_chunks}
use Rattle.coset_cbor.specs.Reading.{◌>>=◌, Parse, major_type_of, number_of, argument_at, argument_by, head_at, unless_none, is_string_content, string_at}
use Rattle.coset_cbor.specs.Reading.{begins_chunk, chunk_at, begins_break, times_at, until_at, chunks_at, any_string_by, pair_at, array_by, map_by, simple_at}
use Rattle.coset_cbor.specs.Reading.{Inside, nothing, things, item_by, item_from, item_at}
use Rattle.coset_cbor.specs.Cost.{content_cost}
use Rattle.coset_cbor.specs.Counting.{after, if_some, content_steps, chunk_steps, times_steps, until_steps, string_steps, pair_steps, array_steps, map_steps}
use Rattle.coset_cbor.specs.Counting.{StepsInside, no_steps, steps_of, body_steps, steps_from, item_steps}
use Rattle.coset_cbor.proofs.Takes.{break_is}

-- k is at most the number of bytes that were read, or, if reading failed, the number of all bytes.
abbrev pub IsWithin : {A : Type 0} → ℕ → List ℕ → Result (A × List ℕ) Fault → Type 0
IsWithin k s (Ok x) = k + length x.1 ≤ length s
IsWithin k s (Err f) = k ≤ length s

later : {A : Type 0} (k j : ℕ) (s t : List ℕ) (r : Result (A × List ℕ) Fault) → k + length t ≤ length s → IsWithin j t r → IsWithin (k + j) s r
later k j s t (Ok x) le h = omega arith
later k j s t (Err f) le h = omega arith

within_then : {A B : Type 0} (k : ℕ) (s : List ℕ) (r : Result (A × List ℕ) Fault) (f : A × List ℕ → Result (B × List ℕ) Fault) (g : A × List ℕ → ℕ)
    → IsWithin k s r → ((x : A × List ℕ) → IsWithin (g x) x.1 (f x)) → IsWithin (k + after r g) s (r >>= f)
within_then k s (Ok x) f g h next = later k (g x) s x.1 (f x) h (next x)
within_then k s (Err d) f g h next = omega arith

within_made : {A B : Type 0} (k : ℕ) (s : List ℕ) (r : Result (A × List ℕ) Fault) (f : A → B) → IsWithin k s r → IsWithin k s (r >>= λ x. Ok (f x.0, x.1))
within_made k s (Ok x) f h = h
within_made k s (Err d) f h = h

within_choice : {A : Type 0} (b : Bool) (j k : ℕ) (s : List ℕ) (x y : Result (A × List ℕ) Fault) → (b ≡ true → IsWithin j s x) → (b ≡ false → IsWithin k s y)
    → IsWithin (cond b j k) s (cond b x y)
within_choice true j k s x y p q = p refl
within_choice false j k s x y p q = q refl

-- A reader takes at most as many steps as it reads bytes.
abbrev pub IsFrugal : {A : Type 0} → Parse A → (List ℕ → ℕ) → Type 0
IsFrugal one st = (s : List ℕ) → IsWithin (st s) s (one s)

-- ---- heads

abbrev IsShorter : {A : Type 0} → List ℕ → Result (A × List ℕ) Fault → Type 0
IsShorter s (Ok x) = length x.1 ≤ length s
IsShorter s (Err f) = Unit {0}

shorter_choice : {A : Type 0} (b : Bool) (s : List ℕ) (x y : Result (A × List ℕ) Fault) → IsShorter s x → IsShorter s y → IsShorter s (cond b x y)
shorter_choice true s x y p q = p
shorter_choice false s x y p q = q

argument_shorter : (place : ℕ → Argument) (w : Width) (k : ℕ) (s : List ℕ) → IsShorter s (argument_at place w k s)
argument_shorter place w k s = shorter_choice (ltb (length s) k) s (Err End) (Ok (place (from_be_bytes w (take k s)), drop k s)) tt
    (omega (arith, length-drop k s))

by_shorter : (info left : ℕ) (s : List ℕ) → IsShorter s (argument_by info left s)
by_shorter info left s =
    shorter_choice (ltb info 24) s _ _ (omega arith) (
    shorter_choice (eqb info 24) s _ _ (argument_shorter places.One w8 1 s) (
    shorter_choice (eqb info 25) s _ _ (argument_shorter places.Two w16 2 s) (
    shorter_choice (eqb info 26) s _ _ (argument_shorter places.Four w32 4 s) (
    shorter_choice (eqb info 27) s _ _ (argument_shorter places.Eight w64 8 s) (
    shorter_choice (eqb info 31) s (Ok (places.Indefinite, s)) (Err (Syntax left)) (omega arith) tt)))))

-- A head takes at least one byte.
abbrev IsHeadShorter : List ℕ → Result (HeadView × List ℕ) Fault → Type 0
IsHeadShorter s (Ok h) = suc (length h.1) ≤ length s
IsHeadShorter s (Err f) = Unit {0}

made_shorter : (x : ℕ) (s : List ℕ) (r : Result (Argument × List ℕ) Fault) → IsShorter s r
    → IsHeadShorter (x ∷ s) (r >>= λ a. Ok (record { major_type = major_type_of (x / 32); argument = a.0 }, a.1))
made_shorter x s (Ok a) h = omega arith
made_shorter x s (Err f) h = tt

head_shorter : (s : List ℕ) → IsHeadShorter s (head_at s)
unfolding head_at
head_shorter [] = tt
head_shorter (x ∷ s) = made_shorter x s (argument_by (x % 32) (suc (length s)) s) (by_shorter (x % 32) (suc (length s)) s)

head_then : {B : Type 0} (s : List ℕ) (r : Result (HeadView × List ℕ) Fault) (f : HeadView × List ℕ → Result (B × List ℕ) Fault) (g : HeadView × List ℕ → ℕ)
    → IsHeadShorter s r → ((h : HeadView × List ℕ) → IsWithin (g h) h.1 (f h)) → IsWithin (after r (λ h. suc (g h))) s (r >>= f)
head_then {B} s (Ok h) f g le next = step (g h) (f h) (next h)
  where
    step : (j : ℕ) (r : Result (B × List ℕ) Fault) → IsWithin j h.1 r → IsWithin (suc j) s r
    step j (Ok x) w = omega arith
    step j (Err d) w = omega arith
head_then {B} s (Err d) f g le next = omega arith

-- ---- strings

content_within : (is_text : Bool) (n : ℕ) (s : List ℕ) → n ≤ length s → content_cost is_text (take n s) + length (drop n s) ≤ length s
content_within true n s le = omega (arith, length-take n s, length-drop n s)
content_within false n s le = omega (arith, length-drop n s)

string_frugal : (is_text : Bool) (left n : ℕ) (s : List ℕ) → IsWithin (content_steps is_text left n s) s (string_at is_text left n s)
unfolding string_at content_steps
string_frugal is_text left n s = by_length (ltb (length s) n) refl
  where
    sound : (b : Bool) → n ≤ length s → IsWithin (after (cond b (Ok (take n s, drop n s)) (Err (Syntax left))) (λ x. content_cost is_text x.0)) s
        (cond b (Ok (take n s, drop n s)) (Err (Syntax left)))
    sound true le = content_within is_text n s le
    sound false le = omega arith

    by_length : (b : Bool) → ltb (length s) n ≡ b
        → IsWithin (after (cond b (Err End) (cond (is_string_content is_text (take n s)) (Ok (take n s, drop n s)) (Err (Syntax left))))
        (λ x. content_cost is_text x.0)) s (cond b (Err End) (cond (is_string_content is_text (take n s)) (Ok (take n s, drop n s)) (Err (Syntax left))))
    by_length true e = omega arith
    by_length false e = sound (is_string_content is_text (take n s)) (ltb-false _ _ e)

where_within : {A : Type 0} (left : ℕ) (o : Option ℕ) (f : ℕ → Result (A × List ℕ) Fault) (g : ℕ → ℕ) (s : List ℕ) → ((n : ℕ) → IsWithin (g n) s (f n))
    → IsWithin (if_some o g) s (unless_none left o f)
where_within left None f g s h = omega arith
where_within left (Some n) f g s h = h n

chunk_frugal : (is_text : Bool) → IsFrugal (chunk_at is_text) (chunk_steps is_text)
unfolding chunk_at chunk_steps
chunk_frugal is_text s =
    head_then s (head_at s) (λ h. cond (begins_chunk is_text h.0.major_type)
    (unless_none (length s) (number_of h.0.argument) (λ n. string_at is_text (length s) n h.1)) (Err (Syntax (length s))))
    (λ h. cond (begins_chunk is_text h.0.major_type) (if_some (number_of h.0.argument) (λ n. content_steps is_text (length s) n h.1)) 0) (head_shorter s)
    (λ h. within_choice (begins_chunk is_text h.0.major_type) _ _ h.1 _ _
    (λ e. where_within (length s) (number_of h.0.argument) _ _ h.1 (λ n. string_frugal is_text (length s) n h.1)) (λ e. omega arith))

-- ---- repetition

times_frugal : {A : Type 0} (one : Parse A) (st : List ℕ → ℕ) → IsFrugal one st → (n : ℕ) → IsFrugal (times_at one n) (times_steps one st n)
unfolding times_at times_steps
times_frugal one st h zero s = omega arith
times_frugal {A} one st h (suc n) s =
    within_then (st s) s (one s) (λ x. times_at one n x.1 >>= λ xs. Ok (x.0 ∷ xs.0, xs.1)) (λ x. times_steps one st n x.1) (h s)
    (λ x. within_made (times_steps one st n x.1) x.1 (times_at one n x.1) (λ (xs : List A). x.0 ∷ xs) (times_frugal one st h n x.1))

until_frugal : {A : Type 0} (one : Parse A) (st : List ℕ → ℕ) → IsFrugal one st → (turns : ℕ) → IsFrugal (until_at one turns) (until_steps one st turns)
unfolding until_at until_steps
until_frugal one st h zero s = omega arith
until_frugal {A} one st h (suc turns) s =
    within_choice (begins_break s) 1 (st s + after (one s) (λ x. until_steps one st turns x.1)) s (Ok ([], drop 1 s))
    (one s >>= λ x. until_at one turns x.1 >>= λ xs. Ok (x.0 ∷ xs.0, xs.1))
    (λ e. let long = ap length (break_is s e) in omega arith)
    (λ e. within_then (st s) s (one s) (λ x. until_at one turns x.1 >>= λ xs. Ok (x.0 ∷ xs.0, xs.1)) (λ x. until_steps one st turns x.1) (h s)
    (λ x. within_made (until_steps one st turns x.1) x.1 (until_at one turns x.1) (λ (xs : List A). x.0 ∷ xs) (until_frugal one st h turns x.1)))

any_string_frugal : (is_text : Bool) (left : ℕ) (o : Option ℕ) (s : List ℕ) → IsWithin (string_steps is_text left o s) s (any_string_by is_text left o s)
unfolding chunks_at
any_string_frugal is_text left None s = within_made _ s (until_at (chunk_at is_text) (length s) s) joined_chunks
    (until_frugal (chunk_at is_text) (chunk_steps is_text) (chunk_frugal is_text) (length s) s)
any_string_frugal is_text left (Some n) s = string_frugal is_text left n s

pair_frugal : (one : Parse Item) (st : List ℕ → ℕ) → IsFrugal one st → IsFrugal (pair_at one) (pair_steps one st)
unfolding pair_steps
pair_frugal one st h s =
    within_then (st s) s (one s) (λ k. one k.1 >>= λ v. Ok ((k.0, v.0), v.1)) (λ k. st k.1) (h s)
    (λ k. within_made (st k.1) k.1 (one k.1) (λ (v : Item). (k.0, v)) (h k.1))

-- ---- items

record IsInsideFrugal (inside : Inside) (st : StepsInside) : Type 0 where
  items : (o : Option ℕ) (s : List ℕ) → IsWithin (st.items o s) s (inside.items o s)
  pairs : (o : Option ℕ) (s : List ℕ) → IsWithin (st.pairs o s) s (inside.pairs o s)
  one : (s : List ℕ) → IsWithin (st.one s) s (inside.one s)

nothing_frugal : IsInsideFrugal nothing no_steps
unfolding nothing no_steps
nothing_frugal = record { items = λ o s. omega arith; pairs = λ o s. omega arith; one = λ s. omega arith }

array_frugal : (one : Parse Item) (st : List ℕ → ℕ) → IsFrugal one st → (o : Option ℕ) (s : List ℕ) → IsWithin (array_steps one st o s) s (array_by one o s)
array_frugal one st h None s = until_frugal one st h (length s) s
array_frugal one st h (Some n) s = within_choice (ltb (length s) n) 0 _ s (Err End) _ (λ e. omega arith) (λ e. times_frugal one st h n s)

map_frugal : (one : Parse Item) (st : List ℕ → ℕ) → IsFrugal one st → (o : Option ℕ) (s : List ℕ) → IsWithin (map_steps one st o s) s (map_by one o s)
map_frugal one st h None s = until_frugal (pair_at one) (pair_steps one st) (pair_frugal one st h) (length s) s
map_frugal one st h (Some n) s = within_choice (ltb (length s / 2) n) 0 _ s (Err End) _ (λ e. omega arith)
    (λ e. times_frugal (pair_at one) (pair_steps one st) (pair_frugal one st h) n s)

things_frugal : (one : Parse Item) (st : List ℕ → ℕ) → IsFrugal one st → IsInsideFrugal (things one) (steps_of one st)
unfolding things steps_of
things_frugal one st h = record { items = array_frugal one st h; pairs = map_frugal one st h; one = h }

simple_frugal : (left : ℕ) (a : Argument) (s : List ℕ) → IsWithin 0 s (simple_at left a s)
simple_frugal left (places.Within n) s = none (eqb n 20) (eqb n 21) (eqb n 22)
  where
    none : (a b c : Bool) → IsWithin 0 s (cond a (Ok (Item.boolean false, s))
        (cond b (Ok (Item.boolean true, s)) (cond c (Ok (Item.null, s)) (Err (Simple left)))))
    none true b c = omega arith
    none false true c = omega arith
    none false false true = omega arith
    none false false false = omega arith
simple_frugal left (places.One n) s = none (ltb n 32)
  where
    none : (b : Bool) → IsWithin {A = Item} 0 s (cond b (Err (Syntax left)) (Err (Simple left)))
    none true = omega arith
    none false = omega arith
simple_frugal left (places.Two n) s = omega arith
simple_frugal left (places.Four n) s = omega arith
simple_frugal left (places.Eight n) s = omega arith
simple_frugal left places.Indefinite s = omega arith

integer_frugal : (left : ℕ) (o : Option ℕ) (f : ℕ → Item) (s : List ℕ) → IsWithin 0 s (unless_none left o (λ n. Ok (f n, s)))
integer_frugal left None f s = omega arith
integer_frugal left (Some n) f s = omega arith

body_frugal : (inside : Inside) (st : StepsInside) → IsInsideFrugal inside st → (left : ℕ) (a : Argument) (k : MajorType) (s : List ℕ)
    → IsWithin (body_steps st left a k s) s (item_by inside left a k s)
body_frugal inside st h left a major_types.Unsigned s = integer_frugal left (number_of a) (λ n. Item.integer (pos n)) s
body_frugal inside st h left a major_types.Negative s = integer_frugal left (number_of a) (λ n. Item.integer (negsuc n)) s
body_frugal inside st h left a major_types.Bytes s = within_made _ s (any_string_by false left (number_of a) s) Item.bytes
    (any_string_frugal false left (number_of a) s)
body_frugal inside st h left a major_types.Text s = within_made _ s (any_string_by true left (number_of a) s) Item.text
    (any_string_frugal true left (number_of a) s)
body_frugal inside st h left a major_types.Array s = within_made _ s (inside.items (number_of a) s) (λ vs. Item.array (items_of vs)) (h.items (number_of a) s)
body_frugal inside st h left a major_types.Map s = within_made _ s (inside.pairs (number_of a) s) (λ ps. Item.dict (pairs_of ps)) (h.pairs (number_of a) s)
body_frugal inside st h left a major_types.Tag s = where_within left (number_of a) (λ n. inside.one s >>= λ x. Ok (Item.tag n x.0, x.1)) (λ n. st.one s) s
    (λ n. within_made _ s (inside.one s) (Item.tag n) (h.one s))
body_frugal inside st h left a major_types.Simple s = simple_frugal left a s

from_frugal : (inside : Inside) (st : StepsInside) → IsInsideFrugal inside st → IsFrugal (item_from inside) (steps_from st)
from_frugal inside st h s =
    head_then s (head_at s) (λ x. item_by inside (length s) x.0.argument x.0.major_type x.1) (λ x. body_steps st (length s) x.0.argument x.0.major_type x.1)
    (head_shorter s)
    (λ x. body_frugal inside st h (length s) x.0.argument x.0.major_type x.1)

-- A check of any bytes takes at most as many steps as it reads bytes.
pub item_frugal : (d : ℕ) → IsFrugal (item_at d) (item_steps d)
unfolding item_at item_steps
item_frugal zero s = from_frugal nothing no_steps nothing_frugal s
item_frugal (suc d) s = from_frugal (things (item_at d)) (steps_of (item_at d) (item_steps d)) (things_frugal (item_at d) (item_steps d) (item_frugal d)) s

-- A check takes at most as many steps as there are bytes.
pub steps_bound : (d : ℕ) (s : List ℕ) → item_steps d s ≤ length s
steps_bound d s = bound (item_at d s) (item_frugal d s)
  where
    bound : (r : Result (Item × List ℕ) Fault) → IsWithin (item_steps d s) s r → item_steps d s ≤ length s
    bound (Ok x) h = omega arith
    bound (Err f) h = h
