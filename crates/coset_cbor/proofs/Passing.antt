-- Repeated skipping, as a loop does it, with its steps.
use Rattle.std.proofs.Common.{◌≡◌, ℕ, zero, suc, ◌-◌, ◌+◌, ◌≤◌, ◌<◌, Bool, true, false, List, ◌∷◌, drop, length, Option, Result, Ok, Err, refl, sym, ap, subst}
use Rattle.std.proofs.Common.{◌∙◌, arith}
use Rattle.coset_cbor.specs.declared.fault.Fault.{Fault}
use Rattle.coset_cbor.specs.declared.fault.Fault.TheVariants.{End}
use Rattle.coset_value.specs.Item.{Item, array, dict}
use Rattle.coset_value.specs.View.{items_of, pairs_of}
use Rattle.coset_cbor.specs.declared.head.MajorType.{MajorType}
use Rattle.coset_cbor.specs.declared.head.MajorType.TheVariants as major_types
use Rattle.coset_cbor.specs.Heads.{HeadView}
use Rattle.coset_cbor.specs.Grammar.{joined_chunks}
use Rattle.coset_cbor.specs.Reading.{◌>>=◌, Parse, number_of, head_at, begins_break, string_at, chunk_at, chunks_at, times_at, until_at, array_by, map_by}
use Rattle.coset_cbor.specs.Reading.{things, item_by, item_at}
use Rattle.std.specs.Borrow.{Bor}
use Rattle.coset_cbor.specs.Cost.{content_cost}
use Rattle.coset_cbor.specs.Counting.{left_of, SkipsAsRead, after, content_steps, pair_steps, times_steps, until_steps}

-- Mapping the value of a reading leaves the same bytes.
pub left_of-made : {A B : Type 0} (r : Result (A × List ℕ) Fault) (f : A → B) → left_of (r >>= λ x. Ok (f x.0, x.1)) ≡ left_of r
left_of-made (Ok x) f = refl
left_of-made (Err e) f = refl

abbrev pub rest_is : List ℕ → Result (List ℕ) Fault
rest_is s = Ok s

abbrev pub fault_is : Fault → Result (List ℕ) Fault
fault_is f = Err f

-- The bytes left by two readings in turn, if the first leaves a.
pub then_left : {A B : Type 0} (r : Result (A × List ℕ) Fault) (f : A × List ℕ → Result (B × List ℕ) Fault) (g : List ℕ → Result (List ℕ) Fault) (a : List ℕ)
    → left_of r ≡ Ok a → ((x : A × List ℕ) → left_of (f x) ≡ g x.1) → left_of (r >>= f) ≡ g a
then_left (Ok x) f g a e h = let same : x.1 ≡ a = rest_same x.1 a e in h x ∙ ap g same
  where
    rest_same : (s t : List ℕ) → rest_is s ≡ rest_is t → s ≡ t
    rest_same s t e = cc
then_left (Err d) f g a e h = absurd (apart d a e)
  where
    apart : (d : Fault) (a : List ℕ) → fault_is d ≡ rest_is a → ⊥
    apart d a e = cc

pub then_fault : {A B : Type 0} (r : Result (A × List ℕ) Fault) (f : A × List ℕ → Result (B × List ℕ) Fault) (d : Fault) → left_of r ≡ Err d
    → left_of (r >>= f) ≡ Err d
then_fault (Ok x) f d e = absurd (apart d x.1 e)
  where
    apart : (d : Fault) (a : List ℕ) → rest_is a ≡ fault_is d → ⊥
    apart d a e = cc
then_fault (Err c) f d e = e

pub after_left : {A : Type 0} (r : Result (A × List ℕ) Fault) (g : List ℕ → ℕ) (a : List ℕ) → left_of r ≡ Ok a → after r (λ x. g x.1) ≡ g a
after_left (Ok x) g a e = ap g (rest_same x.1 a e)
  where
    rest_same : (s t : List ℕ) → rest_is s ≡ rest_is t → s ≡ t
    rest_same s t e = cc
after_left (Err d) g a e = absurd (apart d a e)
  where
    apart : (d : Fault) (a : List ℕ) → fault_is d ≡ rest_is a → ⊥
    apart d a e = cc

pub after_fault : {A : Type 0} (r : Result (A × List ℕ) Fault) (g : A × List ℕ → ℕ) (d : Fault) → left_of r ≡ Err d → after r g ≡ 0
after_fault (Ok x) g d e = absurd (apart d x.1 e)
  where
    apart : (d : Fault) (a : List ℕ) → rest_is a ≡ fault_is d → ⊥
    apart d a e = cc
after_fault (Err c) g d e = refl

-- Putting one more element in front of a list leaves the same bytes.
times_left : {A : Type 0} (one : Parse A) (n : ℕ) (s a : List ℕ) → left_of (one s) ≡ Ok a → left_of (times_at one (suc n) s) ≡ left_of (times_at one n a)
unfolding times_at
times_left {A} one n s a e = then_left (one s) (λ x. times_at one n x.1 >>= λ xs. Ok (x.0 ∷ xs.0, xs.1)) (λ (t : List ℕ). left_of (times_at one n t)) a e
    (λ x. left_of-made (times_at one n x.1) (λ (xs : List A). x.0 ∷ xs))

times_fault : {A : Type 0} (one : Parse A) (n : ℕ) (s : List ℕ) (d : Fault) → left_of (one s) ≡ Err d → left_of (times_at one (suc n) s) ≡ Err d
unfolding times_at
times_fault one n s d e = then_fault (one s) (λ x. times_at one n x.1 >>= λ xs. Ok (x.0 ∷ xs.0, xs.1)) d e

times_steps_left : {A : Type 0} (one : Parse A) (st : List ℕ → ℕ) (n : ℕ) (s a : List ℕ) → left_of (one s) ≡ Ok a
    → times_steps one st (suc n) s ≡ st s + times_steps one st n a
unfolding times_steps
times_steps_left one st n s a e = ap (λ (k : ℕ). st s + k) (after_left (one s) (λ (t : List ℕ). times_steps one st n t) a e)

times_steps_fault : {A : Type 0} (one : Parse A) (st : List ℕ → ℕ) (n : ℕ) (s : List ℕ) (d : Fault) → left_of (one s) ≡ Err d
    → times_steps one st (suc n) s ≡ st s
unfolding times_steps
times_steps_fault one st n s d e = let none = after_fault (one s) (λ x. times_steps one st n x.1) d e in omega arith

until_left : {A : Type 0} (one : Parse A) (n : ℕ) (s a : List ℕ) → begins_break s ≡ false → left_of (one s) ≡ Ok a
    → left_of (until_at one (suc n) s) ≡ left_of (until_at one n a)
unfolding until_at
until_left {A} one n s a goes e = rw goes (then_left (one s) (λ x. until_at one n x.1 >>= λ xs. Ok (x.0 ∷ xs.0, xs.1))
    (λ (t : List ℕ). left_of (until_at one n t)) a e (λ x. left_of-made (until_at one n x.1) (λ (xs : List A). x.0 ∷ xs)))

until_fault : {A : Type 0} (one : Parse A) (n : ℕ) (s : List ℕ) (d : Fault) → begins_break s ≡ false → left_of (one s) ≡ Err d
    → left_of (until_at one (suc n) s) ≡ Err d
unfolding until_at
until_fault one n s d goes e = rw goes (then_fault (one s) (λ x. until_at one n x.1 >>= λ xs. Ok (x.0 ∷ xs.0, xs.1)) d e)

until_break : {A : Type 0} (one : Parse A) (n : ℕ) (s : List ℕ) → begins_break s ≡ true → left_of (until_at one (suc n) s) ≡ Ok (drop 1 s)
unfolding until_at
until_break one n s stops = rw stops refl

until_steps_left : {A : Type 0} (one : Parse A) (st : List ℕ → ℕ) (n : ℕ) (s a : List ℕ) → begins_break s ≡ false → left_of (one s) ≡ Ok a
    → until_steps one st (suc n) s ≡ st s + until_steps one st n a
unfolding until_steps
until_steps_left one st n s a goes e = rw goes (ap (λ (k : ℕ). st s + k) (after_left (one s) (λ (t : List ℕ). until_steps one st n t) a e))

until_steps_fault : {A : Type 0} (one : Parse A) (st : List ℕ → ℕ) (n : ℕ) (s : List ℕ) (d : Fault) → begins_break s ≡ false → left_of (one s) ≡ Err d
    → until_steps one st (suc n) s ≡ st s
unfolding until_steps
until_steps_fault one st n s d goes e = let none = after_fault (one s) (λ x. until_steps one st n x.1) d e in rw goes (omega arith)

until_steps_break : {A : Type 0} (one : Parse A) (st : List ℕ → ℕ) (n : ℕ) (s : List ℕ) → begins_break s ≡ true → until_steps one st (suc n) s ≡ 1
unfolding until_steps
until_steps_break one st n s stops = rw stops refl

-- A loop must leave `total` after `whole` steps. The readings still to come leave `rest` and take `more` steps.
pub record IsPassed (total : Result (List ℕ) Fault) (whole now : ℕ) (rest : Result (List ℕ) Fault) (more : ℕ) : Type 0 where
  pub left : rest ≡ total
  pub steps : now + more ≡ whole

abbrev pub InTimes : {A : Type 0} → Parse A → (List ℕ → ℕ) → Result (List ℕ) Fault → ℕ → ℕ → ℕ → List ℕ → Type 0
InTimes one st total whole now n s = IsPassed total whole now (left_of (times_at one n s)) (times_steps one st n s)

abbrev pub InUntil : {A : Type 0} → Parse A → (List ℕ → ℕ) → Result (List ℕ) Fault → ℕ → ℕ → ℕ → List ℕ → Type 0
InUntil one st total whole now n s = IsPassed total whole now (left_of (until_at one n s)) (until_steps one st n s)

count_down : (count i : ℕ) → i < count → count - i ≡ suc (count - (i + 1))
count_down count i lt = omega arith

pub times_goes : {A : Type 0} (one : Parse A) (st : List ℕ → ℕ) (total : Result (List ℕ) Fault) (whole old new count i : ℕ) (s a : List ℕ) → i < count
    → left_of (one s) ≡ Ok a → new ≡ old + st s
    → InTimes one st total whole old (count - i) s → InTimes one st total whole new (count - (i + 1)) a
times_goes one st total whole old new count i s a lt e more h =
    let k = count_down count i lt in
    let steps = ap (λ (n : ℕ). times_steps one st n s) k ∙ times_steps_left one st (count - (i + 1)) s a e in
    let so_far = h.steps in
    record {
      left = sym (times_left one (count - (i + 1)) s a e) ∙ ap (λ (n : ℕ). left_of (times_at one n s)) (sym k) ∙ h.left;
      steps = omega arith;
    }

pub times_fails : {A : Type 0} (one : Parse A) (st : List ℕ → ℕ) (total : Result (List ℕ) Fault) (whole old new count i : ℕ) (s : List ℕ) (d : Fault)
    → i < count → left_of (one s) ≡ Err d → new ≡ old + st s
    → InTimes one st total whole old (count - i) s → (total ≡ Err d) × (new ≡ whole)
times_fails one st total whole old new count i s d lt e more h =
    let k = count_down count i lt in
    let steps = ap (λ (n : ℕ). times_steps one st n s) k ∙ times_steps_fault one st (count - (i + 1)) s d e in
    let so_far = h.steps in
    (sym h.left ∙ ap (λ (n : ℕ). left_of (times_at one n s)) k ∙ times_fault one (count - (i + 1)) s d e, omega arith)

pub times_end : {A : Type 0} (one : Parse A) (st : List ℕ → ℕ) (total : Result (List ℕ) Fault) (whole now count i : ℕ) (s : List ℕ) → count ≤ i
    → InTimes one st total whole now (count - i) s → (total ≡ Ok s) × (now ≡ whole)
unfolding times_at times_steps
times_end one st total whole now count i s le h =
    let k : count - i ≡ 0 = omega arith in
    let none : times_steps one st (count - i) s ≡ 0 = rw k refl in
    let so_far = h.steps in
    let done : left_of (times_at one (count - i) s) ≡ Ok s = rw k refl in
    (sym h.left ∙ done, omega arith)

pub until_goes : {A : Type 0} (one : Parse A) (st : List ℕ → ℕ) (total : Result (List ℕ) Fault) (whole old new turns i : ℕ) (s a : List ℕ) → i < turns
    → begins_break s ≡ false → left_of (one s) ≡ Ok a → new ≡ old + st s
    → InUntil one st total whole old (turns - i) s → InUntil one st total whole new (turns - (i + 1)) a
until_goes one st total whole old new turns i s a lt goes e more h =
    let k = count_down turns i lt in
    let steps = ap (λ (n : ℕ). until_steps one st n s) k ∙ until_steps_left one st (turns - (i + 1)) s a goes e in
    let so_far = h.steps in
    record {
      left = sym (until_left one (turns - (i + 1)) s a goes e) ∙ ap (λ (n : ℕ). left_of (until_at one n s)) (sym k) ∙ h.left;
      steps = omega arith;
    }

pub until_fails : {A : Type 0} (one : Parse A) (st : List ℕ → ℕ) (total : Result (List ℕ) Fault) (whole old new turns i : ℕ) (s : List ℕ) (d : Fault)
    → i < turns → begins_break s ≡ false → left_of (one s) ≡ Err d → new ≡ old + st s
    → InUntil one st total whole old (turns - i) s → (total ≡ Err d) × (new ≡ whole)
until_fails one st total whole old new turns i s d lt goes e more h =
    let k = count_down turns i lt in
    let steps = ap (λ (n : ℕ). until_steps one st n s) k ∙ until_steps_fault one st (turns - (i + 1)) s d goes e in
    let so_far = h.steps in
    (sym h.left ∙ ap (λ (n : ℕ). left_of (until_at one n s)) k ∙ until_fault one (turns - (i + 1)) s d goes e, omega arith)

pub until_stops : {A : Type 0} (one : Parse A) (st : List ℕ → ℕ) (total : Result (List ℕ) Fault) (whole old new turns i : ℕ) (s : List ℕ) → i < turns
    → begins_break s ≡ true → new ≡ old + 1
    → InUntil one st total whole old (turns - i) s → (total ≡ Ok (drop 1 s)) × (new ≡ whole)
until_stops one st total whole old new turns i s lt stops more h =
    let k = count_down turns i lt in
    let steps = ap (λ (n : ℕ). until_steps one st n s) k ∙ until_steps_break one st (turns - (i + 1)) s stops in
    let so_far = h.steps in
    (sym h.left ∙ ap (λ (n : ℕ). left_of (until_at one n s)) k ∙ until_break one (turns - (i + 1)) s stops, omega arith)

pub until_ends : {A : Type 0} (one : Parse A) (st : List ℕ → ℕ) (total : Result (List ℕ) Fault) (whole now turns i : ℕ) (s : List ℕ) → turns ≤ i
    → InUntil one st total whole now (turns - i) s → (total ≡ Err End) × (now ≡ whole)
unfolding until_at until_steps
until_ends one st total whole now turns i s le h =
    let k : turns - i ≡ 0 = omega arith in
    let none : until_steps one st (turns - i) s ≡ 0 = rw k refl in
    let so_far = h.steps in
    let done : left_of (until_at one (turns - i) s) ≡ Err End = rw k refl in
    (sym h.left ∙ done, omega arith)

-- The content of a byte string takes no steps.
pub no_content : (is_text : Bool) (left n : ℕ) (s : List ℕ) → is_text ≡ false → content_steps is_text left n s ≡ 0
unfolding content_steps
no_content true left n s e = absurd cc
no_content false left n s e = none (string_at false left n s)
  where
    none : (r : Result (List ℕ × List ℕ) Fault) → after r (λ x. content_cost false x.0) ≡ 0
    none (Ok x) = refl
    none (Err f) = refl

-- Joining chunks leaves the same bytes.
pub chunks_left : (is_text : Bool) (s : List ℕ) → left_of (chunks_at is_text s) ≡ left_of (until_at (chunk_at is_text) (length s) s)
unfolding chunks_at
chunks_left is_text s = left_of-made (until_at (chunk_at is_text) (length s) s) joined_chunks

pub passes_same : {A B : Type 0} (r : Result (Bor (List ℕ)) Fault) (x : Result (A × List ℕ) Fault) (y : Result (B × List ℕ) Fault) → left_of y ≡ left_of x
    → SkipsAsRead r x → SkipsAsRead r y
passes_same (Ok b) x y e h = e ∙ h
passes_same (Err f) x y e h = e ∙ h

pub pair_fails : (one : Parse Item) (st : List ℕ → ℕ) (old new : ℕ) (s : List ℕ) (d : Fault) → left_of (one s) ≡ Err d → new ≡ old + st s
    → new ≡ old + pair_steps one st s
unfolding pair_steps
pair_fails one st old new s d e more = let none = after_fault (one s) (λ k. st k.1) d e in omega arith

pub pair_steps_left : (one : Parse Item) (st : List ℕ → ℕ) (old half new : ℕ) (s a : List ℕ) → left_of (one s) ≡ Ok a → half ≡ old + st s → new ≡ half + st a
    → new ≡ old + pair_steps one st s
unfolding pair_steps
pair_steps_left one st old half new s a e more rest = let then = after_left (one s) st a e in omega arith

-- ---- an item after its head

-- Skipping the elements of an array skips the array.
pub array_passes : (r : Result (Bor (List ℕ)) Fault) (depth : ℕ) (s : List ℕ) (h : HeadView × List ℕ) (count : Option ℕ) → 0 < depth → head_at s ≡ Ok h
    → h.0.major_type ≡ major_types.Array → count ≡ number_of h.0.argument
    → SkipsAsRead r (array_by (item_at (depth - 1)) count h.1) → SkipsAsRead r (item_at depth s)
unfolding item_at things
array_passes r zero s h count lt e major_type number is = absurd (omega arith)
array_passes r (suc d) s h count lt e major_type number is =
    let back : suc d - 1 ≡ d = omega arith in
    passes_same r (array_by (item_at d) count h.1) (item_at (suc d) s)
    (ap (λ (x : Result (HeadView × List ℕ) Fault). left_of (x >>= λ y. item_by (things (item_at d)) (length s) y.0.argument y.0.major_type y.1)) e
    ∙ ap (λ (k : MajorType). left_of (item_by (things (item_at d)) (length s) h.0.argument k h.1)) major_type
    ∙ ap (λ (o : Option ℕ). left_of (array_by (item_at d) o h.1 >>= λ x. Ok (array (items_of x.0), x.1))) (sym number)
    ∙ left_of-made (array_by (item_at d) count h.1) (λ (vs : List Item). array (items_of vs)))
    (subst (λ (n : ℕ). SkipsAsRead r (array_by (item_at n) count h.1)) back is)

-- Skipping the pairs of a map skips the map.
pub map_passes : (r : Result (Bor (List ℕ)) Fault) (depth : ℕ) (s : List ℕ) (h : HeadView × List ℕ) (count : Option ℕ) → 0 < depth → head_at s ≡ Ok h
    → h.0.major_type ≡ major_types.Map → count ≡ number_of h.0.argument
    → SkipsAsRead r (map_by (item_at (depth - 1)) count h.1) → SkipsAsRead r (item_at depth s)
unfolding item_at things
map_passes r zero s h count lt e major_type number is = absurd (omega arith)
map_passes r (suc d) s h count lt e major_type number is =
    let back : suc d - 1 ≡ d = omega arith in
    passes_same r (map_by (item_at d) count h.1) (item_at (suc d) s)
    (ap (λ (x : Result (HeadView × List ℕ) Fault). left_of (x >>= λ y. item_by (things (item_at d)) (length s) y.0.argument y.0.major_type y.1)) e
    ∙ ap (λ (k : MajorType). left_of (item_by (things (item_at d)) (length s) h.0.argument k h.1)) major_type
    ∙ ap (λ (o : Option ℕ). left_of (map_by (item_at d) o h.1 >>= λ x. Ok (dict (pairs_of x.0), x.1))) (sym number)
    ∙ left_of-made (map_by (item_at d) count h.1) (λ (ps : List (Item × Item)). dict (pairs_of ps)))
    (subst (λ (n : ℕ). SkipsAsRead r (map_by (item_at n) count h.1)) back is)
