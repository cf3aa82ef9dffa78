-- Repeated reading, as a loop does it.
use Rattle.std.proofs.Common.{◌≡◌, ℕ, suc, ◌-◌, ◌+◌, ◌≤◌, ◌<◌, true, false, List, [], ◌∷◌, ◌++◌, drop, Result, Ok, Err, refl, sym, ap, ◌∙◌, append_assoc, arith}
use Rattle.std.proofs.lemmas.List.{append-nil}
use Rattle.coset_cbor.specs.declared.fault.Fault.{Fault}
use Rattle.coset_cbor.specs.declared.fault.Fault.TheVariants.{End}
use Rattle.coset_cbor.specs.declared.fault.ReadError.{ReadError}
use Rattle.coset_cbor.specs.declared.fault.ReadError.TheVariants as errors
use Rattle.coset_cbor.specs.Reading.{◌>>=◌, FailsAs, Parse, begins_break, times_at, until_at}
use Rattle.coset_cbor.specs.Grammar.{joined_chunks}

-- The elements already read, and then those that are still to be read.
abbrev pub with_front : {A : Type 0} → List A → Result (List A × List ℕ) Fault → Result (List A × List ℕ) Fault
with_front front read = read >>= λ x. Ok (front ++ x.0, x.1)

regroup : {A : Type 0} (front : List A) (a : A) (read : Result (List A × List ℕ) Fault)
    → with_front front (read >>= λ x. Ok (a ∷ x.0, x.1)) ≡ with_front (front ++ a ∷ []) read
regroup {A} front a (Ok x) = ap (λ (xs : List A). Ok (xs, x.1)) (simp append_assoc)
regroup front a (Err f) = refl

pub times_on : {A : Type 0} (one : Parse A) (front : List A) (count i : ℕ) (s : List ℕ) (a : A) (after : List ℕ) (total : Result (List A × List ℕ) Fault)
    → i < count → one s ≡ Ok (a, after)
    → with_front front (times_at one (count - i) s) ≡ total → with_front (front ++ a ∷ []) (times_at one (count - (i + 1)) after) ≡ total
unfolding times_at
times_on one front count i s a after total lt h so_far =
    let k : count - i ≡ suc (count - (i + 1)) = omega arith in
    let step : with_front front (times_at one (count - i) s) ≡ with_front (front ++ a ∷ []) (times_at one (count - (i + 1)) after) =
    rw (k, h) (regroup front a (times_at one (count - (i + 1)) after)) in
    sym step ∙ so_far

pub times_fails : {A : Type 0} (one : Parse A) (e : ReadError) (front : List A) (count i : ℕ) (s : List ℕ) (total : Result (List A × List ℕ) Fault) → i < count
    → FailsAs e (one s)
    → with_front front (times_at one (count - i) s) ≡ total → FailsAs e total
unfolding times_at
times_fails one errors.Memory front count i s total lt h so_far = tt
times_fails one (errors.Fault f) front count i s total lt h so_far =
    let k : count - i ≡ suc (count - (i + 1)) = omega arith in
    let step : with_front front (times_at one (count - i) s) ≡ Err f = rw (k, h) refl in
    sym so_far ∙ step

pub times_done : {A : Type 0} (one : Parse A) (front : List A) (count i : ℕ) (s : List ℕ) (total : Result (List A × List ℕ) Fault) → count ≤ i
    → with_front front (times_at one (count - i) s) ≡ total → total ≡ Ok (front, s)
unfolding times_at
times_done {A} one front count i s total le so_far =
    let k : count - i ≡ 0 = omega arith in
    let step : with_front front (times_at one (count - i) s) ≡ Ok (front, s) = rw k (ap (λ (xs : List A). Ok (xs, s)) (append-nil front)) in
    sym so_far ∙ step

pub until_on : {A : Type 0} (one : Parse A) (front : List A) (turns i : ℕ) (s : List ℕ) (a : A) (after : List ℕ) (total : Result (List A × List ℕ) Fault)
    → i < turns → begins_break s ≡ false → one s ≡ Ok (a, after)
    → with_front front (until_at one (turns - i) s) ≡ total → with_front (front ++ a ∷ []) (until_at one (turns - (i + 1)) after) ≡ total
unfolding until_at
until_on one front turns i s a after total lt goes h so_far =
    let k : turns - i ≡ suc (turns - (i + 1)) = omega arith in
    let step : with_front front (until_at one (turns - i) s) ≡ with_front (front ++ a ∷ []) (until_at one (turns - (i + 1)) after) =
    rw (k, goes, h) (regroup front a (until_at one (turns - (i + 1)) after)) in
    sym step ∙ so_far

pub until_fails : {A : Type 0} (one : Parse A) (e : ReadError) (front : List A) (turns i : ℕ) (s : List ℕ) (total : Result (List A × List ℕ) Fault) → i < turns
    → begins_break s ≡ false → FailsAs e (one s)
    → with_front front (until_at one (turns - i) s) ≡ total → FailsAs e total
unfolding until_at
until_fails one errors.Memory front turns i s total lt goes h so_far = tt
until_fails one (errors.Fault f) front turns i s total lt goes h so_far =
    let k : turns - i ≡ suc (turns - (i + 1)) = omega arith in
    let step : with_front front (until_at one (turns - i) s) ≡ Err f = rw (k, goes, h) refl in
    sym so_far ∙ step

pub until_stops : {A : Type 0} (one : Parse A) (front : List A) (turns i : ℕ) (s : List ℕ) (total : Result (List A × List ℕ) Fault) → i < turns
    → begins_break s ≡ true
    → with_front front (until_at one (turns - i) s) ≡ total → total ≡ Ok (front, drop 1 s)
unfolding until_at
until_stops {A} one front turns i s total lt stops so_far =
    let k : turns - i ≡ suc (turns - (i + 1)) = omega arith in
    let step : with_front front (until_at one (turns - i) s) ≡ Ok (front, drop 1 s) =
    rw (k, stops) (ap (λ (xs : List A). Ok (xs, drop 1 s)) (append-nil front)) in
    sym so_far ∙ step

pub until_ends : {A : Type 0} (one : Parse A) (front : List A) (turns i : ℕ) (s : List ℕ) (total : Result (List A × List ℕ) Fault) → turns ≤ i
    → with_front front (until_at one (turns - i) s) ≡ total → total ≡ Err End
unfolding until_at
until_ends one front turns i s total le so_far =
    let k : turns - i ≡ 0 = omega arith in
    let step : with_front front (until_at one (turns - i) s) ≡ Err End = rw k refl in
    sym so_far ∙ step

pub no_front : {A : Type 0} (read : Result (List A × List ℕ) Fault) → with_front [] read ≡ read
no_front (Ok x) = refl
no_front (Err e) = refl

pub ok_rest : {A : Type 0} (x : A) {r s : List ℕ} → r ≡ s → ◌≡◌ {A = Result (A × List ℕ) Fault} (Ok (x, r)) (Ok (x, s))
ok_rest {A} x e = ap (λ (r : List ℕ). Ok (x, r)) e

pub joined_chunks-push : (parts : List (List ℕ)) (part : List ℕ) → joined_chunks (parts ++ part ∷ []) ≡ joined_chunks parts ++ part
joined_chunks-push [] part = append-nil part
joined_chunks-push (p ∷ parts) part = ap (λ (s : List ℕ). p ++ s) (joined_chunks-push parts part) ∙ sym (append_assoc p (joined_chunks parts) part)

abbrev pub join : List (List ℕ) × List ℕ → Result (List ℕ × List ℕ) Fault
join x = Ok (joined_chunks x.0, x.1)

pub joins : (read : Result (List (List ℕ) × List ℕ) Fault) (parts : List (List ℕ)) (s whole after : List ℕ) → read ≡ Ok (parts, s) → joined_chunks parts ≡ whole
    → s ≡ after
    → (read >>= join) ≡ Ok (whole, after)
joins read parts s whole after e f g = rw (e, f, g) refl

pub fails_joined : (e : ReadError) (read : Result (List (List ℕ) × List ℕ) Fault) → FailsAs e read → FailsAs e (read >>= join)
fails_joined errors.Memory read h = tt
fails_joined (errors.Fault f) read h = rw h refl
