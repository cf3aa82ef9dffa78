-- Lists of signatures.
use Rattle.std.proofs.Common.{◌≡◌, ℕ, ◌≢◌, ◌==◌, ◌&&◌, ◌<◌, ◌+◌, ◌++◌, suc, List, [], ◌∷◌, map, length, Bool, true, false, refl, sym, ap, ◌∙◌, arith}
use Rattle.std.proofs.lemmas.Bool.{and_right}
use Rattle.std.proofs.lemmas.Grind.{common_steps}
use Rattle.std.specs.Prelude.{OnOk, Result, Ok, Err}
use Rattle.std.specs.declared.alloc.AllocError.{AllocError}
use Rattle.coset_core.specs.FieldViews.{counter_signature_list, countersignature_v2_list, fields_level, fields_view}
use Rattle.coset_core.specs.Headers.{SignatureView, are_none, signatures_of, header_of}
use Rattle.coset_core.specs.SignatureCounts.{header_count, count_in_lists, signatures_count, count_in_list}
use Rattle.coset_core.specs.Same.{fields_eq, header_eq, signatures_eq}
use Rattle.coset_core.specs.ViewLaws.{HeaderLevel, header-made, header-opened}
use Rattle.coset_core.specs.Views.{countersignature_view, header_view, signature_view}
use Rattle.coset_core.specs.declared.countersignature.CoseCountersignature.{CoseCountersignature}
use Rattle.coset_core.specs.declared.header.Header.{Header, roll-Header}
use Rattle.coset_core.specs.declared.signature.CoseSignature.{CoseSignature}

-- There are no signatures exactly when the list is empty.
pub are_none_of : {T : Type 0} (view : T → SignatureView) (ss : List T) → are_none (signatures_of (map view ss)) ≡ (length ss == 0)
are_none_of view [] = refl
are_none_of view (s ∷ ss) = grind (arith, common_steps)

-- Lists of different lengths do not have the same signatures.
pub unequal : {T : Type 0} (view : T → SignatureView) (ss ts : List T) → length ss ≢ length ts
    → false ≡ signatures_eq (signatures_of (map view ss)) (signatures_of (map view ts))
unequal view [] [] h = absurd (h refl)
unequal view (s ∷ ss) (t ∷ ts) h = sym (and_right _ _ (sym (unequal view ss ts (λ e. h (ap suc e)))))
unequal view [] (t ∷ ts) h = refl
unequal view (s ∷ ss) [] h = refl

-- ---- conjunctions of tests

pub and_assoc : (a b c : Bool) → (a && b) && c ≡ a && (b && c)
and_assoc true b c = refl
and_assoc false b c = refl

-- If the test so far is false, it stays false with h. If it is true, the result is h.
pub stays : (v l h : Bool) → v ≡ l → v ≡ false → v ≡ l && h
stays v l h is fails = rw (sym is ∙ fails) fails

pub goes_by : (v l h r : Bool) → v ≡ l → v ≡ true → r ≡ h → r ≡ l && h
goes_by v l h r is holds e = rw (sym is ∙ holds) e

-- Two headers are equal exactly when their fields and their signatures are.
pub header_eq-opened :
    (h g : Header)
    → header_eq (header_view h) (header_view g)
    ≡ fields_eq (fields_view h) (fields_view g)
    && (signatures_eq (signatures_of (map signature_view (counter_signature_list h))) (signatures_of (map signature_view (counter_signature_list g)))
    && signatures_eq (signatures_of (map countersignature_view (countersignature_v2_list h)))
    (signatures_of (map countersignature_view (countersignature_v2_list g))))
header_eq-opened h g = λ i. header_eq (header-opened h i) (header-opened g i)

-- ---- copies of headers

-- A copy with the fields and the counter signatures of a header has the same view.
pub header_copied :
    (x : HeaderLevel) (h : Header) (r : Result (Unit {0}) AllocError) → fields_level x ≡ fields_view h
    → map signature_view x.counter_signatures.items ≡ map signature_view (counter_signature_list h)
    → OnOk r (map countersignature_view x.countersignatures_v2.items ≡ map countersignature_view (countersignature_v2_list h))
    → OnOk r (header_view (roll-Header x) ≡ header_view h)
header_copied x h (Ok u) f s t = header-made x ∙ ((λ i. header_of (f i) (signatures_of (s i)) (signatures_of (t i))) ∙ sym (header-opened h))
header_copied x h (Err e) f s t = tt

-- ---- the number of nested signatures

-- The number of signatures in a header, of both versions, with those nested in them.
abbrev pub held_by : Header → ℕ
held_by h = count_in_lists (counter_signature_list h) (countersignature_v2_list h)

pub opened : (h : Header) → header_count (header_view h) ≡ held_by h
opened h = ap header_count (header-opened h)

-- The number of signatures in the two headers of a signature.
abbrev pub within : SignatureView → ℕ
within s = header_count s.protected.header + header_count s.unprotected

-- The last signature adds one to the count, and the number of signatures in its headers.
last_counts : {T : Type 0} (view : T → SignatureView) (ss : List T) (s : T)
    → signatures_count (signatures_of (map view (ss ++ s ∷ []))) ≡ suc (within (view s) + signatures_count (signatures_of (map view ss)))
last_counts view [] s = omega arith
last_counts view (x ∷ ss) s = let others = last_counts view ss s in omega (arith, others)

-- Fewer signatures are left without the last one of either version.
pub first_taken :
    (old new : List CoseSignature) (v : List CoseCountersignature) (s : CoseSignature) → old ≡ new ++ s ∷ []
    → within (signature_view s) + count_in_lists new v < count_in_lists old v
first_taken old new v s o =
    let count : count_in_list old ≡ count_in_list (new ++ s ∷ []) = ap count_in_list o in
    let all = last_counts signature_view new s in
    omega (arith, count, all)

pub second_taken :
    (a : List CoseSignature) (old new : List CoseCountersignature) (s : CoseCountersignature) → old ≡ new ++ s ∷ []
    → within (countersignature_view s) + count_in_lists a new < count_in_lists a old
second_taken a old new s o =
    let count : count_in_lists [] old ≡ count_in_lists [] (new ++ s ∷ []) = ap (count_in_lists []) o in
    let all = last_counts countersignature_view new s in
    omega (arith, count, all)
