-- Pairs given as structs of numbers, and results that are places.
use Rattle.std.proofs.Common.{◌≡◌, ◌∙◌, ◌++◌, ◌+◌, ◌<◌, ◌&&◌, ℕ, zero, suc, List, [], ◌∷◌, length, get_or}
use Rattle.std.proofs.Common.{take, Option, Some, None, Result, Ok, Err, Bool, ap, sym, refl, arith}
use Rattle.std.proofs.lemmas.List.{take_more}
use Rattle.std.specs.List.{list_all}
use Rattle.std.specs.Prelude.{is_some}
use Rattle.coset.specs.LabelData.{LabelView}
use Rattle.coset.specs.Shape.{both}
use Rattle.coset.specs.ShapeLaws.{some-none, some-one}
use Rattle.ffi_query.specs.declared.refusal.Refusal as refusals
use Rattle.ffi_query.specs.declared.spans.MessageSpans.{MessageSpans}
use Rattle.ffi_make.specs.Given.{EntryView}
use Rattle.ffi_c.specs.declared.pairs.Pair.{Pair}
use Rattle.ffi_c.specs.PairsGiven.{pair_of, pairs_of}
use Rattle.ffi_c.specs.Replies.{reply_status}
use Rattle.ffi_c.specs.SpansNumbers.{length_written}

-- The status of the length written is the status of the places.
pub same_spans_status : (r : Result MessageSpans refusals.Refusal) → reply_status (length_written r) ≡ reply_status r
same_spans_status (Ok n) = refl
same_spans_status (Err e) = refl

none_is : {A : Type 0} {x : A} → None ≡ Some x → ⊥
none_is p = some-none refl (sym p)

-- ---- one more pair

one_then :
    (o p : Option (LabelView × EntryView)) (q : Option (List (LabelView × EntryView))) (zs : List (LabelView × EntryView)) (x : LabelView × EntryView)
    → both (λ y ys. y ∷ ys) o q ≡ Some zs → p ≡ Some x → (r : Option (List (LabelView × EntryView)))
    → ((ys : List (LabelView × EntryView)) → q ≡ Some ys → r ≡ Some (ys ++ x ∷ [])) → both (λ y ys. y ∷ ys) o r ≡ Some (zs ++ x ∷ [])
one_then (Some y) p (Some ys) zs x e f r h =
    ap (both (λ y ys. y ∷ ys) (Some y)) (h ys refl) ∙ ap (λ l. Some (l ++ x ∷ [])) (sym (some-one e refl))
one_then (Some y) p None zs x e f r h = absurd (none_is e)
one_then None p q zs x e f r h = absurd (none_is e)

pairs_push :
    (b : List ℕ) (ps : List Pair) (p : Pair) (xs : List (LabelView × EntryView)) (x : LabelView × EntryView) → pairs_of b ps ≡ Some xs → pair_of b p ≡ Some x
    → pairs_of b (ps ++ p ∷ []) ≡ Some (xs ++ x ∷ [])
pairs_push b [] p xs x e f =
    ap (λ o. both (λ y ys. y ∷ ys) o (Some [])) f ∙ ap (λ (l : List (LabelView × EntryView)). Some (l ++ x ∷ [])) (sym (some-one e refl))
pairs_push b (q ∷ ps) p xs x e f =
    one_then (pair_of b q) (pair_of b p) (pairs_of b ps) xs x e f (pairs_of b (ps ++ p ∷ [])) (λ ys is. pairs_push b ps p ys x is f)

pub pairs_more :
    (b : List ℕ) (ps : List Pair) (i : ℕ) (d : Pair) (xs : List (LabelView × EntryView)) (x : LabelView × EntryView) → i < length ps
    → pairs_of b (take i ps) ≡ Some xs
    → pair_of b (get_or ps i d) ≡ Some x → pairs_of b (take (i + 1) ps) ≡ Some (xs ++ x ∷ [])
pairs_more b ps i d xs x lt e f = ap (pairs_of b) (take_more ps i d lt) ∙ pairs_push b (take i ps) (get_or ps i d) xs x e f

-- ---- a pair without a meaning

none_then : (o : Option (LabelView × EntryView)) (q : Option (List (LabelView × EntryView))) → q ≡ None → both (λ y ys. y ∷ ys) o q ≡ None
none_then (Some y) None e = refl
none_then (Some y) (Some ys) e = absurd (none_is (sym e))
none_then None q e = refl

pub pairs_none : (b : List ℕ) (ps : List Pair) (i : ℕ) (d : Pair) → i < length ps → pair_of b (get_or ps i d) ≡ None → pairs_of b ps ≡ None
pairs_none b [] i d lt e = absurd (omega (arith, lt))
pairs_none b (p ∷ ps) zero d lt e = ap (λ o. both (λ y ys. y ∷ ys) o (pairs_of b ps)) e
pairs_none b (p ∷ ps) (suc i) d lt e = none_then (pair_of b p) (pairs_of b ps) (pairs_none b ps i d (omega (arith, lt)) e)

-- ---- all pairs have a meaning

and_then : (o : Option (LabelView × EntryView)) (q : Option (List (LabelView × EntryView))) (x : Bool) → is_some q ≡ x
    → is_some (both (λ y ys. y ∷ ys) o q) ≡ (is_some o && x)
and_then (Some y) (Some ys) x e = e
and_then (Some y) None x e = e
and_then None q x e = refl

pub all_pairs : (b : List ℕ) (ps : List Pair) → is_some (pairs_of b ps) ≡ list_all (λ p. is_some (pair_of b p)) ps
all_pairs b [] = refl
all_pairs b (p ∷ ps) = and_then (pair_of b p) (pairs_of b ps) _ (all_pairs b ps)
