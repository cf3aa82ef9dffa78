-- Pairs added to a map, one after another.
use Rattle.std.proofs.Common.{◌≡◌, ◌∙◌, ◌++◌, ◌+◌, ◌<◌, ◌⊎◌, ℕ, zero, suc, List, [], ◌∷◌, length}
use Rattle.std.proofs.Common.{get_or, take, Option, Some, None, ap, sym, subst, refl, inl, inr, arith}
use Rattle.std.proofs.lemmas.List.{map-append, take_more}
use Rattle.std.specs.Prelude.{option_and_then}
use Rattle.coset.specs.CoseError.{CoseError}
use Rattle.coset.specs.Errors.{UnlessMemory}
use Rattle.coset.specs.Item.{Item, Pairs, no_pairs, pair}
use Rattle.coset.specs.LabelData.{LabelView}
use Rattle.ffi_query.specs.declared.label.Label as labels
use Rattle.ffi_query.specs.Labels.{label_view}
use Rattle.ffi_make.specs.declared.given.Entry as entries
use Rattle.ffi_make.specs.Given.{EntryFaults, EntryView, IsEntry, IsKey, KeyFaults, entry_view, pair_view, pairs_view}
use Rattle.ffi_make.specs.PairsMade.{ArePairs, SomePairFaults, pairs_and, with_pair, with_pairs}

are_more :
    (xs : List (LabelView × EntryView)) (x : LabelView × EntryView) (qs : Pairs) (k v : Item) → ArePairs xs qs → IsKey x.0 k × IsEntry x.1 v
    → ArePairs (xs ++ x ∷ []) (pairs_and qs (pair k v no_pairs))
are_more [] x qs k v e h = subst (λ q. ArePairs (x ∷ []) (pairs_and q (pair k v no_pairs))) (sym e) (h, refl)
are_more (y ∷ ys) x no_pairs k v e h = absurd e
are_more (y ∷ ys) x (pair a b qs) k v e h = (e.0, are_more ys x qs k v e.1 h)

none_more : (o : Option Item) → option_and_then (with_pairs no_pairs) o ≡ o
none_more None = refl
none_more (Some x) = refl

within :
    (f g h : Item → Option Item) (o : Option Item) → ((x : Item) → f x ≡ option_and_then h (g x))
    → option_and_then f o ≡ option_and_then h (option_and_then g o)
within f g h None e = refl
within f g h (Some x) e = e x

puts_more :
    (qs : Pairs) (k v m : Item) → with_pairs (pairs_and qs (pair k v no_pairs)) m ≡ option_and_then (with_pair k v) (with_pairs qs m)
puts_more no_pairs k v m = none_more (with_pair k v m)
puts_more (pair a b qs) k v m =
    within (with_pairs (pairs_and qs (pair k v no_pairs))) (with_pairs qs) (with_pair k v) (with_pair a b m) (λ x. puts_more qs k v x)

-- One more pair, added to the map made so far.
abbrev pub MakesOne : labels.Label × entries.Entry → Option Item → Option Item → Type 0
MakesOne p made new =
    (k : Item) × (v : Item) × (IsKey (label_view p.0) k × IsEntry (entry_view p.1) v) × (new ≡ option_and_then (with_pair k v) made)

pub more_put :
    (ps : List (labels.Label × entries.Entry)) (i : ℕ) (d : labels.Label × entries.Entry) (m : Item) (made new : Option Item) → i < length ps
    → (qs : Pairs) × ArePairs (pairs_view (take i ps)) qs × (made ≡ with_pairs qs m)
    → MakesOne (get_or ps i d) made new
    → (qs : Pairs) × ArePairs (pairs_view (take (i + 1) ps)) qs × (new ≡ with_pairs qs m)
more_put ps i d m made new lt far h =
    let p = get_or ps i d in
    let rs = pairs_and far.0 (pair h.0 h.1 no_pairs) in
    let all : pairs_view (take (i + 1) ps) ≡ pairs_view (take i ps) ++ pair_view p ∷ [] =
    ap pairs_view (take_more ps i d lt) ∙ map-append pair_view (take i ps) (p ∷ []) in (
      rs,
      subst (λ xs. ArePairs xs rs) (sym all) (are_more (pairs_view (take i ps)) (pair_view p) far.0 h.0 h.1 far.1 h.2),
      h.3 ∙ (ap (option_and_then (with_pair h.0 h.1)) far.2 ∙ sym (puts_more far.0 h.0 h.1 m)),
    )

some_fault :
    (ps : List (labels.Label × entries.Entry)) (i : ℕ) (d : labels.Label × entries.Entry) (f : CoseError) → i < length ps
    → KeyFaults (label_view (get_or ps i d).0) f ⊎ EntryFaults (entry_view (get_or ps i d).1) f
    → SomePairFaults (pairs_view ps) f
some_fault [] i d f lt h = absurd (omega (arith, lt))
some_fault (p ∷ ps) zero d f lt h = inl h
some_fault (p ∷ ps) (suc i) d f lt h = inr (some_fault ps i d f (omega (arith, lt)) h)

pub fault_there :
    (ps : List (labels.Label × entries.Entry)) (i : ℕ) (d : labels.Label × entries.Entry) (e : CoseError) → i < length ps
    → UnlessMemory e (λ f. KeyFaults (label_view (get_or ps i d).0) f ⊎ EntryFaults (entry_view (get_or ps i d).1) f)
    → UnlessMemory e (SomePairFaults (pairs_view ps))
fault_there ps i d e lt h = λ n. some_fault ps i d e lt (h n)
