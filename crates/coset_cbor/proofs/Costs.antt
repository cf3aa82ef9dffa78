-- A check of an encoding takes as many steps as the encoding costs.
use Rattle.std.proofs.Common.{◌≡◌, ℕ, zero, suc, ◌+◌, ◌*◌, ◌/◌, ◌<◌, ◌≤◌, Bool, true, false, ltb, List, [], ◌∷◌, ◌++◌, replicate, length, Some, None, Ok, refl}
use Rattle.std.proofs.Common.{sym, ap, subst, ◌∙◌, append_assoc, arith, inl, inr}
use Rattle.std.specs.Prelude.{pos, negsuc}
use Rattle.std.proofs.lemmas.List.{length-append, append-nil}
use Rattle.std.proofs.Math.Nat.{max-zero}
use Rattle.coset_value.specs.Item.{half, single, double, Item, integer, bytes, float, text, boolean, null, tag, array, dict, Items, no_items, item, Pairs}
use Rattle.coset_value.specs.Item.{no_pairs, pair, items_count, pairs_count, depth, items_depth, pairs_depth}
use Rattle.coset_cbor.specs.declared.fault.Fault.TheVariants.{End}
use Rattle.coset_cbor.specs.Heads.{Argument}
use Rattle.coset_cbor.specs.Heads as places
use Rattle.coset_cbor.specs.Grammar.{within, two, four, eight, IsHeaded, EachInOrder, string_type, IsDefinite, IsStringEncoding, EnclosesContent, IsEncoding}
use Rattle.coset_cbor.specs.Grammar.{AreEncodings, ArePairEncodings, IsItem}
use Rattle.coset_cbor.specs.Reading.{Parse, number_of, head_at, string_at, chunk_at, times_at, pair_at, things, item_at}
use Rattle.coset_cbor.specs.Cost.{content_cost, chunks_cost, IsStringCost, IsContentCost, IsCost, AreCosts, ArePairCosts}
use Rattle.coset_cbor.specs.Counting.{after, content_steps, chunk_steps, times_steps, until_steps, string_steps, pair_steps, StepsInside, no_steps, steps_of}
use Rattle.coset_cbor.specs.Counting.{steps_from, item_steps}
use Rattle.coset_cbor.proofs.Again.{head_of, IsHead-again, IsHeaded-again, head_again, opening_again, begins_chunk-type, string_again, chunk_again, chunk_reads}
use Rattle.coset_cbor.proofs.Again.{Begins, no_break, regroup, IsEncoding-begins, ReadsAgain, within_turns, broken_is, list_of, length-list_of, pair_list_of}
use Rattle.coset_cbor.proofs.Again.{length-pair_list_of, IsEncodingBelow, IsPairEncodingBelow, encodings_differ, pair_reads, things_again, item_again}
use Rattle.coset_cbor.proofs.Takes.{guard_ok}

-- ---- every encoding has a cost, and bytes with a cost are an encoding

string_has_cost : (is_text : Bool) (s b : List ℕ) → IsStringEncoding is_text s b → (k : ℕ) × IsStringCost is_text s b k
string_has_cost is_text s b (inl h) = (suc (content_cost is_text s), inl (h, refl))
string_has_cost is_text s b (inr h) = (2 + chunks_cost is_text h.0, inr (h.0, h.1, h.2, h.3, h.4, refl))

held_has_cost : (m n : ℕ) (s b : List ℕ) (j : ℕ) → EnclosesContent m n s b → (k : ℕ) × IsContentCost m n s b j k
held_has_cost m n s b j (inl h) = (suc j, inl (h, refl))
held_has_cost m n s b j (inr h) = (2 + j, inr (h, refl))

mutual
  pub has_cost : (v : Item) (b : List ℕ) → IsEncoding v b → (k : ℕ) × IsCost v b k
  has_cost (integer n) b h = (1, (h, refl))
  has_cost (bytes s) b h = string_has_cost false s b h
  has_cost (float x) b h = (1, (h, refl))
  has_cost (text s) b h = string_has_cost true s b h
  has_cost (boolean x) b h = (1, (h, refl))
  has_cost null b h = (1, (h, refl))
  has_cost (tag t v) b h = let i = has_cost v h.0 h.1 in (suc i.0, (h.0, i.0, i.1, h.2, refl))
  has_cost (array vs) b h = let i = have_costs vs h.0 h.1 in let k = held_has_cost 4 (items_count vs) h.0 b i.0 h.2 in (k.0, (h.0, i.0, i.1, k.1))
  has_cost (dict ps) b h = let i = pairs_have_costs ps h.0 h.1 in let k = held_has_cost 5 (pairs_count ps) h.0 b i.0 h.2 in (k.0, (h.0, i.0, i.1, k.1))

  have_costs : (vs : Items) (b : List ℕ) → AreEncodings vs b → (k : ℕ) × AreCosts vs b k
  have_costs no_items b h = (0, (h, refl))
  have_costs (item v vs) b h = let i = has_cost v h.0 h.2 in let j = have_costs vs h.1 h.3 in (i.0 + j.0, (h.0, h.1, i.0, j.0, i.1, j.1, h.4, refl))

  pairs_have_costs : (ps : Pairs) (b : List ℕ) → ArePairEncodings ps b → (k : ℕ) × ArePairCosts ps b k
  pairs_have_costs no_pairs b h = (0, (h, refl))
  pairs_have_costs (pair x v ps) b h =
      let g = has_cost x h.0 h.3 in
      let i = has_cost v h.1 h.4 in
      let j = pairs_have_costs ps h.2 h.5 in
      (g.0 + (i.0 + j.0), (h.0, h.1, h.2, g.0, i.0, j.0, g.1, i.1, j.1, h.6, refl))

string_cost_encoding : (is_text : Bool) (s b : List ℕ) (k : ℕ) → IsStringCost is_text s b k → IsStringEncoding is_text s b
string_cost_encoding is_text s b k (inl h) = inl h.0
string_cost_encoding is_text s b k (inr h) = inr (h.0, h.1, h.2, h.3, h.4)

held_cost_held : (m n : ℕ) (s b : List ℕ) (j k : ℕ) → IsContentCost m n s b j k → EnclosesContent m n s b
held_cost_held m n s b j k (inl h) = inl h.0
held_cost_held m n s b j k (inr h) = inr h.0

mutual
  pub cost_encoding : (v : Item) (b : List ℕ) (k : ℕ) → IsCost v b k → IsEncoding v b
  cost_encoding (integer n) b k h = h.0
  cost_encoding (bytes s) b k h = string_cost_encoding false s b k h
  cost_encoding (float x) b k h = h.0
  cost_encoding (text s) b k h = string_cost_encoding true s b k h
  cost_encoding (boolean x) b k h = h.0
  cost_encoding null b k h = h.0
  cost_encoding (tag t v) b k h = (h.0, cost_encoding v h.0 h.1 h.2, h.3)
  cost_encoding (array vs) b k h = (h.0, costs_encodings vs h.0 h.1 h.2, held_cost_held 4 (items_count vs) h.0 b h.1 k h.3)
  cost_encoding (dict ps) b k h = (h.0, pair_costs_encodings ps h.0 h.1 h.2, held_cost_held 5 (pairs_count ps) h.0 b h.1 k h.3)

  costs_encodings : (vs : Items) (b : List ℕ) (k : ℕ) → AreCosts vs b k → AreEncodings vs b
  costs_encodings no_items b k h = h.0
  costs_encodings (item v vs) b k h = (h.0, h.1, cost_encoding v h.0 h.2 h.4, costs_encodings vs h.1 h.3 h.5, h.6)

  pair_costs_encodings : (ps : Pairs) (b : List ℕ) (k : ℕ) → ArePairCosts ps b k → ArePairEncodings ps b
  pair_costs_encodings no_pairs b k h = h.0
  pair_costs_encodings (pair x v ps) b k h = (h.0, h.1, h.2, cost_encoding x h.0 h.3 h.6, cost_encoding v h.1 h.4 h.7, pair_costs_encodings ps h.2 h.5 h.8, h.9)

-- ---- strings

content_exact : (is_text : Bool) (left : ℕ) (s rest : List ℕ) → string_at is_text left (length s) (s ++ rest) ≡ Ok (s, rest)
    → content_steps is_text left (length s) (s ++ rest) ≡ content_cost is_text s
unfolding content_steps
content_exact is_text left s rest e = rw e refl

chunk_exact : (is_text : Bool) (s c rest : List ℕ) → IsDefinite is_text s c → chunk_steps is_text (c ++ rest) ≡ suc (content_cost is_text s)
unfolding chunk_steps
chunk_exact is_text s c rest h =
    let r = IsHeaded-again (string_type is_text) (length s) s c rest h.1 in
    rw (
      r.reads,
      begins_chunk-type is_text,
      r.number,
      content_exact is_text (length (c ++ rest)) s rest
          (string_again is_text (length (c ++ rest)) s rest h.0),
    ) refl

-- ---- repetition

-- R x c k says: c is an encoding of x and takes k steps.
abbrev pub EachCost : {A : Type 0} → (A → List ℕ → ℕ → Type 0) → List A → List ℕ → ℕ → Type 0
EachCost R [] b k = (b ≡ []) × (k ≡ 0)
EachCost R (x ∷ xs) b k = (c : List ℕ) × (d : List ℕ) × (i : ℕ) × (j : ℕ) × R x c i × EachCost R xs d j × (b ≡ c ++ d) × (k ≡ i + j)

record IsExact {A : Type 0} (R : A → List ℕ → ℕ → Type 0) (one : Parse A) (st : List ℕ → ℕ) : Type 0 where
  reads : (x : A) (c rest : List ℕ) (k : ℕ) → R x c k → one (c ++ rest) ≡ Ok (x, rest)
  exact : (x : A) (c rest : List ℕ) (k : ℕ) → R x c k → st (c ++ rest) ≡ k
  begins : (x : A) (c : List ℕ) (k : ℕ) → R x c k → Begins c

times_exact : {A : Type 0} (R : A → List ℕ → ℕ → Type 0) (one : Parse A) (st : List ℕ → ℕ) (h : IsExact R one st) (xs : List A) (b rest : List ℕ) (k : ℕ)
    → EachCost R xs b k → times_steps one st (length xs) (b ++ rest) ≡ k
unfolding times_steps
times_exact R one st h [] b rest k e = sym e.1
times_exact R one st h (x ∷ xs) b rest k e =
    ap (times_steps one st (suc (length xs))) (regroup e.0 e.1 b rest e.6)
    ∙ rw (h.reads x e.0 (e.1 ++ rest) e.2 e.4, h.exact x e.0 (e.1 ++ rest) e.2 e.4, times_exact R one st h xs e.1 rest e.3 e.5) (sym e.7)

until_exact : {A : Type 0} (R : A → List ℕ → ℕ → Type 0) (one : Parse A) (st : List ℕ → ℕ) (h : IsExact R one st) (turns : ℕ) (xs : List A) (b rest : List ℕ)
    (k : ℕ) → EachCost R xs b k → length b < turns
    → until_steps one st turns (b ++ 255 ∷ rest) ≡ suc k
unfolding until_steps
until_exact R one st h zero xs b rest k e lt = absurd (omega arith)
until_exact R one st h (suc turns) [] b rest k e lt = ap (λ (x : List ℕ). until_steps one st (suc turns) (x ++ 255 ∷ rest)) e.0 ∙ ap suc (sym e.1)
until_exact R one st h (suc turns) (x ∷ xs) b rest k e lt =
    let g = h.begins x e.0 e.2 e.4 in
    let goes = no_break e.0 (e.1 ++ 255 ∷ rest) g in
    let size : length b ≡ length e.0 + length e.1 = ap length e.6 ∙ length-append e.0 e.1 in
    let some : length e.0 ≡ suc (length g.more) = ap length g.parts in
    let others = until_exact R one st h turns xs e.1 rest e.3 e.5 (omega arith) in
    let sum : e.2 + suc e.3 ≡ suc k = let is = e.7 in omega arith in
    ap (until_steps one st (suc turns)) (regroup e.0 e.1 b (255 ∷ rest) e.6)
    ∙ rw (goes, h.reads x e.0 (e.1 ++ 255 ∷ rest) e.2 e.4, h.exact x e.0 (e.1 ++ 255 ∷ rest) e.2 e.4, others) sum

-- ---- strings, whole or in chunks

abbrev ChunkCost : Bool → List ℕ → List ℕ → ℕ → Type 0
ChunkCost is_text s c k = IsDefinite is_text s c × (k ≡ suc (content_cost is_text s))

chunk_is_exact : (is_text : Bool) → IsExact (ChunkCost is_text) (chunk_at is_text) (chunk_steps is_text)
chunk_is_exact is_text = record {
  reads = λ s c rest k h. chunk_again is_text s c rest h.0;
  exact = λ s c rest k h. chunk_exact is_text s c rest h.0 ∙ sym h.1;
  begins = λ s c k h. (chunk_reads is_text).begins s c h.0;
}

chunks_each : (is_text : Bool) (ss : List (List ℕ)) (c : List ℕ) → EachInOrder (IsDefinite is_text) ss c
    → EachCost (ChunkCost is_text) ss c (chunks_cost is_text ss)
chunks_each is_text [] c h = (h, refl)
chunks_each is_text (s ∷ ss) c h = (
  h.0,
  h.1,
  suc (content_cost is_text s),
  chunks_cost is_text ss,
  (h.2, refl),
  chunks_each is_text ss h.1 h.3,
  h.4,
  omega arith,
)

-- A check of a string takes k steps.
record StringExact (is_text : Bool) (left : ℕ) (k : ℕ) (b : List ℕ) : Type 0 where
  argument : Argument
  more : List ℕ
  reads : head_at b ≡ Ok (head_of (string_type is_text) argument, more)
  steps : suc (string_steps is_text left (number_of argument) more) ≡ k

string_exact : (is_text : Bool) (left : ℕ) (s b rest : List ℕ) (k : ℕ) → IsStringCost is_text s b k → StringExact is_text left k (b ++ rest)
string_exact is_text left s b rest k (inl h) =
    let r = IsHeaded-again (string_type is_text) (length s) s b rest h.0.1 in
    record {
      argument = r.argument;
      more = s ++ rest;
      reads = r.reads;
      steps =
          rw r.number (ap suc (content_exact is_text left s rest (string_again is_text left s rest h.0.0)) ∙ sym h.1);
    }
string_exact is_text left s b rest k (inr h) =
    let all = until_exact (ChunkCost is_text) (chunk_at is_text) (chunk_steps is_text) (chunk_is_exact is_text) (length (h.1 ++ 255 ∷ rest)) h.0 h.1 rest
    (chunks_cost is_text h.0) (chunks_each is_text h.0 h.1 h.3) (within_turns h.1 rest) in
    record {
      argument = places.Indefinite;
      more = h.1 ++ 255 ∷ rest;
      reads = ap head_at (broken_is (string_type is_text) h.1 b rest h.4) ∙ opening_again (string_type is_text) (h.1 ++ 255 ∷ rest);
      steps = ap suc all ∙ let is = h.5 in omega arith;
    }

-- ---- enclosed items

-- An item less than d deep, with its cost.
abbrev CostBelow : ℕ → Item → List ℕ → ℕ → Type 0
CostBelow d v c k = IsCost v c k × (depth v < d)

abbrev PairCostBelow : ℕ → (Item × Item) → List ℕ → ℕ → Type 0
PairCostBelow d p b k = (c : List ℕ) × (e : List ℕ) × (i : ℕ) × (j : ℕ) × CostBelow d p.0 c i × CostBelow d p.1 e j × (b ≡ c ++ e) × (k ≡ i + j)

costs_each : (d : ℕ) (vs : Items) (b : List ℕ) (k : ℕ) → AreCosts vs b k → items_depth vs < d → EachCost (CostBelow d) (list_of vs) b k
costs_each d no_items b k h lt = h
costs_each d (item v vs) b k h lt = (h.0, h.1, h.2, h.3, (h.4, omega arith), costs_each d vs h.1 h.3 h.5 (omega arith), h.6, h.7)

pair_costs_each : (d : ℕ) (ps : Pairs) (b : List ℕ) (k : ℕ) → ArePairCosts ps b k → pairs_depth ps < d → EachCost (PairCostBelow d) (pair_list_of ps) b k
pair_costs_each d no_pairs b k h lt = h
pair_costs_each d (pair x v ps) b k h lt = (
  h.0 ++ h.1,
  h.2,
  h.3 + h.4,
  h.5,
  (h.0, h.1, h.3, h.4, (h.6, omega arith), (h.7, omega arith), refl, refl),
  pair_costs_each d ps h.2 h.5 h.8 (omega arith),
  h.9 ∙ sym (append_assoc h.0 h.1 h.2),
  let is = h.10 in omega arith,
)

record InsideExact (d : ℕ) (st : StepsInside) : Type 0 where
  one : (v : Item) (c rest : List ℕ) (k : ℕ) → IsCost v c k → depth v < d → st.one (c ++ rest) ≡ k
  items : (vs : Items) (c rest : List ℕ) (k : ℕ) → AreCosts vs c k → items_depth vs < d → st.items (Some (items_count vs)) (c ++ rest) ≡ k
  items_until : (vs : Items) (c rest : List ℕ) (k : ℕ) → AreCosts vs c k → items_depth vs < d → st.items None (c ++ 255 ∷ rest) ≡ suc k
  pairs : (ps : Pairs) (c rest : List ℕ) (k : ℕ) → ArePairCosts ps c k → pairs_depth ps < d → st.pairs (Some (pairs_count ps)) (c ++ rest) ≡ k
  pairs_until : (ps : Pairs) (c rest : List ℕ) (k : ℕ) → ArePairCosts ps c k → pairs_depth ps < d → st.pairs None (c ++ 255 ∷ rest) ≡ suc k

nothing_exact : InsideExact 0 no_steps
nothing_exact = record {
  one = λ v c rest k h lt. absurd (omega arith);
  items = λ v c rest k h lt. absurd (omega arith);
  items_until = λ v c rest k h lt. absurd (omega arith);
  pairs = λ v c rest k h lt. absurd (omega arith);
  pairs_until = λ v c rest k h lt. absurd (omega arith);
}

encoding_reads : (d : ℕ) → ReadsAgain (IsEncodingBelow (suc d)) (item_at d)
encoding_reads d = record { again = λ v c rest h. item_again d v c rest h.0 (let le = h.1 in omega arith); begins = λ v c h. IsEncoding-begins v c h.0 }

pair_encoding : (d : ℕ) (p : Item × Item) (b : List ℕ) (k : ℕ) → PairCostBelow d p b k → IsPairEncodingBelow d p b
pair_encoding d p b k h = (h.0, h.1, (cost_encoding p.0 h.0 h.2 h.4.0, h.4.1), (cost_encoding p.1 h.1 h.3 h.5.0, h.5.1), h.6)

item_is_exact : (d : ℕ) (st : List ℕ → ℕ) → ((v : Item) (c rest : List ℕ) (k : ℕ) → IsCost v c k → depth v ≤ d → st (c ++ rest) ≡ k)
    → IsExact (CostBelow (suc d)) (item_at d) st
item_is_exact d st h = record {
  reads = λ v c rest k e. (encoding_reads d).again v c rest (cost_encoding v c k e.0, e.1);
  exact = λ v c rest k e. h v c rest k e.0 (let le = e.1 in omega arith);
  begins = λ v c k e. IsEncoding-begins v c (cost_encoding v c k e.0);
}

pair_is_exact : (d : ℕ) (st : List ℕ → ℕ) → IsExact (CostBelow (suc d)) (item_at d) st
    → IsExact (PairCostBelow (suc d)) (pair_at (item_at d)) (pair_steps (item_at d) st)
unfolding pair_steps
pair_is_exact d st h =
    let reads = pair_reads (suc d) (item_at d) (encoding_reads d) in
    record {
      reads = λ p b rest k e. reads.again p b rest (pair_encoding (suc d) p b k e);
      exact = λ p b rest k e.
          ap (λ (x : List ℕ). st x + after (item_at d x) (λ y. st y.1)) (regroup e.0 e.1 b rest e.6)
          ∙ rw (h.reads p.0 e.0 (e.1 ++ rest) e.2 e.4, h.exact p.0 e.0 (e.1 ++ rest) e.2 e.4, h.exact p.1 e.1 rest e.3 e.5) (sym e.7);
      begins = λ p b k e. reads.begins p b (pair_encoding (suc d) p b k e);
    }

things_exact : (d : ℕ) (st : List ℕ → ℕ) → IsExact (CostBelow (suc d)) (item_at d) st → InsideExact (suc d) (steps_of (item_at d) st)
unfolding steps_of things
things_exact d st h =
    let inner = things_again (suc d) (item_at d) (encoding_reads d) in
    let pair_h = pair_is_exact d st h in
    record {
      one = λ v c rest k e lt. h.exact v c rest k (e, lt);
      items = λ vs c rest k e lt.
          let g = guard_ok (ltb (length (c ++ rest)) (items_count vs)) End (times_at (item_at d) (items_count vs) (c ++ rest)) (list_of vs, rest)
          (inner.items vs c rest (costs_encodings vs c k e) lt) in
          rw g.0 (ap (λ (n : ℕ). times_steps (item_at d) st n (c ++ rest)) (sym (length-list_of vs))
          ∙ times_exact (CostBelow (suc d)) (item_at d) st h (list_of vs) c rest k (costs_each (suc d) vs c k e lt));
      items_until = λ vs c rest k e lt. until_exact (CostBelow (suc d)) (item_at d) st h (length (c ++ 255 ∷ rest)) (list_of vs) c rest k
          (costs_each (suc d) vs c k e lt) (within_turns c rest);
      pairs = λ ps c rest k e lt.
          let g = guard_ok (ltb (length (c ++ rest) / 2) (pairs_count ps)) End (times_at (pair_at (item_at d)) (pairs_count ps) (c ++ rest))
          (pair_list_of ps, rest) (inner.pairs ps c rest (pair_costs_encodings ps c k e) lt) in
          rw g.0 (ap (λ (n : ℕ). times_steps (pair_at (item_at d)) (pair_steps (item_at d) st) n (c ++ rest)) (sym (length-pair_list_of ps))
          ∙ times_exact (PairCostBelow (suc d)) (pair_at (item_at d)) (pair_steps (item_at d) st) pair_h (pair_list_of ps) c rest k
          (pair_costs_each (suc d) ps c k e lt));
      pairs_until = λ ps c rest k e lt. until_exact (PairCostBelow (suc d)) (pair_at (item_at d)) (pair_steps (item_at d) st) pair_h (length (c ++ 255 ∷ rest))
          (pair_list_of ps) c rest k (pair_costs_each (suc d) ps c k e lt) (within_turns c rest);
    }

two_more : (j k : ℕ) → k ≡ 2 + j → suc (suc j) ≡ k
two_more j k e = omega arith

from_exact : (d : ℕ) (st : StepsInside) → InsideExact d st → (v : Item) (b rest : List ℕ) (k : ℕ) → IsCost v b k → depth v ≤ d → steps_from st (b ++ rest) ≡ k
from_exact d st inner (integer (pos n)) b rest k h le = let r = IsHead-again 0 n b rest h.0 in rw r.reads (sym h.1)
from_exact d st inner (integer (negsuc n)) b rest k h le = let r = IsHead-again 1 n b rest h.0 in rw r.reads (sym h.1)
from_exact d st inner (bytes s) b rest k h le = let r = string_exact false (length (b ++ rest)) s b rest k h in rw r.reads r.steps
from_exact d st inner (float (half n)) b rest k h le = let r = head_again two 7 n rest h.0.0 in ap (λ (x : List ℕ). steps_from st (x ++ rest)) h.0.1
    ∙ rw r (sym h.1)
from_exact d st inner (float (single n)) b rest k h le = let r = head_again four 7 n rest h.0.0 in ap (λ (x : List ℕ). steps_from st (x ++ rest)) h.0.1
    ∙ rw r (sym h.1)
from_exact d st inner (float (double n)) b rest k h le = let r = head_again eight 7 n rest h.0.0 in ap (λ (x : List ℕ). steps_from st (x ++ rest)) h.0.1
    ∙ rw r (sym h.1)
from_exact d st inner (text s) b rest k h le = let r = string_exact true (length (b ++ rest)) s b rest k h in rw r.reads r.steps
from_exact d st inner (boolean false) b rest k h le = let r = head_again within 7 20 rest (omega arith) in ap (λ (x : List ℕ). steps_from st (x ++ rest)) h.0
    ∙ rw r (sym h.1)
from_exact d st inner (boolean true) b rest k h le = let r = head_again within 7 21 rest (omega arith) in ap (λ (x : List ℕ). steps_from st (x ++ rest)) h.0
    ∙ rw r (sym h.1)
from_exact d st inner null b rest k h le = let r = head_again within 7 22 rest (omega arith) in ap (λ (x : List ℕ). steps_from st (x ++ rest)) h.0
    ∙ rw r (sym h.1)
from_exact d st inner (tag t v) b rest k h le =
    let r = IsHeaded-again 6 t h.0 b rest h.3 in
    rw (r.reads, r.number, inner.one v h.0 rest h.1 h.2 (omega arith)) (sym h.4)
from_exact d st inner (array vs) b rest k (c, j, h, inl e) le =
    let r = IsHeaded-again 4 (items_count vs) c b rest e.0 in
    rw (r.reads, r.number, inner.items vs c rest j h (omega arith)) (sym e.1)
from_exact d st inner (array vs) b rest k (c, j, h, inr e) le =
    ap (steps_from st) (broken_is 4 c b rest e.0) ∙ rw (opening_again 4 (c ++ 255 ∷ rest), inner.items_until vs c rest j h (omega arith)) (two_more j k e.1)
from_exact d st inner (dict ps) b rest k (c, j, h, inl e) le =
    let r = IsHeaded-again 5 (pairs_count ps) c b rest e.0 in
    rw (r.reads, r.number, inner.pairs ps c rest j h (omega arith)) (sym e.1)
from_exact d st inner (dict ps) b rest k (c, j, h, inr e) le =
    ap (steps_from st) (broken_is 5 c b rest e.0) ∙ rw (opening_again 5 (c ++ 255 ∷ rest), inner.pairs_until ps c rest j h (omega arith)) (two_more j k e.1)

-- A check of an encoding of an item at most d deep takes as many steps as the encoding costs, whatever follows.
pub item_exact : (d : ℕ) (v : Item) (b rest : List ℕ) (k : ℕ) → IsCost v b k → depth v ≤ d → item_steps d (b ++ rest) ≡ k
unfolding item_steps
item_exact zero v b rest k h le = from_exact 0 no_steps nothing_exact v b rest k h le
item_exact (suc d) v b rest k h le = from_exact (suc d) (steps_of (item_at d) (item_steps d))
    (things_exact d (item_steps d) (item_is_exact d (item_steps d) (λ v c rest k e le. item_exact d v c rest k e le))) v b rest k h le

pub one_cost_lem : (v : Item) (b : List ℕ) (j k : ℕ) → IsCost v b j → IsCost v b k → j ≡ k
one_cost_lem v b j k h i = sym (item_exact (depth v) v b [] j h (omega arith)) ∙ item_exact (depth v) v b [] k i (omega arith)

-- ---- nested arrays of one element

abbrev nest : ℕ → Item
nest zero = array no_items
nest (suc n) = array (item (nest n) no_items)

headed : (m : ℕ) (s : List ℕ) → m < 24 → IsHeaded 4 m s ((32 * 4 + m) ∷ s)
headed m s lt = record { head = (32 * 4 + m) ∷ []; is_head = record { width = within; holds = lt; spelled = refl }; parts = refl }

nested_cost : (n : ℕ) → IsCost (nest n) (replicate n 0x81 ++ 0x80 ∷ []) (suc n)
nested_cost zero = ([], 0, (refl, refl), inl (headed 0 [] (omega arith), refl))
nested_cost (suc n) =
    let inner = replicate n 0x81 ++ 0x80 ∷ [] in
    (inner, suc n, (inner, [], suc n, 0, nested_cost n, (refl, refl), sym (append-nil inner), omega arith), inl (headed 1 inner (omega arith), refl))

pub nested_costs : (n k : ℕ) (v : Item) → IsCost v (replicate n 0x81 ++ 0x80 ∷ []) k → k ≡ n + 1
nested_costs n k v h =
    let b = replicate n 0x81 ++ 0x80 ∷ [] in
    let same = encodings_differ v (nest n) b b [] [] (cost_encoding v b k h) (cost_encoding (nest n) b (suc n) (nested_cost n)) refl in
    let is = one_cost_lem (nest n) b k (suc n) (subst (λ (w : Item). IsCost w b k) same.0 h) (nested_cost n) in
    omega arith

nest_depth : (n : ℕ) → depth (nest n) ≡ suc n
nest_depth zero = refl
nest_depth (suc n) = ap suc (max-zero (depth (nest n)) ∙ nest_depth n)

pub nested_item : (n : ℕ) → n < 256 → (v : Item) × IsItem (replicate n 0x81 ++ 0x80 ∷ []) v
nested_item n lt =
    let deep = nest_depth n in
    (nest n, (cost_encoding (nest n) (replicate n 0x81 ++ 0x80 ∷ []) (suc n) (nested_cost n), omega arith))
