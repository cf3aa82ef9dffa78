-- Maps with one more pair, or with many more.
use Rattle.std.specs.Prelude.{◌≡◌, ◌⊎◌, ℕ, List, [], ◌∷◌, Option, Some, None, option_and_then, Result}
use Rattle.coset.specs.Item.{Item, dict, Pairs, no_pairs, pair}
use Rattle.coset.specs.CoseError.{CoseError}
use Rattle.coset.specs.LabelData.{LabelView}
use Rattle.ffi_query.specs.declared.kind.Kind as kinds
use Rattle.ffi_query.specs.declared.refusal.Refusal as refusals
use Rattle.ffi_make.specs.Given.{AnyFaults, EntryFaults, EntryView, IsAny, IsEntry, IsKey, KeyFaults}
use Rattle.ffi_make.specs.LabelsMade.{MakesMapOf}

-- One list of pairs after the other.
abbrev pub pairs_and : Pairs → Pairs → Pairs
pairs_and no_pairs qs = qs
pairs_and (pair k v ps) qs = pair k v (pairs_and ps qs)

-- A map with this pair at its end.
abbrev pub with_pair : Item → Item → Item → Option Item
with_pair k v (dict ps) = Some (dict (pairs_and ps (pair k v no_pairs)))
with_pair k v m = None

-- The arguments of `put`: a map, which is empty if there are no bytes, and the key and value of a pair.
abbrev pub AreGiven : List ℕ → LabelView → EntryView → Item × (Item × Item) → Type 0
AreGiven b l e g = IsAny (dict no_pairs) b g.0 × (IsKey l g.1.0 × IsEntry e g.1.1)

-- One of the arguments has a fault.
abbrev pub PairFaults : List ℕ → LabelView → EntryView → CoseError → Type 0
PairFaults b l e f = AnyFaults b f ⊎ (KeyFaults l f ⊎ EntryFaults e f)

-- The result of `put`: a map of kind k with this pair added.
abbrev pub PutsPair : kinds.Kind → List ℕ → LabelView → EntryView → List ℕ → List ℕ → Result ℕ refusals.Refusal → Type 0
PutsPair k b l e old new r = MakesMapOf k (AreGiven b l e) (PairFaults b l e) (λ g. with_pair g.1.0 g.1.1 g.0) old new r

-- ---- many pairs

-- The pairs have these labels and values, in this order.
abbrev pub ArePairs : List (LabelView × EntryView) → Pairs → Type 0
ArePairs [] qs = qs ≡ no_pairs
ArePairs (x ∷ xs) no_pairs = ⊥
ArePairs (x ∷ xs) (pair k v qs) = (IsKey x.0 k × IsEntry x.1 v) × ArePairs xs qs

-- An item with each of the pairs added, in order.
abbrev pub with_pairs : Pairs → Item → Option Item
with_pairs no_pairs m = Some m
with_pairs (pair k v qs) m = option_and_then (with_pairs qs) (with_pair k v m)

-- One of the labels or values has a fault.
abbrev pub SomePairFaults : List (LabelView × EntryView) → CoseError → Type 0
SomePairFaults [] f = ⊥
SomePairFaults (x ∷ xs) f = (KeyFaults x.0 f ⊎ EntryFaults x.1 f) ⊎ SomePairFaults xs f

-- The arguments of `put_all`: a map, which is empty if there are no bytes, and pairs.
abbrev pub AreAllGiven : List ℕ → List (LabelView × EntryView) → Item × Pairs → Type 0
AreAllGiven b xs g = IsAny (dict no_pairs) b g.0 × ArePairs xs g.1

-- The result of `put_all`: a map of kind k with these pairs added.
abbrev pub PutsPairs : kinds.Kind → List ℕ → List (LabelView × EntryView) → List ℕ → List ℕ → Result ℕ refusals.Refusal → Type 0
PutsPairs k b xs old new r = MakesMapOf k (AreAllGiven b xs) (λ f. AnyFaults b f ⊎ SomePairFaults xs f) (λ g. with_pairs g.1 g.0) old new r
