-- A map read forward, pair by pair.
use Rattle.std.proofs.Common.{◌≡◌, ◌⊎◌, List, true, false, Some, None, Result, Ok, Err, refl, sym, subst, inr, inl}
use Rattle.std.specs.Prelude.{IfErr, IsErrAnd, OnOk}
use Rattle.std.specs.Map.{keys_of}
use Rattle.coset_value.specs.Item.{Item, Pairs, no_pairs, pair}
use Rattle.coset_value.specs.Parts.{as_map}
use Rattle.coset_codec.specs.declared.error.CoseError.{CoseError}
use Rattle.coset_codec.specs.declared.error.CoseError.TheVariants.{DuplicateMapKey, OutOfMemory}
use Rattle.coset_codec.specs.declared.read.decoder.MapEntries.{MapEntries}
use Rattle.coset_codec.specs.Errors.{UnlessMemory}
use Rattle.coset_codec.specs.Visiting.{AtPair, ReadsPairs}
use Rattle.coset_codec.specs.Inputs.{State, NextsKey, PairsWithin, ReadsAt}
use Rattle.coset_codec.specs.Maps.{MapLabels, Fields, Adds, Refuses, Walks, are_distinct, labelled}
use Rattle.coset_codec.specs.MapLaws.{LawfulMapLabels, LawfulFields}
use Rattle.coset_codec.specs.ShapeLaws.{some-none}
use Rattle.coset_codec.proofs.Walking.{arrives, goes_on, refuses, stumbles}

-- Some pairs were read, and others are left.
pub record Midway (N A : Type 0) (n : MapLabels N) (fs : Fields N A) (all : Pairs) (x : A × List (N × Item)) (t z : State) (m : MapEntries) : Type 0 where
  pub left : Pairs
  pub walks : Walks N A n fs all x left
  pub within : PairsWithin m left t z

module _ {K N A : Type 0} (n : MapLabels N) (laws : LawfulMapLabels N n) (fs : Fields N A) (fl : LawfulFields N A n fs) (named : K → N) (all : Pairs) where
  pub at_end : (x : A × List (N × Item)) (s t z : State) (m k : MapEntries) → (w : Midway N A n fs all x s z m) → NextsKey n.shape named w.left t z k (Ok None)
      → ReadsPairs n fs all x t z k (Ok tt)
  at_end x s t z m k w h = (subst (Walks N A n fs all x) h.0 w.walks, h.1)

  pub at_key : (x : A × List (N × Item)) (s t z : State) (m k : MapEntries) (e : CoseError) → (w : Midway N A n fs all x s z m)
      → NextsKey n.shape named w.left t z k (Err e) → AtPair N A n fs all x t z k e
  at_key x s t z m k e w h =
      record { key = h.0; value = h.1; others = h.2; walks = subst (Walks N A n fs all x) h.3 w.walks; within = h.4; faulty = λ i. inl (h.5 i) }

  pub on_value :
      (x y : A × List (N × Item)) (s t u z : State) (m k : MapEntries) (l : K) → (w : Midway N A n fs all x s z m)
      → NextsKey n.shape named w.left t z k (Ok (Some l)) → ReadsAt t u (λ v. Adds n fs (named l) v x y)
      → Midway N A n fs all y u z k
  on_value x y s t u z m k l w h takes =
      let here = takes h.1 h.3 h.6 in
      record {
        left = h.2;
        walks = goes_on n laws fs fl all w.left h.2 h.0 h.1 x y w.walks h.4 (named l, h.5, here.1);
        within = subst (λ p. PairsWithin k h.2 p z) (sym here.0) h.7;
      }

  pub at_value :
      (x y : A × List (N × Item)) (s t u z : State) (m k : MapEntries) (l : K) (e : CoseError) → (w : Midway N A n fs all x s z m)
      → NextsKey n.shape named w.left t z k (Ok (Some l)) → y ≡ x
      → ReadsAt t u (λ v. UnlessMemory e (Refuses n fs (named l) v x)) → AtPair N A n fs all y u z k e
  at_value x y s t u z m k l e w h same refused =
      let here = refused h.1 h.3 h.6 in
      subst (λ p. AtPair N A n fs all p u z k e) (sym same) (record {
        key = h.0;
        value = h.1;
        others = h.2;
        walks = subst (Walks N A n fs all x) h.4 w.walks;
        within = subst (λ p. PairsWithin k h.2 p z) (sym here.0) h.7;
        faulty = λ i. inr (named l, h.5, here.1 i);
      })

  -- Passes on an error.
  pub stops : (x : A × List (N × Item)) (t z : State) (k : MapEntries) (r : Result (Unit {0}) CoseError) (e : CoseError) → IsErrAnd r (λ i. i ≡ e)
      → AtPair N A n fs all x t z k e → ReadsPairs n fs all x t z k r
  stops x t z k (Ok u) e h a = absurd h
  stops x t z k (Err i) e h a = subst (AtPair N A n fs all x t z k) (sym h) a

  -- How far reading came, and the pairs left.
  walked : (x : A × List (N × Item)) (t z : State) (k : MapEntries) (r : Result (Unit {0}) CoseError) → ReadsPairs n fs all x t z k r → (left : Pairs)
      × Walks N A n fs all x left
  walked x t z k (Ok u) w = (no_pairs, w.0)
  walked x t z k (Err e) w = (pair w.key w.value w.others, w.walks)

  pub left_behind : (x : A × List (N × Item)) (t z : State) (k : MapEntries) (r : Result (Unit {0}) CoseError) → ReadsPairs n fs all x t z k r → (left : Pairs)
      × PairsWithin k left t z
  left_behind x t z k (Ok u) w = (no_pairs, w.1)
  left_behind x t z k (Err e) w = (w.others, w.within)

  -- The final result for all the pairs of a map.
  pub all_read :
      (v : Item) (x : A × List (N × Item)) (t z : State) (k : MapEntries) (r q : Result (Unit {0}) CoseError) → as_map v ≡ Some all
      → ReadsPairs n fs all x t z k r
      → OnOk q ((are_distinct n.same (keys_of x.1) ≡ true) × (r ≡ Ok tt)) → OnOk q ((labelled n fs).describes v x)
  all_read v x t z k r (Ok u) m w h = arrives n laws fs fl v all no_pairs x m (subst (ReadsPairs n fs all x t z k) h.1 w).0 refl h.0
  all_read v x t z k r (Err e) m w h = tt

  -- The final error is that of the refused pair, or of a repeated label before it.
  pub first_stands :
      (v : Item) (x : A × List (N × Item)) (t z : State) (k : MapEntries) (r q : Result (Unit {0}) CoseError) → as_map v ≡ Some all
      → ReadsPairs n fs all x t z k r
      → IfErr q (λ e. UnlessMemory e (λ f. (r ≡ Err f) ⊎ ((f ≡ DuplicateMapKey) × (are_distinct n.same (keys_of x.1) ≡ false))))
      → IfErr q (λ e. UnlessMemory e ((labelled n fs).faults v))
  first_stands v x t z k r (Ok u) m w h = tt
  first_stands v x t z k r (Err e) m w h = λ i. fault i (h i)
    where
      fault : (e ≡ OutOfMemory → ⊥) → (r ≡ Err e) ⊎ ((e ≡ DuplicateMapKey) × (are_distinct n.same (keys_of x.1) ≡ false)) → (labelled n fs).faults v e
      fault i (inl s) =
          let a : AtPair N A n fs all x t z k e = subst (ReadsPairs n fs all x t z k) s w in
          refuses n laws fs fl v all (pair a.key a.value a.others) a.others a.key a.value x e m a.walks refl (a.faulty i)
      fault i (inr s) = let far = walked x t z k r w in subst ((labelled n fs).faults v) (sym s.0) (stumbles n laws fs fl v all far.0 x m far.1 s.1)

-- If the item is a map, the case of another kind cannot occur.
pub is_map : (v : Item) (all : Pairs) (P : CoseError → Type 0) (q : Result (Unit {0}) CoseError) → as_map v ≡ Some all → IfErr q (λ e. as_map v ≡ None → P e)
is_map v all P (Ok u) m = tt
is_map v all P (Err e) m = λ none. absurd (some-none m none)
