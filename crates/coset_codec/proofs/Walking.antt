-- A map read pair by pair.
use Rattle.std.proofs.Common.{◌≡◌, List, [], Some, Bool, true, false, not, refl, sym, ◌∙◌, ap, subst, inl, inr, true≢false}
use Rattle.std.specs.Map.{keys_of}
use Rattle.coset_value.specs.Item.{Item, Pairs, no_pairs, pair}
use Rattle.coset_value.specs.Parts.{as_map}
use Rattle.coset_codec.specs.declared.error.CoseError.{CoseError}
use Rattle.coset_codec.specs.declared.error.CoseError.TheVariants.{DuplicateMapKey}
use Rattle.coset_codec.specs.Maps.{MapLabels, Fields, Entries, SoFar, Walks, TakesKey, RefusesKey, MapFaults, RepeatsLabel}
use Rattle.coset_codec.specs.Maps.{and_pairs, with_pair, are_distinct, labelled}
use Rattle.coset_codec.specs.MapLaws.{LawfulMapLabels, LawfulFields, so_far_none, so_far_more, so_far_all, so_far_twice}
use Rattle.coset_codec.specs.MapLaws.{refuses_fault, key_fault, distinct_tested, and_pairs-with, and_pairs-none}

module _ {N A : Type 0} (n : MapLabels N) (laws : LawfulMapLabels N n) (fs : Fields N A) (fl : LawfulFields N A n fs) where
  pub sets_out : (all : Pairs) (x : A × List (N × Item)) → fs.describes [] x.0 → x.1 ≡ [] → Walks N A n fs all x all
  sets_out all x f r =
      record { done = no_pairs; parts = λ i. all; so_far = subst (λ rest. SoFar N A n fs no_pairs (x.0, rest)) (sym r) (so_far_none n laws fs fl x.0 f) }

  pub goes_on : (all old new : Pairs) (k v : Item) (x y : A × List (N × Item)) → Walks N A n fs all x old → old ≡ pair k v new → TakesKey n fs k v x y
      → Walks N A n fs all y new
  goes_on all old new k v x y w e t =
      record {
        done = with_pair w.done k v;
        parts = w.parts ∙ (ap (and_pairs w.done) e ∙ sym (and_pairs-with w.done k v new));
        so_far = so_far_more n laws fs fl w.done k v t.0 x y w.so_far t.1 t.2;
      }

  pub arrives : (v : Item) (all left : Pairs) (x : A × List (N × Item)) → as_map v ≡ Some all → Walks N A n fs all x left → left ≡ no_pairs
      → are_distinct n.same (keys_of x.1) ≡ true → (labelled n fs).describes v x
  arrives v all left x m w e d =
      let whole : all ≡ w.done = w.parts ∙ (ap (and_pairs w.done) e ∙ and_pairs-none w.done) in
      (all, m, subst (λ ps. Entries N A n fs ps x) (sym whole) (so_far_all n laws fs fl w.done x w.so_far (distinct_tested n (keys_of x.1) d)))

  pub stumbles : (v : Item) (all left : Pairs) (x : A × List (N × Item)) → as_map v ≡ Some all → Walks N A n fs all x left
      → are_distinct n.same (keys_of x.1) ≡ false → (labelled n fs).faults v DuplicateMapKey
  stumbles v all left x m w d =
      inr (all, m, inr (subst (RepeatsLabel n.shape.describes) (sym w.parts) (so_far_twice n laws fs fl w.done x w.so_far d left), λ i. DuplicateMapKey))

  pub refuses :
      (v : Item) (all old new : Pairs) (k w : Item) (x : A × List (N × Item)) (e : CoseError) → as_map v ≡ Some all → Walks N A n fs all x old
      → old ≡ pair k w new → RefusesKey n fs k w x e → (labelled n fs).faults v e
  refuses v all old new k w x e m walk q f = inr (all, m, subst (λ ps. MapFaults n fs ps e) (sym whole) (fault f))
    where
      whole : all ≡ and_pairs (with_pair walk.done k w) new
      whole = walk.parts ∙ (ap (and_pairs walk.done) q ∙ sym (and_pairs-with walk.done k w new))

      fault : RefusesKey n fs k w x e → MapFaults n fs (and_pairs (with_pair walk.done k w) new) e
      fault (inl g) = key_fault n fs walk.done k w e g new
      fault (inr g) = refuses_fault n laws fs fl walk.done k w g.0 x e walk.so_far g.1 g.2 new

-- A test that equals the negation of another.
pub not_true : (b c : Bool) → b ≡ not c → b ≡ true → c ≡ false
not_true b true e h = absurd (true≢false (sym h ∙ e))
not_true b false e h = refl

pub not_false : (b c : Bool) → b ≡ not c → b ≡ false → c ≡ true
not_false b true e h = refl
not_false b false e h = absurd (true≢false (sym e ∙ h))
