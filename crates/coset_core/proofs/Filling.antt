-- Reading the pairs of a header one after the other.
use Rattle.std.proofs.Common.{◌≡◌, ◌⊎◌, true, false, Option, Some, None, Result, Ok, Err, refl, sym, subst, inl, inr}
use Rattle.std.specs.Prelude.{IsErrAnd}
use Rattle.coset_value.specs.Item.{Item, dict, Pairs, no_pairs, pair}
use Rattle.std.specs.Map.{keys_of}
use Rattle.coset_codec.specs.declared.error.CoseError.{CoseError}
use Rattle.coset_codec.specs.declared.error.CoseError.TheVariants.{DuplicateMapKey}
use Rattle.coset_codec.specs.declared.read.decoder.MapEntries.{MapEntries}
use Rattle.coset_codec.specs.Errors.{UnlessMemory}
use Rattle.coset_codec.specs.Inputs.{State, NextsKey, PairsWithin, ReadsAt}
use Rattle.coset_codec.specs.Maps.{Adds, Refuses, RefusesKey, ExcludesKey, VisitorFaults, are_distinct, optional}
use Rattle.coset_codec.specs.Shape.{any}
use Rattle.coset_codec.proofs.Walking.{goes_on, refuses, stumbles}
use Rattle.coset_label.specs.Labels.{label, cose_labels}
use Rattle.coset_label.specs.Views.{label_view}
use Rattle.coset_label.specs.declared.label.Label.{Label}
use Rattle.coset_label.specs.LabelData.{same_label}
use Rattle.coset_label.specs.LabelLaws.{cose_labels_laws}
use Rattle.coset_core.specs.Fields.{FieldsView, PerVersion, fields, parts_of, excludes}
use Rattle.coset_core.specs.FieldLaws.{partial_fields_laws}
use Rattle.coset_core.specs.Filling.{WalksTo, AtCounterSignatures, AtEnd, AtFault, FillsSome, FillsFields, IsDistinctRest, label_of}
use Rattle.coset_core.specs.declared.header.reading.CountersignatureVersion.{CountersignatureVersion}

-- The input t is at the value of the next pair, whose label was read. Otherwise no pair is left, or the pair's key has
-- a fault.
abbrev pub NextsLabel : Pairs → State → State → MapEntries → Result (Option Label) CoseError → Type 0
NextsLabel ps t z m r = NextsKey label label_view ps t z m r

-- Some pairs were read, and the others are left.
pub record SoFar (all : Pairs) (o : PerVersion (Option Item)) (f : FieldsView) (t z : State) (m : MapEntries) : Type 0 where
  pub left : Pairs
  pub walks : WalksTo all f o left
  pub within : PairsWithin m left t z

pub at_held :
    (version : CountersignatureVersion) (all : Pairs) (o : PerVersion (Option Item)) (f : FieldsView) (s t z : State) (m n : MapEntries) (l : Label)
    → (w : SoFar all o f s z m)
    → NextsLabel w.left t z n (Ok (Some l)) → same_label (label_of version) (label_view l) ≡ true
    → AtCounterSignatures version all o f t z n
at_held version all o f s t z m n l w h named = record {
  key = h.0;
  value = h.1;
  others = h.2;
  mid = h.3;
  walks = subst (WalksTo all f o) h.4 w.walks;
  is_label = subst (label.describes h.0) (sym (cose_labels_laws.same_is (label_of version) (label_view l) named)) h.5;
  stands = h.6;
  within = h.7;
}

pub at_end : (all : Pairs) (o : PerVersion (Option Item)) (f : FieldsView) (s t z : State) (m n : MapEntries) → (w : SoFar all o f s z m)
    → NextsLabel w.left t z n (Ok None) → AtEnd all o f t z n
at_end all o f s t z m n w h = record { walks = subst (WalksTo all f o) h.0 w.walks; within = h.1 }

pub at_key :
    (all : Pairs) (o : PerVersion (Option Item)) (f : FieldsView) (s t z : State) (m n : MapEntries) (e : CoseError) → (w : SoFar all o f s z m)
    → NextsLabel w.left t z n (Err e) → AtFault all o f t z n e
at_key all o f s t z m n e w h = record {
  key = h.0;
  value = h.1;
  others = h.2;
  walks = subst (WalksTo all f o) h.3 w.walks;
  within = h.4;
  faulty = λ i. inl (inl (h.5 i));
}

-- A value was read, or it was refused.
pub on_value :
    (all : Pairs) (o : PerVersion (Option Item)) (f g : FieldsView) (s t u z : State) (m n : MapEntries) (l : Label) → (w : SoFar all o f s z m)
    → NextsLabel w.left t z n (Ok (Some l))
    → ReadsAt t u (λ v. Adds cose_labels (fields (optional any) (optional any)) (label_view l) v (parts_of (f, o)) (parts_of (g, o))) → SoFar all o g u z n
on_value all o f g s t u z m n l w h takes =
    let here = takes h.1 h.3 h.6 in
    record {
      left = h.2;
      walks = goes_on cose_labels cose_labels_laws (fields (optional any) (optional any)) partial_fields_laws all w.left h.2 h.0 h.1 (parts_of (f, o))
          (parts_of (g, o)) w.walks h.4 (label_view l, h.5, here.1);
      within = subst (λ y. PairsWithin n h.2 y z) (sym here.0) h.7;
    }

pub at_value :
    (all : Pairs) (o : PerVersion (Option Item)) (f g : FieldsView) (s t u z : State) (m n : MapEntries) (l : Label) (e : CoseError) → (w : SoFar all o f s z m)
    → NextsLabel w.left t z n (Ok (Some l)) → g ≡ f
    → ReadsAt t u (λ v. UnlessMemory e (λ i. Refuses cose_labels (fields (optional any) (optional any)) (label_view l) v (parts_of (f, o)) i
    ⊎ excludes (label_view l) (parts_of (f, o)) i)) → AtFault all o g u z n e
at_value all o f g s t u z m n l e w h same refused =
    let here = refused h.1 h.3 h.6 in
    subst (λ x. AtFault all o x u z n e) (sym same) (record {
      key = h.0;
      value = h.1;
      others = h.2;
      walks = subst (WalksTo all f o) h.4 w.walks;
      within = subst (λ y. PairsWithin n h.2 y z) (sym here.0) h.7;
      faulty = λ i. fault (here.1 i);
    })
  where
    fault :
        Refuses cose_labels (fields (optional any) (optional any)) (label_view l) h.1 (parts_of (f, o)) e ⊎ excludes (label_view l) (parts_of (f, o)) e
        → RefusesKey cose_labels (fields (optional any) (optional any)) h.0 h.1 (parts_of (f, o)) e ⊎ ExcludesKey cose_labels excludes h.0 (parts_of (f, o)) e
    fault (inl r) = inl (inr (label_view l, h.5, r))
    fault (inr b) = inr (label_view l, h.5, b)

-- An error that is passed on.
pub stops :
    (all : Pairs) (o : PerVersion (Option Item)) (f : FieldsView) (t z : State) (n : MapEntries) (r : Result (Option CountersignatureVersion) CoseError)
    (e : CoseError)
    → IsErrAnd r (λ x. x ≡ e) → AtFault all o f t z n e → FillsSome all o z f t n r
stops all o f t z n (Ok b) e h a = absurd h
stops all o f t z n (Err x) e h a = subst (AtFault all o f t z n) (sym h) a

-- ---- repeated labels of the rest

walked : (all : Pairs) (o : PerVersion (Option Item)) (f : FieldsView) (t z : State) (m : MapEntries) (r : Result (Option CountersignatureVersion) CoseError)
    → FillsSome all o z f t m r → (left : Pairs) × WalksTo all f o left
walked all o f t z m (Ok (Some version)) s = (pair s.key s.value s.others, s.walks)
walked all o f t z m (Ok None) s = (no_pairs, s.walks)
walked all o f t z m (Err e) s = (pair s.key s.value s.others, s.walks)

-- The labels do not repeat.
pub distinct :
    (all : Pairs) (o : PerVersion (Option Item)) (f : FieldsView) (t z : State) (m : MapEntries) (r : Result (Option CountersignatureVersion) CoseError)
    → FillsSome all o z f t m r → IsDistinctRest f → FillsFields all o z f t m r
distinct all o f t z m (Ok (Some version)) s d = (s, d)
distinct all o f t z m (Ok None) s d = (s, d)
distinct all o f t z m (Err e) s d = (s.others, s.within, λ i. fault (s.faulty i))
  where
    fault :
        RefusesKey cose_labels (fields (optional any) (optional any)) s.key s.value (parts_of (f, o)) e
        ⊎ ExcludesKey cose_labels excludes s.key (parts_of (f, o)) e
        → VisitorFaults cose_labels (fields (optional any) (optional any)) excludes (dict all) e
    fault (inl g) = inl (refuses cose_labels cose_labels_laws (fields (optional any) (optional any)) partial_fields_laws (dict all) all
        (pair s.key s.value s.others) s.others s.key s.value (parts_of (f, o)) e refl s.walks refl g)
    fault (inr g) = inr (all, refl, record { key = s.key; value = s.value; left = s.others; before = parts_of (f, o); walked = s.walks; excluded = g })

-- The labels repeat, or an allocation failed in the check.
pub repeats :
    (all : Pairs) (o : PerVersion (Option Item)) (f : FieldsView) (s t z : State) (m : MapEntries) (r q : Result (Option CountersignatureVersion) CoseError)
    (e : CoseError)
    → FillsSome all o z f s m r
    → UnlessMemory e (λ i. (i ≡ DuplicateMapKey) × (are_distinct same_label (keys_of f.rest) ≡ false)) → ((left : Pairs) × PairsWithin m left t z)
    × IsErrAnd q (λ i. i ≡ e) → FillsFields all o z f t m q
repeats all o f s t z m r (Ok b) e w named p = absurd p.1
repeats all o f s t z m r (Err i) e w named p = (
  p.0.0,
  p.0.1,
  subst (λ x. UnlessMemory x (VisitorFaults cose_labels (fields (optional any) (optional any)) excludes (dict all))) (sym p.1)
      (λ n. fault (named n)),
)
  where
    fault : (e ≡ DuplicateMapKey) × (are_distinct same_label (keys_of f.rest) ≡ false)
        → VisitorFaults cose_labels (fields (optional any) (optional any)) excludes (dict all) e
    fault h =
        let k = walked all o f s z m r w in
        subst (VisitorFaults cose_labels (fields (optional any) (optional any)) excludes (dict all)) (sym h.0)
        (inl (stumbles cose_labels cose_labels_laws (fields (optional any) (optional any)) partial_fields_laws (dict all) all k.0 (parts_of (f, o)) refl k.1
        h.1))
