-- Reading headers and signatures forward, from the results for their parts.
use Rattle.std.proofs.Common.{◌≡◌, ℕ, Bool, List, [], ◌∷◌, map, true, false, true≢false, Option, Some, None, Result, Ok, Err, refl, sym, ap, subst, ◌∙◌, inl}
use Rattle.std.proofs.Common.{inr}
use Rattle.std.specs.Prelude.{IsErrAnd}
use Rattle.coset_value.specs.Item.{Item, bytes, array, dict, Items, no_items, item, Pairs, no_pairs, pair}
use Rattle.coset_value.specs.Parts.{as_array, as_bytes, as_map}
use Rattle.coset_codec.specs.declared.error.CoseError.{CoseError}
use Rattle.coset_codec.specs.declared.error.CoseError.TheVariants.{DuplicateMapKey, OutOfMemory}
use Rattle.coset_codec.specs.declared.read.decoder.ArrayElements.{ArrayElements}
use Rattle.coset_codec.specs.declared.read.decoder.MapEntries.{MapEntries}
use Rattle.coset_codec.specs.declared.error.ErrorStored.{ErrorStored}
use Rattle.coset_codec.specs.Errors.{UnlessMemory, IsUnexpected, stored}
use Rattle.coset_codec.specs.Inputs.{State, ItemAt, AreWithin, PairsWithin, EntersMap, Nexts, ReadsAt}
use Rattle.coset_codec.specs.Maps.{VisitorFaults, labelled, SomePair, and_pairs, optional, unless_empty, is_nonempty}
use Rattle.coset_codec.specs.Shape.{Shape, Each, any, bstr, any_number, one_or_more, one_or_many}
use Rattle.coset_codec.proofs.Walking.{sets_out, goes_on, arrives, refuses}
use Rattle.coset_codec.specs.InPlace.{Fills, FillsEach}
use Rattle.coset_codec.proofs.InPlace.{not_filled}
use Rattle.coset_label.specs.Labels.{label, cose_labels}
use Rattle.coset_label.specs.LabelLaws.{cose_labels_laws}
use Rattle.coset_core.specs.OneOrMore.{Begins}
use Rattle.coset_core.specs.FieldLabels as labels
use Rattle.coset_core.specs.Fields.{FieldsView, PerVersion, empty_fields, fields, parts_of, excludes, HasOneIv, partial_header, IsCountersignatureLabel}
use Rattle.coset_core.specs.Fields.{SomeCounterSignatures}
use Rattle.coset_core.specs.FieldLaws.{partial_fields_laws, join, barred_fault}
use Rattle.coset_core.specs.FieldViews.{signature_lists, fields_view, counter_signature_list, countersignature_v2_list}
use Rattle.coset_core.specs.Filling.{WalksTo, AtCounterSignatures, AtEnd, FillsFields, IsDistinctRest, Keeps, BeginsElements, EndsElements, FirstPlace}
use Rattle.coset_core.specs.Filling.{label_of, at_version, with_version, signature_views, signatures_of_version}
use Rattle.coset_core.specs.HeaderAgain.{array-is, bytes-is, never_none}
use Rattle.coset_core.specs.HeaderReads.{partial_header_fault, counter_signatures_fault}
use Rattle.coset_core.specs.Headers.{HeaderView, fields_in, counter_signatures_in, countersignatures_in, SignatureView, empty_header, layered_header}
use Rattle.coset_core.specs.Headers.{layered_protected, layered_signature, signatures_within}
use Rattle.coset_core.specs.ViewLaws.{header-opened}
use Rattle.coset_core.specs.Views.{countersignature_view, header_view, signature_view}
use Rattle.coset_core.specs.declared.header.Header.{Header}
use Rattle.coset_core.specs.declared.header.reading.CountersignatureVersion.{CountersignatureVersion}
use Rattle.coset_core.specs.declared.header.reading.CountersignatureVersion.TheVariants.{V1, V2}
use Rattle.coset_core.proofs.Putting.{none_held}
use Rattle.coset_core.proofs.Reading.{no_string, header_whole}

-- ---- a header's map

-- An item that is not a map.
no_map : (v : Item) (e : CoseError) → as_map v ≡ None → IsUnexpected e → partial_header.faults v e
unfolding partial_header
no_map v e m u = inl (inl (m, u))

pub not_entered :
    (k : ℕ) (v : Item) (h : HeaderView) (t z : State) (r : Result (Unit {0}) ErrorStored) (e : CoseError) (y : ErrorStored) → IsErrAnd r (λ f. f ≡ y)
    → EntersMap v t z (Err e) → (t ≡ z) × Fills (layered_header k) v h (stored e r)
not_entered k v h t z r e y is m = (m.0, not_filled (layered_header k) h v r e y is (λ _. partial_header_fault k v e (no_map v e m.1 m.2)))

-- An empty header, before any pair was read.
fields_opened : (h : Header) → header_view h ≡ empty_header → fields_view h ≡ empty_fields
fields_opened h e = sym (ap fields_in (header-opened h)) ∙ ap fields_in e

pub no_signatures_yet : (h : Header) → header_view h ≡ empty_header → signature_views h ≡ ([], [])
no_signatures_yet h e =
    let first = none_held signature_view (counter_signature_list h) (sym (ap counter_signatures_in (header-opened h)) ∙ ap counter_signatures_in e) in
    let second = none_held countersignature_view (countersignature_v2_list h) (sym (ap countersignatures_in (header-opened h)) ∙ ap countersignatures_in e) in
    λ i. (map signature_view (first i), map countersignature_view (second i))

pub one_iv_yet : (h : Header) → header_view h ≡ empty_header → HasOneIv (fields_view h)
one_iv_yet h e = inl (ap (λ f. f.iv) (fields_opened h e))

set_out : (h : Header) (all : Pairs) → header_view h ≡ empty_header → WalksTo all (fields_view h) (None, None) all
set_out h all e =
    subst (λ f. WalksTo all f (None, None) all) (sym (fields_opened h e))
    (sets_out cose_labels cose_labels_laws (fields (optional any) (optional any)) partial_fields_laws all (parts_of (empty_fields, (None, None)))
    (refl, (refl, (refl, (refl, (refl, (refl, (refl, (refl, (refl, tt))))))))) refl)

-- A fault of the pairs is a fault of the map.
gather_fault : (v : Item) (e : CoseError) → VisitorFaults cose_labels (fields (optional any) (optional any)) excludes v e → partial_header.faults v e
unfolding partial_header
gather_fault v e (inl g) = inl g
gather_fault v e (inr g) = barred_fault v e g

abbrev pub Passed : MapEntries → State → State → Type 0
Passed m t z = (left : Pairs) × PairsWithin m left t z

-- The state after some pairs: the fields that they make, and the counter signatures in the values of labels 7 and 11.
pub record HeaderSoFar (k : ℕ) (all : Pairs) (h : Header) (t z : State) (m : MapEntries) : Type 0 where
  pub values : PerVersion (Option Item)
  pub left : Pairs
  pub walks : WalksTo all (fields_view h) values left
  pub within : PairsWithin m left t z
  pub first : (unless_empty (signatures_within k)).describes values.0 (signature_views h).0
  pub second : (unless_empty (signatures_within k)).describes values.1 (signature_views h).1

-- The state before any pair.
pub so_far_none : (k : ℕ) (all : Pairs) (h : Header) (t z : State) (m : MapEntries) → header_view h ≡ empty_header → PairsWithin m all t z
    → HeaderSoFar k all h t z m
so_far_none k all h t z m e within = record {
  values = (None, None);
  left = all;
  walks = set_out h all e;
  within = within;
  first = ap (λ x. x.0) (no_signatures_yet h e);
  second = ap (λ x. x.1) (no_signatures_yet h e);
}

-- Reading the next pairs failed.
pub pairs_refused :
    (k : ℕ) (all : Pairs) (o : PerVersion (Option Item)) (z : State) (f : FieldsView) (t : State) (m : MapEntries) (h : HeaderView)
    (r : Result (Unit {0}) ErrorStored) (e : CoseError) (y : ErrorStored) → IsErrAnd r (λ i. i ≡ y)
    → FillsFields all o z f t m (Err e) → Passed m t z × Fills (layered_header k) (dict all) h (stored e r)
pairs_refused k all o z f t m h r e y is p = (
  (p.0, p.1),
  not_filled (layered_header k) h (dict all) r e y is (λ n. partial_header_fault k (dict all) e (gather_fault (dict all) e (p.2 n))),
)

-- All pairs were read.
unread_all : (all : Pairs) (o : PerVersion (Option Item)) (f : FieldsView) (t z : State) (m : MapEntries) → AtEnd all o f t z m → IsDistinctRest f → HasOneIv f
    → partial_header.describes (dict all) (f, o)
unfolding partial_header
unread_all all o f t z m p d one = (
  arrives cose_labels cose_labels_laws (fields (optional any) (optional any)) partial_fields_laws (dict all) all no_pairs
      (parts_of (f, o)) refl p.walks refl d,
  one,
)

pub ends :
    (k : ℕ) (all : Pairs) (z : State) (g h : Header) (s t : State) (m n : MapEntries) → (p : HeaderSoFar k all g s z m)
    → FillsFields all p.values z (fields_view h) t n (Ok None) → HasOneIv (fields_view h) → signature_lists h ≡ signature_lists g
    → Passed n t z × (layered_header k).describes (dict all) (header_view h)
ends k all z g h s t m n p q one same =
    let first = subst (λ xs. (unless_empty (signatures_within k)).describes p.values.0 (map signature_view xs)) (sym (ap (λ x. x.0) same)) p.first in
    let second = subst (λ xs. (unless_empty (signatures_within k)).describes p.values.1 (map countersignature_view xs)) (sym (ap (λ x. x.1) same)) p.second in (
      (no_pairs, q.0.within),
      header_whole k (dict all) (header_view h) (fields_view h) (signature_views h).0 (signature_views h).1
          (join (unless_empty (signatures_within k)) (unless_empty (signatures_within k)) (dict all) (fields_view h) p.values (signature_views h)
          (unread_all all p.values (fields_view h) t z n q.0 q.1 one) first second) (header-opened h),
    )

-- A pair is one of the pairs of the whole map.
some_there : (P : Item → Item → Type 0) (done others : Pairs) (k v : Item) → P k v → SomePair P (and_pairs done (pair k v others))
some_there P no_pairs others k v p = inl p
some_there P (pair j w done) others k v p = inr (some_there P done others k v p)

named : (version : CountersignatureVersion) (key : Item) → label.describes key (label_of version) → IsCountersignatureLabel key
named V1 key h = inl h
named V2 key h = inr h

held_there : (version : CountersignatureVersion) (all : Pairs) (o : PerVersion (Option Item)) (f : FieldsView) (t z : State) (m : MapEntries)
    → (s : AtCounterSignatures version all o f t z m)
    → SomeCounterSignatures (λ u. u ≡ s.value) (dict all)
held_there version all o f t z m s = (
  all,
  refl,
  subst (SomePair (λ j w. IsCountersignatureLabel j × (w ≡ s.value))) (sym s.walks.parts)
      (some_there (λ j w. IsCountersignatureLabel j × (w ≡ s.value)) s.walks.done s.others s.key s.value (named version s.key s.is_label, refl)),
)

-- The value of counter signatures was refused, or there was no memory to store the signatures.
pub counter_signatures_refused :
    (version : CountersignatureVersion) (k : ℕ) (all : Pairs) (o : PerVersion (Option Item)) (f : FieldsView) (t u z : State) (m : MapEntries)
    (xs : List SignatureView)
    (h : HeaderView) (r : Result (Unit {0}) ErrorStored) (e : CoseError) (y : ErrorStored)
    → IsErrAnd r (λ i. i ≡ y) → AtCounterSignatures version all o f t z m
    → ((w : Item) (x : State) → ItemAt w t x → (u ≡ x) × Fills (signatures_within k) w xs (Err e))
    → Passed m u z × Fills (layered_header k) (dict all) h (stored e r)
counter_signatures_refused version k all o f t u z m xs h r e y is s read =
    let here = read s.value s.mid s.stands in (
      (s.others, subst (λ x. PairsWithin m s.others x z) (sym here.0) s.within),
      not_filled (layered_header k) h (dict all) r e y is
          (λ n. counter_signatures_fault k (dict all) s.value e (held_there version all o f t z m s) (here.1 n)),
    )

pub not_kept :
    (version : CountersignatureVersion) (k : ℕ) (all : Pairs) (o : PerVersion (Option Item)) (f : FieldsView) (t u z : State) (m : MapEntries)
    (xs : List SignatureView)
    (h : HeaderView) (r : Result (Unit {0}) ErrorStored) (e : CoseError) (y : ErrorStored)
    → IsErrAnd r (λ i. i ≡ y) → AtCounterSignatures version all o f t z m
    → ((w : Item) (x : State) → ItemAt w t x → (u ≡ x) × (signatures_within k).describes w xs)
    → e ≡ OutOfMemory → Passed m u z × Fills (layered_header k) (dict all) h (stored e r)
not_kept version k all o f t u z m xs h r e y is s read memory =
    let here = read s.value s.mid s.stands in (
      (s.others, subst (λ x. PairsWithin m s.others x z) (sym here.0) s.within),
      not_filled (layered_header k) h (dict all) r e y is (λ n. absurd (n memory)),
    )

-- The value of counter signatures was read and stored.
taken :
    (version : CountersignatureVersion) (all : Pairs) (f : FieldsView) (o : PerVersion (Option Item)) (key value : Item) (others : Pairs)
    → WalksTo all f o (pair key value others) → label.describes key (label_of version) → at_version version o ≡ None
    → WalksTo all f (with_version version (Some value) o) others
taken V1 all f o key value others w h none =
    goes_on cose_labels cose_labels_laws (fields (optional any) (optional any)) partial_fields_laws all (pair key value others) others key value
    (parts_of (f, o))
    (parts_of (f, (Some value, o.1))) w refl
    (labels.counter_signature, h, ((refl, (refl, (refl, (refl, (refl, (refl, (none, refl, refl))))))), refl))
taken V2 all f o key value others w h none =
    goes_on cose_labels cose_labels_laws (fields (optional any) (optional any)) partial_fields_laws all (pair key value others) others key value
    (parts_of (f, o))
    (parts_of (f, (o.0, Some value))) w refl
    (labels.countersignature_v2, h, ((refl, (refl, (refl, (refl, (refl, (refl, (refl, (none, refl, refl)))))))), refl))

never_empty : (k : ℕ) (w : Item) → (signatures_within k).describes w [] → ⊥
never_empty k w d = go d.0 d.1 d.2
  where
    go : (vs : Items) → one_or_more w ≡ Some vs → Each (layered_signature k).describes vs [] → ⊥
    go no_items e each = never_none w e
    go (item v vs) e each = each

-- If the header has no signatures of a version yet, no value of its label was read.
no_value : (k : ℕ) (o : Option Item) (xs : List SignatureView) → (unless_empty (signatures_within k)).describes o xs → is_nonempty xs ≡ false → o ≡ None
no_value k None xs d e = refl
no_value k (Some w) [] d e = absurd (never_empty k w d)
no_value k (Some w) (x ∷ xs) d e = absurd (true≢false e)

pub so_far_more :
    (version : CountersignatureVersion) (k : ℕ) (all : Pairs) (g h i : Header) (s t u z : State) (m n : MapEntries) (xs : List SignatureView)
    → (p : HeaderSoFar k all g s z m)
    → AtCounterSignatures version all p.values (fields_view h) t z n → signature_lists h ≡ signature_lists g
    → is_nonempty (signatures_of_version version h) ≡ false → ((w : Item) (y : State) → ItemAt w t y → (u ≡ y) × (signatures_within k).describes w xs)
    → Keeps version xs h i
    → HeaderSoFar k all i u z n
so_far_more V1 k all g h i s t u z m n xs p at same empty read kept =
    let here = read at.value at.mid at.stands in
    let first = subst (λ ys. (unless_empty (signatures_within k)).describes p.values.0 (map signature_view ys)) (sym (ap (λ x. x.0) same)) p.first in
    let second = subst (λ ys. (unless_empty (signatures_within k)).describes p.values.1 (map countersignature_view ys)) (sym (ap (λ x. x.1) same)) p.second in
    record {
      values = (Some at.value, p.values.1);
      left = at.others;
      walks = subst (λ f. WalksTo all f (Some at.value, p.values.1) at.others) (sym kept.fields)
          (taken V1 all (fields_view h) p.values at.key at.value at.others at.walks at.is_label (no_value k p.values.0 (signature_views h).0 first empty));
      within = subst (λ y. PairsWithin n at.others y z) (sym here.0) at.within;
      first = subst (λ x. (unless_empty (signatures_within k)).describes (Some at.value) x.0) (sym kept.signatures) here.1;
      second = subst (λ x. (unless_empty (signatures_within k)).describes p.values.1 x.1) (sym kept.signatures) second;
    }
so_far_more V2 k all g h i s t u z m n xs p at same empty read kept =
    let here = read at.value at.mid at.stands in
    let first = subst (λ ys. (unless_empty (signatures_within k)).describes p.values.0 (map signature_view ys)) (sym (ap (λ x. x.0) same)) p.first in
    let second = subst (λ ys. (unless_empty (signatures_within k)).describes p.values.1 (map countersignature_view ys)) (sym (ap (λ x. x.1) same)) p.second in
    record {
      values = (p.values.0, Some at.value);
      left = at.others;
      walks = subst (λ f. WalksTo all f (p.values.0, Some at.value) at.others) (sym kept.fields)
          (taken V2 all (fields_view h) p.values at.key at.value at.others at.walks at.is_label (no_value k p.values.1 (signature_views h).1 second empty));
      within = subst (λ y. PairsWithin n at.others y z) (sym here.0) at.within;
      first = subst (λ x. (unless_empty (signatures_within k)).describes p.values.0 x.0) (sym kept.signatures) first;
      second = subst (λ x. (unless_empty (signatures_within k)).describes (Some at.value) x.1) (sym kept.signatures) here.1;
    }

-- If the header has signatures of a version already, a value of its label was read.
some_value : (k : ℕ) (o : Option Item) (xs : List SignatureView) → (unless_empty (signatures_within k)).describes o xs → is_nonempty xs ≡ true → o ≡ None → ⊥
some_value k None xs d e none = absurd (true≢false (sym e ∙ ap is_nonempty d))
some_value k (Some w) xs d e none = absurd (cc)

repeated : (version : CountersignatureVersion) (all : Pairs) (f : FieldsView) (o : PerVersion (Option Item)) (key value : Item) (others : Pairs)
    → WalksTo all f o (pair key value others) → label.describes key (label_of version) → (at_version version o ≡ None → ⊥)
    → (labelled cose_labels (fields (optional any) (optional any))).faults (dict all) DuplicateMapKey
repeated V1 all f o key value others w h some =
    refuses cose_labels cose_labels_laws (fields (optional any) (optional any)) partial_fields_laws (dict all) all (pair key value others) others key value
    (parts_of (f, o)) DuplicateMapKey refl w refl (inr (labels.counter_signature, h, inl (some, refl)))
repeated V2 all f o key value others w h some =
    refuses cose_labels cose_labels_laws (fields (optional any) (optional any)) partial_fields_laws (dict all) all (pair key value others) others key value
    (parts_of (f, o)) DuplicateMapKey refl w refl (inr (labels.countersignature_v2, h, inl (some, refl)))

pub second_refused :
    (version : CountersignatureVersion) (k : ℕ) (all : Pairs) (g h : Header) (s t u z : State) (m n : MapEntries) (x : HeaderView)
    (r : Result (Unit {0}) CoseError)
    → (p : HeaderSoFar k all g s z m) → AtCounterSignatures version all p.values (fields_view h) t z n → signature_lists h ≡ signature_lists g
    → is_nonempty (signatures_of_version version h) ≡ true → ((w : Item) (y : State) → ItemAt w t y → (u ≡ y) × (r ≡ Err DuplicateMapKey)) → Passed n u z
    × Fills (layered_header k) (dict all) x r
second_refused version k all g h s t u z m n x r p at same filled read =
    let here = read at.value at.mid at.stands in (
      (at.others, subst (λ y. PairsWithin n at.others y z) (sym here.0) at.within),
      subst (Fills (layered_header k) (dict all) x) (sym here.1)
          (λ _. partial_header_fault k (dict all) DuplicateMapKey
          (gather_fault (dict all) DuplicateMapKey
          (inl (repeated version all (fields_view h) p.values at.key at.value at.others at.walks at.is_label (there version filled))))),
    )
  where
    there : (version : CountersignatureVersion) → is_nonempty (signatures_of_version version h) ≡ true → at_version version p.values ≡ None → ⊥
    there V1 filled = some_value k p.values.0 (signature_views h).0
        (subst (λ ys. (unless_empty (signatures_within k)).describes p.values.0 (map signature_view ys)) (sym (ap (λ x. x.0) same)) p.first) filled
    there V2 filled = some_value k p.values.1 (signature_views h).1
        (subst (λ ys. (unless_empty (signatures_within k)).describes p.values.1 (map countersignature_view ys)) (sym (ap (λ x. x.1) same)) p.second) filled

-- ---- one signature or several

ones_of : {A : Type 0} (s : Shape A) (v : Item) (vs : Items) (xs : List A) (r : Result (Unit {0}) CoseError) → one_or_more v ≡ Some vs → FillsEach s vs xs r
    → Fills (one_or_many (any_number s)) v xs r
ones_of s v vs xs (Ok u) e p = (vs, e, p)
ones_of s v vs xs (Err i) e p = λ n. inr (vs, e, inr (λ m. m, p n))

begins_one : (vs : Items) → Begins vs true → one_or_more (array vs) ≡ Some (item (array vs) no_items)
begins_one no_items b = absurd b
begins_one (item (bytes s) vs) b = refl
begins_one (item _ vs) b = absurd (cc)

begins_more : (vs : Items) → Begins vs false → one_or_more (array vs) ≡ Some vs
begins_more no_items b = absurd b
begins_more (item (array ws) vs) b = refl
begins_more (item _ vs) b = absurd (cc)

pub one_filled :
    {A : Type 0} (s : Shape A) (v : Item) (vs : Items) (xs : List A) (r : Result (Unit {0}) CoseError) → as_array v ≡ Some vs → Begins vs true
    → FillsEach s (item (array vs) no_items) xs r
    → Fills (one_or_many (any_number s)) v xs r
one_filled s v vs xs r e b p = ones_of s v (item (array vs) no_items) xs r (ap one_or_more (array-is v vs e) ∙ begins_one vs b) p

pub more_filled :
    {A : Type 0} (s : Shape A) (v : Item) (vs : Items) (xs : List A) (r : Result (Unit {0}) CoseError) → as_array v ≡ Some vs → Begins vs false
    → FillsEach s vs xs r → Fills (one_or_many (any_number s)) v xs r
more_filled s v vs xs r e b p = ones_of s v vs xs r (ap one_or_more (array-is v vs e) ∙ begins_more vs b) p

-- ---- a signature's elements

pub elements_refused :
    (k : ℕ) (vs : Items) (t z : State) (m : ArrayElements) (o : Option (List ℕ)) (f : CoseError) (x : SignatureView) (r : Result (Unit {0}) ErrorStored)
    (e : CoseError) (y : ErrorStored) → IsErrAnd r (λ i. i ≡ y) → BeginsElements vs t z m o f (Err e)
    → ((left : Items) × AreWithin m left t z) × Fills (layered_signature k) (array vs) x (stored e r)
elements_refused k vs t z m o f x r e y is b = ((b.0, b.1), not_filled (layered_signature k) x (array vs) r e y is (b.2 k))

-- The first element was read, and is not a byte string.
pub first_refused :
    (vs : Items) (s t x z : State) (m n : ArrayElements) (e : CoseError) → Nexts vs s z m true → ReadsAt s t (λ v. UnlessMemory e (bstr.faults v))
    → ((us : Items) → AreWithin m us t z → Nexts us x z n true)
    → (w : Item) × (u : Item) × (others : Items) × (mid : State) × (vs ≡ item w (item u others)) × ItemAt u x mid × AreWithin n others mid z
    × ((k : ℕ) → UnlessMemory e ((layered_protected k).faults w))
first_refused vs s t x z m n e p read next =
    let here = read p.0 p.2 p.4 in
    let b = next p.1 (subst (λ y. AreWithin m p.1 y z) (sym here.0) p.5) in
    (p.0, b.0, b.1, b.2, p.3 ∙ ap (item p.0) b.3, b.4, b.5, λ k i. no_string k p.0 e (here.1 i))

-- The second element was read, with any result.
pub record Second (vs : Items) (o : Option (List ℕ)) (f : CoseError) (b : Bool) (u z : State) (m : ArrayElements) (P : Item → Type 0) : Type 0 where
  pub first : Item
  pub second : Item
  pub others : Items
  pub is : vs ≡ item first (item second others)
  pub within : AreWithin m others u z
  pub kept : FirstPlace first o f b
  pub holds : P second

pub second_read :
    (vs : Items) (t u z : State) (m : ArrayElements) (o : Option (List ℕ)) (f : CoseError) (b : Bool) (P : Item → Type 0) → BeginsElements vs t z m o f (Ok b)
    → ((v : Item) (y : State) → ItemAt v t y → (u ≡ y) × P v)
    → Second vs o f b u z m P
second_read vs t u z m o f b P q read =
    let here = read q.1 q.3 q.5 in
    record { first = q.0; second = q.1; others = q.2; is = q.4; within = subst (λ y. AreWithin m q.2 y z) (sym here.0) q.6; kept = q.7; holds = here.1 }

-- The third element is the last, and is not a byte string.
pub third_refused :
    (vs : Items) (s t x z : State) (m n : ArrayElements) (b : List ℕ) (r : Result (Unit {0}) ErrorStored) (e : CoseError) (y : ErrorStored)
    → IsErrAnd r (λ i. i ≡ y)
    → Nexts vs s z m true → ReadsAt s t (λ v. UnlessMemory e (bstr.faults v))
    → ((us : Items) → AreWithin m us t z → Nexts us x z n false) → EndsElements vs x z n b (stored e r)
third_refused vs s t x z m n b (Ok u) e y is p read none = absurd is
third_refused vs s t x z m n b (Err f) e y is p read none =
    let here = read p.0 p.2 p.4 in
    let end = none p.1 (subst (λ y. AreWithin m p.1 y z) (sym here.0) p.5) in (
      no_items,
      end.1,
      λ q u k.
          subst (λ ws. UnlessMemory e ((layered_signature k).faults (array (item q (item u ws))))) (sym (p.3 ∙ ap (item p.0) end.0))
          (λ n. inr (item q (item u (item p.0 no_items)), refl, inr (λ x. x tt, inr (inr (inl (here.1 n)))))),
    )

pub last_refused :
    (k : ℕ) (vs : Items) (u w z : State) (m n : ArrayElements) (o : Option (List ℕ)) (f : CoseError) (i : Bool) (P : Item → Type 0) (b : List ℕ)
    (x : SignatureView) (r : Result (Unit {0}) ErrorStored) (e : CoseError) (y : ErrorStored)
    → IsErrAnd r (λ j. j ≡ y) → (s : Second vs o f i u z m P) → EndsElements s.others w z n b (Err e) → ((left : Items) × AreWithin n left w z)
    × Fills (layered_signature k) (array vs) x (stored e r)
last_refused k vs u w z m n o f i P b x r e y is s p = (
  (p.0, p.1),
  not_filled (layered_signature k) x (array vs) r e y is
      (subst (λ ws. UnlessMemory e ((layered_signature k).faults (array ws))) (sym s.is) (p.2 s.first s.second k)),
)

-- The array is the first two elements and a last one, which is a byte string.
all_elements : (vs : Items) (o : Option (List ℕ)) (f : CoseError) (i : Bool) (u w z : State) (m n : ArrayElements) (P : Item → Type 0) (b : List ℕ)
    → (s : Second vs o f i u z m P) → (p : EndsElements s.others w z n b (Ok tt))
    → vs ≡ item s.first (item s.second (item p.0 no_items))
all_elements vs o f i u w z m n P b s p = s.is ∙ ap (λ ws. item s.first (item s.second ws)) p.1

-- The second element was refused.
pub unprotected_refused :
    (k : ℕ) (vs : Items) (u w z : State) (m n : ArrayElements) (o : Option (List ℕ)) (f : CoseError) (i : Bool) (b : List ℕ) (x : SignatureView)
    (r : Result (Unit {0}) ErrorStored) (e g : CoseError) (y : ErrorStored)
    → IsErrAnd r (λ j. j ≡ y) → g ≡ e → (s : Second vs o f i u z m (λ v. UnlessMemory e ((layered_header k).faults v))) → EndsElements s.others w z n b (Ok tt)
    → ((left : Items) × AreWithin n left w z) × Fills (layered_signature k) (array vs) x (stored g r)
unprotected_refused k vs u w z m n o f i b x r e g y is same s p =
    let all = all_elements vs o f i u w z m n (λ v. UnlessMemory e ((layered_header k).faults v)) b s p in (
      (no_items, p.3),
      not_filled (layered_signature k) x (array vs) r g y is
          (subst (λ h. UnlessMemory h ((layered_signature k).faults (array vs))) (sym same)
          (subst (λ ws. UnlessMemory e ((layered_signature k).faults (array ws))) (sym all)
          (λ h. inr (item s.first (item s.second (item p.0 no_items)), refl, inr (λ j. j tt, inr (inl (s.holds h))))))),
    )

-- The first element is not a byte string.
pub protected_refused :
    (k : ℕ) (vs : Items) (u w z : State) (m n : ArrayElements) (o : Option (List ℕ)) (f : CoseError) (P : Item → Type 0) (b : List ℕ) (x : SignatureView)
    → (s : Second vs o f false u z m P)
    → EndsElements s.others w z n b (Ok tt) → ((left : Items) × AreWithin n left w z) × Fills (layered_signature k) (array vs) x (Err f)
protected_refused k vs u w z m n o f P b x s p = (
  (no_items, p.3),
  subst (λ ws. UnlessMemory f ((layered_signature k).faults (array ws))) (sym (all_elements vs o f false u w z m n P b s p))
      (λ h. inr (item s.first (item s.second (item p.0 no_items)), refl, inr (λ j. j tt, inl (s.kept k h)))),
)

signature_filled :
    (k : ℕ) (a b c : Item) (x : SignatureView) (r : Result (Unit {0}) CoseError) → (layered_header k).describes b x.unprotected → as_bytes c ≡ Some x.signature
    → Fills (layered_protected k) a x.protected r
    → Fills (layered_signature k) (array (item a (item b (item c no_items)))) x r
signature_filled k a b c x (Ok u) h s p = (item a (item b (item c no_items)), refl, (p, (h, (s, tt))))
signature_filled k a b c x (Err e) h s p = λ n. inr (item a (item b (item c no_items)), refl, inr (λ m. m tt, inl (p n)))

pub elements_filled :
    (k : ℕ) (vs : Items) (u w z : State) (m n : ArrayElements) (o : Option (List ℕ)) (f : CoseError) (x : SignatureView) (r : Result (Unit {0}) CoseError)
    → (s : Second vs o f true u z m (λ v. (layered_header k).describes v x.unprotected)) → EndsElements s.others w z n x.signature (Ok tt)
    → ((b : List ℕ) → o ≡ Some b → Fills (layered_protected k) (bytes b) x.protected r) → ((left : Items) × AreWithin n left w z)
    × Fills (layered_signature k) (array vs) x r
elements_filled k vs u w z m n o f x r s p q =
    let first = subst (λ v. Fills (layered_protected k) v x.protected r) (sym (bytes-is s.first s.kept.0 s.kept.1)) (q s.kept.0 s.kept.2) in
    let all = all_elements vs o f true u w z m n (λ v. (layered_header k).describes v x.unprotected) x.signature s p in (
      (no_items, p.3),
      subst (λ ws. Fills (layered_signature k) (array ws) x r) (sym all) (signature_filled k s.first s.second p.0 x r s.holds p.2 first),
    )
