-- The laws of a header's fields, and of maps of these fields.
use Rattle.std.proofs.Common.{◌≡◌, ℕ, List, [], ◌∷◌, Option, Some, None, true, inl, inr, ◌⊎◌, refl, ap, sym, ◌∙◌, subst, rules}
use Rattle.std.specs.Prelude.{ℤ}
use Rattle.std.specs.List.{IsDistinct}
use Rattle.std.specs.Map.{keys_of, lookup}
use Rattle.coset_value.specs.Item.{Item, integer, Pairs, no_pairs, pair}
use Rattle.coset_value.specs.Parts.{as_map}
use Rattle.coset_codec.specs.Errors.{IsUnexpected}
use Rattle.coset_codec.specs.Shape.{any, bstr, nonempty_bstr, some_of}
use Rattle.coset_codec.specs.ShapeLaws.{Lawful, Again, some-one, mapped_laws, such_that_laws, any_laws, bstr_laws, nonempty_bstr_laws, some_of_laws}
use Rattle.coset_codec.specs.Maps.{FieldShape, optional, unless_empty, AreLabelled, HasLabel, SomePair, SoFar, IsExcluded, and_pairs}
use Rattle.coset_codec.specs.declared.error.CoseError.{CoseError}
use Rattle.coset_codec.specs.MapLaws.{LawfulFieldShape, LawfulFields, Flat, field_laws}
use Rattle.coset_codec.specs.MapLaws.{no_field_laws, optional_laws, unless_empty_laws, labelled_laws}
use Rattle.coset_codec.specs.MapLaws.{new_of, not_new, has_label, lookup_none, lookup_later}
use Rattle.coset_label.specs.LabelData.{LabelView, number, RegisteredLabelView, same_label}
use Rattle.coset_label.specs.Labels.{label, algorithm, cose_labels}
use Rattle.coset_label.specs.LabelLaws.{label_laws, cose_labels_laws, algorithm_laws, registered_laws, registered_or_private_laws}
use Rattle.coset_core.specs.FieldLabels as labels
use Rattle.coset_core.specs.Fields.{FieldsView, critical, content_type, IsContentType, PerVersion, FieldTuple, fields, fields_of}
use Rattle.coset_core.specs.Fields.{parts_of, HasOneIv, HasBothIvs, map_of, map_with, partial_header, IsCountersignatureLabel, SomeCounterSignatures, excludes}

-- ---- the fields' values

pub critical_laws : Lawful RegisteredLabelView critical
unfolding critical
critical_laws = registered_or_private_laws _ _

pub criticals_laws : Lawful (List RegisteredLabelView) (some_of critical)
criticals_laws = some_of_laws critical critical_laws

pub content_type_laws : Lawful LabelView content_type
unfolding content_type
content_type_laws = such_that_laws IsUnexpected IsContentType _ (registered_laws _)

-- ---- the fields

flat_number : (i : ℤ) → label.describes (integer i) (number i) → Flat LabelView cose_labels (number i)
flat_number i d = record { key = integer i; is_image = refl; described = d; is_flat = refl }

filled_laws : LawfulFieldShape (List ℕ) (unless_empty nonempty_bstr)
filled_laws = unless_empty_laws nonempty_bstr (λ v p. p.1 refl) nonempty_bstr_laws

pub fields_laws : {C : Type 0} (c d : FieldShape C) → LawfulFieldShape C c → LawfulFieldShape C d
    → LawfulFields LabelView (FieldTuple C) cose_labels (fields c d)
fields_laws c d l m =
    field_laws cose_labels cose_labels_laws labels.alg (flat_number _ (refl, (refl, search rules))) _ (optional_laws algorithm algorithm_laws) _
    (field_laws cose_labels cose_labels_laws labels.crit (flat_number _ (refl, (refl, search rules))) _
    (unless_empty_laws (some_of critical) (λ v p. p.1 refl) criticals_laws) _
    (field_laws cose_labels cose_labels_laws labels.content_type (flat_number _ (refl, (refl, search rules))) _ (optional_laws content_type content_type_laws) _
    (field_laws cose_labels cose_labels_laws labels.kid (flat_number _ (refl, (refl, search rules))) _ filled_laws _
    (field_laws cose_labels cose_labels_laws labels.iv (flat_number _ (refl, (refl, search rules))) _ filled_laws _
    (field_laws cose_labels cose_labels_laws labels.partial_iv (flat_number _ (refl, (refl, search rules))) _ filled_laws _
    (field_laws cose_labels cose_labels_laws labels.counter_signature (flat_number _ (refl, (refl, search rules))) c l _
    (field_laws cose_labels cose_labels_laws labels.countersignature_v2 (flat_number _ (refl, (refl, search rules))) d m _
    (field_laws cose_labels cose_labels_laws labels.countersignature0_v2 (flat_number _ (refl, (refl, search rules))) _ (optional_laws bstr bstr_laws) _
    (no_field_laws cose_labels cose_labels_laws) refl)
    refl) refl) refl) refl) refl) refl) refl) refl

-- ---- maps of the fields

map_of_laws : {C : Type 0} (c d : FieldShape C) → LawfulFieldShape C c → LawfulFieldShape C d → Lawful (FieldsView × PerVersion C) (map_of c d)
map_of_laws c d l m = mapped_laws fields_of parts_of (λ x. refl) _ (labelled_laws cose_labels cose_labels_laws true (fields c d) (fields_laws c d l m))

-- If a pair has the label of IV or Partial IV, that field is not empty.
iv_there : (l : LabelView) (ps : Pairs) (es : List (LabelView × Item)) (iv : List ℕ) → AreLabelled label.describes ps es → HasLabel label.describes l ps
    → (unless_empty nonempty_bstr).describes (lookup (same_label l) es) iv → iv ≡ [] → ⊥
iv_there l ps es iv n h d none = go (lookup (same_label l) es) refl d
  where
    go : (o : Option Item) → lookup (same_label l) es ≡ o → (unless_empty nonempty_bstr).describes o iv → ⊥
    go (Some w) e p = p.1 none
    go None e p = not_new cose_labels cose_labels_laws ps es l n h (new_of cose_labels l es e)

-- A map with both IV and Partial IV describes no header with at most one of them.
not_both : {C : Type 0} (c d : FieldShape C) (v : Item) (x : FieldsView × PerVersion C) → (map_of c d).describes v x → HasOneIv x.0 → HasBothIvs v → ⊥
not_both c d v x p one both =
    let ps = p.0 in
    let m = p.2 in
    let same : both.0 ≡ ps = some-one both.1 p.1 in
    elim one [
      | inl h ↦ iv_there labels.iv ps m.entries x.0.iv m.named (subst (HasLabel label.describes labels.iv) same both.2) m.fields.1.1.1.1.0 h
      | inr h ↦ iv_there labels.partial_iv ps m.entries x.0.partial_iv m.named
          (subst (HasLabel label.describes labels.partial_iv) same both.3) m.fields.1.1.1.1.1.0 h
    ]

pub map_with_laws : {C : Type 0} (c d : FieldShape C) → LawfulFieldShape C c → LawfulFieldShape C d → Lawful (FieldsView × PerVersion C) (map_with c d)
map_with_laws {C} c d l k =
    let m = map_of_laws c d l k in
    record {
      unique = λ v x y p q. m.unique v x y p.0 q.0;
      again = λ v x p.
          let a : Again (FieldsView × PerVersion C) (map_of c d) v x = m.again v x p.0 in
          record { image = a.image; is_image = a.is_image; described = (a.described, p.1); shallow = a.shallow };
      sound = λ v x e p f. elim f [ inl g ↦ m.sound v x e p.0 g | inr g ↦ not_both c d v x p.0 p.1 g.0 ];
    }

-- The laws of maps whose values of labels 7 and 11 are not decoded.
pub partial_fields_laws : LawfulFields LabelView (FieldTuple (Option Item)) cose_labels (fields (optional any) (optional any))
partial_fields_laws = fields_laws (optional any) (optional any) (optional_laws any any_laws) (optional_laws any any_laws)

pub partial_header_laws : Lawful (FieldsView × PerVersion (Option Item)) partial_header
unfolding partial_header
partial_header_laws = map_with_laws (optional any) (optional any) (optional_laws any any_laws) (optional_laws any any_laws)

-- ---- the values of labels 7 and 11, decoded later

-- A value that is not decoded describes itself.
as_it_is : (o : Option Item) → (optional any).describes o o
as_it_is (Some v) = refl
as_it_is None = refl

is_itself : (o p : Option Item) → (optional any).describes o p → o ≡ p
is_itself (Some v) (Some w) h = ap Some h
is_itself (Some v) None h = absurd h
is_itself None p h = sym h

-- A map describes a header exactly when two conditions hold. The map with undecoded values of labels 7 and 11 describes
-- the header, and c and d describe these values.
pub split :
    {C : Type 0} (c d : FieldShape C) (v : Item) (f : FieldsView) (x : PerVersion C) → (map_with c d).describes v (f, x)
    → (o : PerVersion (Option Item)) × partial_header.describes v (f, o) × c.describes o.0 x.0 × d.describes o.1 x.1
unfolding partial_header
split c d v f x p =
    let m = p.0.2 in
    let fs = m.fields in
    let o : Option Item = lookup (cose_labels.same labels.counter_signature) m.entries in
    let q : Option Item = lookup (cose_labels.same labels.countersignature_v2) m.entries in (
      (o, q),
      (
        (
          p.0.0,
          p.0.1,
          record {
            entries = m.entries;
            named = m.named;
            distinct = m.distinct;
            fields = (fs.0, (fs.1.0, (fs.1.1.0, (fs.1.1.1.0, (fs.1.1.1.1.0, (fs.1.1.1.1.1.0, (as_it_is o, (as_it_is q, (fs.1.1.1.1.1.1.1.1.0, tt)))))))));
            rest = m.rest;
          },
        ),
        p.1,
      ),
      fs.1.1.1.1.1.1.0,
      fs.1.1.1.1.1.1.1.0,
    )

pub join :
    {C : Type 0} (c d : FieldShape C) (v : Item) (f : FieldsView) (o : PerVersion (Option Item)) (x : PerVersion C) → partial_header.describes v (f, o)
    → c.describes o.0 x.0 → d.describes o.1 x.1
    → (map_with c d).describes v (f, x)
unfolding partial_header
join c d v f o x p q r =
    let m = p.0.2 in
    let fs = m.fields in
    let first : lookup (cose_labels.same labels.counter_signature) m.entries ≡ o.0 = is_itself _ o.0 fs.1.1.1.1.1.1.0 in
    let second : lookup (cose_labels.same labels.countersignature_v2) m.entries ≡ o.1 = is_itself _ o.1 fs.1.1.1.1.1.1.1.0 in (
      (
        p.0.0,
        p.0.1,
        record {
          entries = m.entries;
          named = m.named;
          distinct = m.distinct;
          fields = (
            fs.0,
            (
              fs.1.0,
              (
                fs.1.1.0,
                (
                  fs.1.1.1.0,
                  (
                    fs.1.1.1.1.0,
                    (
                      fs.1.1.1.1.1.0,
                      (subst (λ y. c.describes y x.0) (sym first) q, (subst (λ y. d.describes y x.1) (sym second) r, (fs.1.1.1.1.1.1.1.1.0, tt))),
                    ),
                  ),
                ),
              ),
            ),
          );
          rest = m.rest;
        },
      ),
      p.1,
    )

-- The images of both maps are equal, if the undecoded values are the images by c and d.
pub image_with :
    {C : Type 0} (c d : FieldShape C) (f : FieldsView) (x : PerVersion C) (o p : Option Item) → c.image x.0 ≡ Some o → d.image x.1 ≡ Some p
    → partial_header.image (f, (o, p)) ≡ (map_with c d).image (f, x)
unfolding partial_header
image_with c d f x (Some v) (Some w) h k = rw (h, k) refl
image_with c d f x (Some v) None h k = rw (h, k) refl
image_with c d f x None (Some w) h k = rw (h, k) refl
image_with c d f x None None h k = rw (h, k) refl

-- If no label repeats, `lookup` finds the value of the pair with the label l.
pair_found :
    (P : Item → Type 0) (l : LabelView) (ps : Pairs) (es : List (LabelView × Item)) → AreLabelled label.describes ps es → IsDistinct same_label (keys_of es)
    → SomePair (λ k u. label.describes k l × P u) ps
    → (w : Item) × (lookup (same_label l) es ≡ Some w) × P w
unfolding IsDistinct
pair_found P l no_pairs es p d f = absurd f
pair_found P l (pair k v ps) [] p d f = absurd p
pair_found P l (pair k v ps) (e ∷ es) p d (inl f) =
    let q : same_label l e.0 ≡ true = subst (λ m. same_label m e.0 ≡ true) (label_laws.unique k e.0 l p.0 f.0) (cose_labels_laws.same_self e.0) in
    (e.1, rw q refl, subst P p.1 f.1)
pair_found P l (pair k v ps) (e ∷ es) p d (inr f) = let g = pair_found P l ps es p.2 d.1 f
    in (g.0, lookup_later cose_labels cose_labels_laws e es l g.0 d.0 g.1, g.2)

-- Counter signatures are the value of label 7 or of label 11.
some_of_two : (P : Item → Type 0) (ps : Pairs) → SomePair (λ k w. IsCountersignatureLabel k × P w) ps
    → SomePair (λ k w. label.describes k labels.counter_signature × P w) ps ⊎ SomePair (λ k w. label.describes k labels.countersignature_v2 × P w) ps
some_of_two P no_pairs f = absurd f
some_of_two P (pair k v ps) (inl f) = elim f.0 [ inl h ↦ inl (inl (h, f.1)) | inr h ↦ inr (inl (h, f.1)) ]
some_of_two P (pair k v ps) (inr f) = elim (some_of_two P ps f) [ inl g ↦ inl (inr g) | inr g ↦ inr (inr g) ]

pub counter_signatures_found :
    (P : Item → Type 0) (v : Item) (f : FieldsView) (o : PerVersion (Option Item)) → partial_header.describes v (f, o) → SomeCounterSignatures P v
    → (w : Item) × ((o.0 ≡ Some w) ⊎ (o.1 ≡ Some w)) × P w
unfolding partial_header
counter_signatures_found P v f o p s =
    let m = p.0.2 in
    let first : lookup (same_label labels.counter_signature) m.entries ≡ o.0 = is_itself _ o.0 m.fields.1.1.1.1.1.1.0 in
    let second : lookup (same_label labels.countersignature_v2) m.entries ≡ o.1 = is_itself _ o.1 m.fields.1.1.1.1.1.1.1.0 in
    let two = some_of_two P p.0.0 (subst (SomePair (λ k u. IsCountersignatureLabel k × P u)) (some-one s.1 p.0.1) s.2) in
    elim two [
      | inl h ↦ let g = pair_found P labels.counter_signature p.0.0 m.entries m.named m.distinct h in (g.0, inl (sym first ∙ g.1), g.2)
      | inr h ↦ let g = pair_found P labels.countersignature_v2 p.0.0 m.entries m.named m.distinct h in (g.0, inr (sym second ∙ g.1), g.2)
    ]

-- A label in one of two lists of pairs is in both lists together.
label_before : (l : LabelView) (ps qs : Pairs) → HasLabel label.describes l ps → HasLabel label.describes l (and_pairs ps qs)
label_before l no_pairs qs f = absurd f
label_before l (pair k v ps) qs (inl f) = inl f
label_before l (pair k v ps) qs (inr f) = inr (label_before l ps qs f)

label_after : (l : LabelView) (ps qs : Pairs) → HasLabel label.describes l qs → HasLabel label.describes l (and_pairs ps qs)
label_after l no_pairs qs f = f
label_after l (pair k v ps) qs f = inr (label_after l ps qs f)

-- If IV or Partial IV is not empty after some pairs, one of these pairs has its label.
iv_before : (l : LabelView) (ps : Pairs) (es : List (LabelView × Item)) (iv : List ℕ) → AreLabelled label.describes ps es
    → (unless_empty nonempty_bstr).describes (lookup (same_label l) es) iv → (iv ≡ [] → ⊥) → HasLabel label.describes l ps
iv_before l ps es iv n d some = has_label cose_labels cose_labels_laws ps es l n
    (λ a. some (subst (λ o. (unless_empty nonempty_bstr).describes o iv) (lookup_none cose_labels l es a) d))

-- A label that an earlier label excludes is a fault of the map.
pub barred_fault : (v : Item) (e : CoseError) → (ps : Pairs) × (as_map v ≡ Some ps)
    × IsExcluded LabelView (FieldTuple (Option Item)) cose_labels (fields (optional any) (optional any)) excludes ps e → partial_header.faults v e
unfolding partial_header
barred_fault v e f = go f.2.excluded.2
  where
    b : IsExcluded LabelView (FieldTuple (Option Item)) cose_labels (fields (optional any) (optional any)) excludes f.0 e
    b = f.2

    s : SoFar LabelView (FieldTuple (Option Item)) cose_labels (fields (optional any) (optional any)) b.walked.done b.before
    s = b.walked.so_far

    earlier : (l : LabelView) → HasLabel label.describes l b.walked.done → HasLabel label.describes l f.0
    earlier l h = subst (HasLabel label.describes l) (sym b.walked.parts) (label_before l b.walked.done (pair b.key b.value b.left) h)

    this : (l : LabelView) → same_label l b.excluded.0 ≡ true → HasLabel label.describes l f.0
    this l h =
        subst (HasLabel label.describes l) (sym b.walked.parts)
        (label_after l b.walked.done (pair b.key b.value b.left)
        (inl (subst (label.describes b.key) (sym (cose_labels_laws.same_is l b.excluded.0 h)) b.excluded.1)))

    go : excludes b.excluded.0 b.before e → partial_header.faults v e
    go (inl h) = inr (
      (
        f.0,
        f.1,
        this labels.iv h.0,
        earlier labels.partial_iv
            (iv_before labels.partial_iv b.walked.done s.entries (fields_of b.before).0.partial_iv s.named s.fields.1.1.1.1.1.0 h.1),
      ),
      h.2,
    )
    go (inr h) = inr (
      (
        f.0,
        f.1,
        earlier labels.iv (iv_before labels.iv b.walked.done s.entries (fields_of b.before).0.iv s.named s.fields.1.1.1.1.0 h.1),
        this labels.partial_iv h.0,
      ),
      h.2,
    )
