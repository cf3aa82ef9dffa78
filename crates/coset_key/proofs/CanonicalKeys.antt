-- Keys whose params are in the order of their labels.
use Rattle.std.proofs.Common.{◌≡◌, List, true, sym, ◌∙◌, ap, subst}
use Rattle.std.specs.Cmp.{IsTotalOrder, both_ways}
use Rattle.std.specs.List.{IsDistinct}
use Rattle.std.specs.List.Sorted.{IsPermutation}
use Rattle.std.specs.Map.{keys_of}
use Rattle.std.specs.Ordering.{eq_by_cmp}
use Rattle.std.proofs.lemmas.List.Sorted.{IsPermutation-map, IsPermutation-sym, IsPermutation-trans}
use Rattle.std.proofs.lemmas.Cmp.{eq_by_cmp_equiv}
use Rattle.std.proofs.lemmas.Map.Keys.{IsDistinct-IsPermutation}
use Rattle.coset_value.specs.Item.{Item}
use Rattle.coset_codec.specs.MapLaws.{labelled_arranged, rest_distinct}
use Rattle.coset_codec.specs.ReadAgain.{EncodesInjectively, again_reads}
use Rattle.coset_codec.specs.ShapeLaws.{Again}
use Rattle.coset_label.specs.NameOrder.{label_cmp_total, canonical_cmp_total, label_cmp-apart, canonical_cmp-apart}
use Rattle.coset_label.specs.LabelData.{LabelView, TellsApart, same_label}
use Rattle.coset_label.specs.Orderings.{label_cmp_by}
use Rattle.coset_label.specs.SortedLaws.{has_one_order}
use Rattle.coset_label.specs.declared.ordering.CborOrdering.{CborOrdering}
use Rattle.coset_label.specs.declared.ordering.CborOrdering.TheVariants.{Lexicographic, LengthFirstLexicographic}
use Rattle.coset_label.specs.Labels.{cose_labels}
use Rattle.coset_label.specs.LabelLaws.{cose_labels_laws}
use Rattle.coset_key.specs.Canonical.{with_params, AgreeButForOrder, IsCanonicalOf, CanonicalReadsAgain, CanonicalInjective}
use Rattle.coset_key.specs.KeyLaws.{fields_laws}
use Rattle.coset_key.specs.Keys.{KeyView, key, fields, parts_of}

-- ---- the orders

pub total_by : (o : CborOrdering) → IsTotalOrder (label_cmp_by o)
total_by Lexicographic = label_cmp_total
total_by LengthFirstLexicographic = canonical_cmp_total

apart_by : (o : CborOrdering) → TellsApart (label_cmp_by o)
apart_by Lexicographic = label_cmp-apart
apart_by LengthFirstLexicographic = canonical_cmp-apart

-- Two labels are the same exactly if they compare as equal, in either order.
level : (o : CborOrdering) (a b : LabelView) → same_label a b ≡ eq_by_cmp (label_cmp_by o) a b
level o a b = both_ways (same_label a b) (eq_by_cmp (label_cmp_by o) a b) (λ h. (apart_by o a b).1 ((label_cmp-apart a b).0 h))
    (λ h. (label_cmp-apart a b).1 ((apart_by o a b).0 h))

-- ---- a key with its params in another order

-- Such a key is written as an item that describes it.
arranged : (v : Item) (k : KeyView) (ps : List (LabelView × Item)) → key.describes v k → IsPermutation k.params ps → Again KeyView key v (with_params ps k)
unfolding key
arranged v k ps p m =
    let a = labelled_arranged cose_labels cose_labels_laws true fields fields_laws v (parts_of k) ps p.0 m in
    record { image = a.image; is_image = a.is_image; described = (a.described, p.1); shallow = a.shallow }

-- In a key that was read, the labels of the params differ.
params_differ : (o : CborOrdering) (v : Item) (k : KeyView) → key.describes v k → IsDistinct (eq_by_cmp (label_cmp_by o)) (keys_of k.params)
unfolding key
params_differ o v k p =
    let e = p.0.2 in
    let d : IsDistinct same_label (keys_of k.params) = rest_distinct cose_labels fields.labels e.entries k.params e.rest e.distinct in
    subst (λ t. IsDistinct t (keys_of k.params)) (λ i a b. level o a b i) d

-- The labels also differ once the params are in order.
pub canonical_differ : (o : CborOrdering) (v : Item) (k x : KeyView) → key.describes v k → IsCanonicalOf o k x
    → IsDistinct (eq_by_cmp (label_cmp_by o)) (keys_of x.params)
canonical_differ o v k x p c =
    IsDistinct-IsPermutation (eq_by_cmp (label_cmp_by o)) (eq_by_cmp_equiv (total_by o)).symm (keys_of k.params) (keys_of x.params)
    (IsPermutation-map (λ e. e.0) k.params x.params c.agree.params) (params_differ o v k p)

-- If two keys agree except for the order of their params, they are equal once their params are in order.
canonical_one : (o : CborOrdering) (v : Item) (k l x y : KeyView) → key.describes v k → IsCanonicalOf o k x → IsCanonicalOf o l y → AgreeButForOrder k l → x ≡ y
canonical_one o v k l x y p c d h =
    let moved = IsPermutation-trans x.params l.params y.params
    (IsPermutation-trans x.params k.params l.params (IsPermutation-sym k.params x.params c.agree.params) h.params) d.agree.params in
    let one : x.params ≡ y.params = has_one_order (total_by o) x.params y.params (canonical_differ o v k x p c) moved c.ordered d.ordered in
    sym c.agree.others ∙ ((λ i. with_params (one i) k) ∙ (ap (with_params y.params) h.others ∙ d.agree.others))

canonical_of_one : (o : CborOrdering) (k l x y : KeyView) → IsCanonicalOf o k x → IsCanonicalOf o l y → x ≡ y → AgreeButForOrder k l
canonical_of_one o k l x y c d e =
    record {
      others = ap (with_params l.params) (c.agree.others ∙ (e ∙ sym d.agree.others));
      params = IsPermutation-trans k.params x.params l.params c.agree.params
          (subst (λ z. IsPermutation z.params l.params) (sym e) (IsPermutation-sym l.params y.params d.agree.params));
    }

-- A key with its params in order is written as an item that describes it.
in_order : (o : CborOrdering) (v : Item) (k x : KeyView) → key.describes v k → IsCanonicalOf o k x → Again KeyView key v x
in_order o v k x p c = subst (Again KeyView key v) c.agree.others (arranged v k x.params p c.agree.params)

pub canonical_reads_again : (o : CborOrdering) → CanonicalReadsAgain o
canonical_reads_again o v k x p shallow c = again_reads key v x (in_order o v k x p c) shallow

pub canonical_apart : (o : CborOrdering) → EncodesInjectively key → CanonicalInjective o
canonical_apart o apart v w c d k l x y p q m n u t =
    let first = in_order o v k x p m in
    let second = in_order o w l y q n in
    let one = apart first.image second.image c d x y first.described second.described u t in (
      λ e. canonical_of_one o k l x y m n (one.0 e),
      λ h. one.1 (canonical_one o v k l x y p m n h),
    )
