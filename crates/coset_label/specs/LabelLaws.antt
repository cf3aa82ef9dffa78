-- The laws of labels' shapes.
use Rattle.std.proofs.Common.{◌≡◌, ◌⊎◌, ℕ, ℤ, List, Some, Bool, true, false, refl, sym, ◌∙◌, ap, inl, inr}
use Rattle.coset_value.specs.Item.{Item, integer, text}
use Rattle.coset_codec.specs.MapLaws.{LawfulMapLabels}
use Rattle.coset_codec.specs.Shape.{either, such_that, int64, tstr}
use Rattle.coset_codec.specs.ShapeLaws.{Lawful, mapped_laws, either_laws, such_that_laws, int64_laws, tstr_laws, some-one}
use Rattle.coset_label.specs.LabelData.{LabelView, number, text_label, RegisteredLabelView, assigned, private_use, text_name}
use Rattle.coset_label.specs.LabelData.{label_cmp, same_label}
use Rattle.coset_label.specs.NameOrder.{label_cmp-apart}
use Rattle.coset_label.specs.Labels.{label, registered, registered_or_private, is_integer, is_known, is_some_known, label_of_sum, sum_of_label}
use Rattle.coset_label.specs.Labels.{registered_of_sum, sum_of_registered, IsUnregistered, IsNotPrivate, algorithm, cose_labels}

label-back : (x : LabelView) → label_of_sum (sum_of_label x) ≡ x
label-back (number i) = refl
label-back (text_label s) = refl

registered_label-back : (x : RegisteredLabelView) → registered_of_sum (sum_of_registered x) ≡ x
registered_label-back (assigned i) = refl
registered_label-back (private_use i) = refl
registered_label-back (text_name s) = refl

-- The image of a number is an integer, and the image of a text is not.
int-told : (i : ℤ) (w : Item) → int64.image i ≡ Some w → is_integer w ≡ true
int-told i w e = let h : integer i ≡ w = some-one refl e in ap is_integer (sym h)

text-told : (s : List ℕ) (w : Item) → tstr.image s ≡ Some w → is_integer w ≡ false
text-told s w e = let h : text s ≡ w = some-one refl e in ap is_integer (sym h)

pub label_laws : Lawful LabelView label
label_laws =
    mapped_laws label_of_sum sum_of_label label-back _
    (either_laws is_integer int64 tstr int64_laws tstr_laws (λ v i w f d e. int-told i w e) (λ v s w f d e. text-told s w e))

pub registered_laws : (known : ℤ → Bool) → Lawful LabelView (registered known)
registered_laws known =
    mapped_laws label_of_sum sum_of_label label-back _
    (either_laws is_integer _ tstr (such_that_laws IsUnregistered (λ i. known i ≡ true) int64 int64_laws) tstr_laws (λ v i w f d e. int-told i w e)
    (λ v s w f d e. text-told s w e))

-- If an item's number has an image, the registry knows the image exactly when it knows the item.
same-known : (known : ℤ → Bool) (b : Bool) (v : Item) (i : ℤ) (w : Item) → is_known known v ≡ b → int64.describes v i → int64.image i ≡ Some w
    → is_known known w ≡ b
same-known known b v i w f d e = let h : integer i ≡ w = some-one refl e in ap (is_known known) (sym h) ∙ (ap (is_some_known known) (sym d.0) ∙ f)

ints-told : (known private : ℤ → Bool) (x : ℤ ⊎ ℤ) (w : Item)
    → (either (is_known known) int64 (such_that IsNotPrivate (λ i. private i ≡ true) int64)).image x ≡ Some w → is_integer w ≡ true
ints-told known private (inl i) w e = int-told i w e
ints-told known private (inr i) w e = int-told i w e

pub registered_or_private_laws : (known private : ℤ → Bool) → Lawful RegisteredLabelView (registered_or_private known private)
registered_or_private_laws known private =
    mapped_laws registered_of_sum sum_of_registered registered_label-back _
    (either_laws is_integer (either (is_known known) int64 (such_that IsNotPrivate (λ i. private i ≡ true) int64)) tstr
    (either_laws (is_known known) int64 _ int64_laws (such_that_laws IsNotPrivate (λ i. private i ≡ true) int64 int64_laws)
    (λ v i w f d e. same-known known true v i w f d e)
    (λ v i w f d e. same-known known false v i w f d.0 e))
    tstr_laws (λ v x w f d e. ints-told known private x w e) (λ v s w f d e. text-told s w e))

pub algorithm_laws : Lawful RegisteredLabelView algorithm
unfolding algorithm
algorithm_laws = registered_or_private_laws _ _

pub cose_labels_laws : LawfulMapLabels LabelView cose_labels
cose_labels_laws = record {
  shape = label_laws;
  same_is = λ l m h. (label_cmp-apart l m).0 h;
  same_self = λ l. (label_cmp-apart l l).1 refl;
}

-- `same_label` is symmetric.
sym-either : (l m : LabelView) (b : Bool) → same_label l m ≡ b → same_label m l ≡ b
sym-either l m true h = ap (λ n. same_label n l) (sym (cose_labels_laws.same_is l m h)) ∙ cose_labels_laws.same_self l
sym-either l m false h = go (same_label m l) refl
  where
    go : (b : Bool) → same_label m l ≡ b → same_label m l ≡ false
    go true e = let same : m ≡ l = cose_labels_laws.same_is m l e in ap (λ n. same_label n l) same ∙ (sym (ap (λ n. same_label l n) same) ∙ h)
    go false e = e

pub same_label-sym : (l m : LabelView) → same_label l m ≡ same_label m l
same_label-sym l m = sym (sym-either l m (same_label l m) refl)
