-- Plain headers are headers.
use Rattle.std.proofs.Common.{◌≡◌, ◌≤ℤ◌, ◌<ℤ◌, ℕ, ℤ, pos, List, [], ◌∷◌, Some, None, Bool, true, false, true≢false, cond, refl, ap, sym, subst, inr, ◌∙◌, arith}
use Rattle.std.proofs.lemmas.Bool.Decides.{Decides-int_eq}
use Rattle.std.specs.Ordering.{int_eq}
use Rattle.std.specs.List.{AllByRecursion, IsDistinct}
use Rattle.std.specs.Map.{keys_of, lookup}
use Rattle.std.specs.Prelude.{◌≢◌, is_some}
use Rattle.coset.specs.Item.{Item, Pairs, no_pairs, pair}
use Rattle.coset.specs.Fields.{FieldsView, content_type, fields, partial_header}
use Rattle.coset.specs.Headers.{HeaderView, fields_in, header_of, layered_header, no_signatures}
use Rattle.coset.specs.LabelData.{LabelView, RegisteredLabelView, assigned, number, private_use, same_label, text_label}
use Rattle.coset.specs.Labels.{algorithm, cose_labels, is_integer, is_some_known, label}
use Rattle.coset.specs.LabelLaws.{cose_labels_laws}
use Rattle.coset.specs.Maps.{AreLabelled, FieldShape, optional, rest_of, unless_empty}
use Rattle.coset.specs.Parts.{as_integer, as_map}
use Rattle.coset.specs.Registry.{first_numbered}
use Rattle.coset.specs.Shape.{any, int64, nonempty_bstr}
use Rattle.coset.specs.WithPrivateRange.{is_private_use}
use Rattle.coset_codec.specs.MapLaws.{lookup_none, not_same}
use Rattle.coset_core.specs.FieldLabels as labels
use Rattle.coset_iana.specs.Algorithm as algorithms
use Rattle.coset_iana.specs.CoapContentFormat as content_formats
use Rattle.coset_iana.specs.declared.algorithms.TheConstants.{ALGORITHMS}
use Rattle.coset_iana.specs.declared.content_formats.TheConstants.{COAP_CONTENT_FORMATS}
use Rattle.coset_seen.specs.Named.{is_same, value_of}
use Rattle.coset_seen.specs.Plain.{ArePlain, IsPlainValue}

-- ---- numbers

abbrev pub known_algorithm : ℤ → Bool
known_algorithm n = is_some (first_numbered algorithms.number ALGORITHMS n)

abbrev pub known_format : ℤ → Bool
known_format n = is_some (first_numbered content_formats.number COAP_CONTENT_FORMATS n)

integer_is : (v : Item) (n : ℤ) → int64.describes v n → is_integer v ≡ true
integer_is v n d = ap is_some d.0

pub registered_algorithm : (v : Item) (n : ℤ) → int64.describes v n → known_algorithm n ≡ true → (x : RegisteredLabelView) × algorithm.describes v x
unfolding algorithm
registered_algorithm v n d known = (assigned n, (integer_is v n d, (ap (is_some_known known_algorithm) d.0 ∙ known, d)))

pub private_algorithm :
    (v : Item) (n : ℤ) → int64.describes v n → known_algorithm n ≡ false → is_private_use n ≡ true → (x : RegisteredLabelView) × algorithm.describes v x
unfolding algorithm
private_algorithm v n d other private = (private_use n, (integer_is v n d, (ap (is_some_known known_algorithm) d.0 ∙ other, (d, private))))

pub registered_format : (v : Item) (n : ℤ) → int64.describes v n → known_format n ≡ true → (x : LabelView) × content_type.describes v x
unfolding content_type
registered_format v n d known = (number n, ((integer_is v n d, (d, known)), tt))

-- ---- labels

abbrev number_in : LabelView → ℤ
number_in (number i) = i
number_in (text_label s) = pos 0

-- Different numbers are different labels.
numbers_apart : (i j : ℤ) → (i ≡ j → ⊥) → same_label (number i) (number j) ≡ false
numbers_apart i j h = not_same cose_labels cose_labels_laws (number i) (number j) (λ same. h (ap number_in same))

-- The same label is the same number.
same_number : (i j : ℤ) → same_label (number i) (number j) ≡ true → j ≡ i
same_number i j h = sym (ap number_in (cose_labels_laws.same_is (number i) (number j) h))

-- ---- entries

-- The pairs by label.
abbrev entries_of : (last : ℤ) (ps : Pairs) → ArePlain last ps → List (LabelView × Item)
entries_of last no_pairs h = []
entries_of last (pair k v ps) h = (number h.0, v) ∷ entries_of h.0 ps h.4

named : (last : ℤ) (ps : Pairs) (h : ArePlain last ps) → AreLabelled label.describes ps (entries_of last ps h)
named last no_pairs h = tt
named last (pair k v ps) h = ((integer_is k h.0 h.1, h.1), refl, named h.0 ps h.4)

-- A label at or below `last` is none of theirs.
is_new : (l last : ℤ) (ps : Pairs) (h : ArePlain last ps) → l ≤ℤ last
    → AllByRecursion (λ m. same_label (number l) m ≡ false) (keys_of (entries_of last ps h))
is_new l last no_pairs h below = tt
is_new l last (pair k v ps) h below =
    let above : last <ℤ h.0 = h.2 in
    (numbers_apart l h.0 (λ same. absurd (grind arith)), is_new l h.0 ps h.4 (grind arith))

distinct : (last : ℤ) (ps : Pairs) (h : ArePlain last ps) → IsDistinct same_label (keys_of (entries_of last ps h))
unfolding IsDistinct
distinct last no_pairs h = tt
distinct last (pair k v ps) h = (is_new h.0 h.0 ps h.4 (grind arith), distinct h.0 ps h.4)

-- What follows from each plain value.
each_plain :
    (Q : LabelView × Item → Type 0) → ((l : ℤ) (v : Item) → IsPlainValue l v → Q (number l, v)) → (last : ℤ) (ps : Pairs) (h : ArePlain last ps)
    → AllByRecursion Q (entries_of last ps h)
each_plain Q f last no_pairs h = tt
each_plain Q f last (pair k v ps) h = (f h.0 v h.3, each_plain Q f h.0 ps h.4)

-- ---- fields

-- A field has a value, if each value under its label describes one.
field_there :
    {A : Type 0} (l : LabelView) (s : FieldShape A) (x : A) → s.describes None x → (es : List (LabelView × Item))
    → AllByRecursion (λ e. same_label l e.0 ≡ true → (y : A) × s.describes (Some e.1) y) es
    → (y : A) × s.describes (lookup (same_label l) es) y
field_there l s x d [] p = (x, d)
field_there {A} l s x d (e ∷ es) p = go (field_there l s x d es p.1) (same_label l e.0) refl
  where
    go : (y : A) × s.describes (lookup (same_label l) es) y → (b : Bool) → same_label l e.0 ≡ b
        → (y : A) × s.describes (cond b (Some e.1) (lookup (same_label l) es)) y
    go later true q = p.0 q
    go later false q = later

-- No pair has a label that no plain value has.
missing : (l : ℤ) → ((m : ℤ) (v : Item) → IsPlainValue m v → m ≢ l) → (last : ℤ) (ps : Pairs) (h : ArePlain last ps)
    → lookup (same_label (number l)) (entries_of last ps h) ≡ None
missing l never last ps h = lookup_none cose_labels (number l) (entries_of last ps h) (new last ps h)
  where
    new : (last : ℤ) (ps : Pairs) (h : ArePlain last ps) → AllByRecursion (λ m. same_label (number l) m ≡ false) (keys_of (entries_of last ps h))
    new last no_pairs h = tt
    new last (pair k v ps) h = (numbers_apart l h.0 (λ same. never h.0 v h.3 (sym same)), new h.0 ps h.4)

-- ---- the values of labels

-- The entry of a label has the value of its pair.
lookup_value : (n last : ℤ) (ps : Pairs) (h : ArePlain last ps) → lookup (same_label (number n)) (entries_of last ps h) ≡ value_of n ps
lookup_value n last no_pairs h = refl
lookup_value n last (pair k v ps) h =
    let key : is_same int_eq (as_integer k) n ≡ int_eq h.0 n = ap (λ o. is_same int_eq o n) h.1.0 in
    go (int_eq h.0 n) refl (lookup_value n h.0 ps h.4) key
  where
    go : (b : Bool) → int_eq h.0 n ≡ b → lookup (same_label (number n)) (entries_of h.0 ps h.4) ≡ value_of n ps
        → is_same int_eq (as_integer k) n ≡ int_eq h.0 n
        → cond (same_label (number n) (number h.0)) (Some v) (lookup (same_label (number n)) (entries_of h.0 ps h.4))
        ≡ cond (is_same int_eq (as_integer k) n) (Some v) (value_of n ps)
    go true e later key =
        let is : h.0 ≡ n = (Decides-int_eq h.0 n).0 e in
        ap (λ b. cond b (Some v) (lookup (same_label (number n)) (entries_of h.0 ps h.4)))
        (subst (λ m. same_label (number n) (number m) ≡ true) (sym is) (cose_labels_laws.same_self (number n)))
        ∙ ap (λ b. cond b (Some v) (value_of n ps)) (sym (key ∙ e))
    go false e later key =
        ap (λ b. cond b (Some v) (lookup (same_label (number n)) (entries_of h.0 ps h.4)))
        (numbers_apart n h.0 (λ is. true≢false (sym ((Decides-int_eq h.0 n).1 (sym is)) ∙ e)))
        ∙ (later ∙ ap (λ b. cond b (Some v) (value_of n ps)) (sym (key ∙ e)))

-- ---- headers

-- The header's algorithm and key identifier are those under their labels.
pub record IsPlainView (k : ℕ) (v : Item) (ps : Pairs) (x : HeaderView) : Type 0 where
  pub describes : (layered_header k).describes v x
  pub algorithm : (optional algorithm).describes (value_of (pos 1) ps) (fields_in x).alg
  pub key_id : (unless_empty nonempty_bstr).describes (value_of (pos 4) ps) (fields_in x).key_id

pub plain_view : (k : ℕ) (v : Item) (ps : Pairs) (last : ℤ) → as_map v ≡ Some ps → ArePlain last ps → (x : HeaderView) × IsPlainView k v ps x
unfolding layered_header partial_header
plain_view k v ps last m h =
    let es : List (LabelView × Item) = entries_of last ps h in
    let alg = field_there labels.alg (optional algorithm) None refl es
    (each_plain _ (λ l w p same. let x = p.alg (same_number _ l same) in (Some x.0, x.1)) last ps h) in
    let content = field_there labels.content_type (optional content_type) None refl es
    (each_plain _ (λ l w p same. let x = p.content_type (same_number _ l same) in (Some x.0, x.1)) last ps h) in
    let kid = field_there labels.kid (unless_empty nonempty_bstr) [] refl es (each_plain _ (λ l w p same. p.kid (same_number _ l same)) last ps h) in
    let iv = field_there labels.iv (unless_empty nonempty_bstr) [] refl es (each_plain _ (λ l w p same. p.iv (same_number _ l same)) last ps h) in
    let crit = missing (pos 2) (λ l w p. p.no_crit) last ps h in
    let partial_iv = missing (pos 6) (λ l w p. p.no_partial_iv) last ps h in
    let first = missing (pos 7) (λ l w p. p.no_counter_signature) last ps h in
    let second = missing (pos 11) (λ l w p. p.no_countersignature_v2) last ps h in
    let second0 = missing (pos 12) (λ l w p. p.no_countersignature0_v2) last ps h in
    let f : FieldsView = record {
      alg = alg.0;
      crit = [];
      content_type = content.0;
      key_id = kid.0;
      iv = iv.0;
      partial_iv = [];
      countersignature0_v2 = None;
      rest = rest_of cose_labels (fields (optional any) (optional any)).labels es;
    } in (
      header_of f no_signatures no_signatures,
      record {
        describes = (
          (None, None),
          (
            (
              ps,
              m,
              record {
                entries = es;
                named = named last ps h;
                distinct = distinct last ps h;
                fields = (
                  alg.1,
                  (rw crit refl, (content.1, (kid.1, (iv.1, (rw partial_iv refl, (rw first refl, (rw second refl, (rw second0 refl, tt)))))))),
                );
                rest = refl;
              },
            ),
            inr refl,
          ),
          refl,
          refl,
        );
        algorithm = subst (λ o. (optional algorithm).describes o alg.0) (lookup_value (pos 1) last ps h) alg.1;
        key_id = subst (λ o. (unless_empty nonempty_bstr).describes o kid.0) (lookup_value (pos 4) last ps h) kid.1;
      },
    )
