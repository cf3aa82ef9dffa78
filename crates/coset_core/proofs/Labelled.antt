-- The values under the labels of signatures in the map that a header is written as.
use Rattle.std.proofs.Common.{◌≡◌, ℕ, List, [], ◌∷◌, ◌++◌, Option, Some, None, Bool, true, false, cond, option_map, refl, sym, ap, subst, ◌∙◌}
use Rattle.std.specs.Map.{lookup}
use Rattle.coset_value.specs.Item.{Item, Pairs, no_pairs, pair, bytes, dict, integer, text}
use Rattle.coset_value.specs.Parts.{as_integer, as_text, as_map}
use Rattle.coset_codec.specs.AsWritten.{AsWritten, WhenRead}
use Rattle.coset_codec.specs.Lists.{EachHas, EachWith}
use Rattle.coset_codec.specs.Maps.{FieldShape, AreLabelled, labelled_image, put_field, optional, unless_empty, entries_image, may_write}
use Rattle.coset_codec.specs.Shape.{Shape, both, bstr}
use Rattle.coset_codec.specs.ShapeLaws.{some-one}
use Rattle.coset_label.specs.Labels.{is_integer, label, cose_labels}
use Rattle.coset_label.specs.LabelData.{LabelView, number, text_label, same_label}
use Rattle.coset_core.specs.FieldLabels as labels
use Rattle.coset_core.specs.Fields.{FieldTuple, fields, parts_of}
use Rattle.coset_core.specs.HeaderMap.{each_of, header_map, header_parts}
use Rattle.coset_core.specs.Headers.{HeaderView, SignatureView, counter_signatures_in, countersignatures_in, fields_in}
use Rattle.coset_core.specs.Kept.{EachReadAs, EachSignature, KeepsAbbreviated, SignaturesReadAs}

-- ---- images made of parts

-- The parts of a value that was made of two optional values. `mapped_part` is the same for one.
pub both_parts : {A B C : Type 0} (f : A → B → C) (o : Option A) (p : Option B) (x : C) → both f o p ≡ Some x
    → (a : A) × (b : B) × (o ≡ Some a) × (p ≡ Some b) × (x ≡ f a b)
both_parts f (Some a) (Some b) x e = (a, b, refl, refl, sym (some-one refl e))
both_parts f (Some a) None x e = absurd (cc)
both_parts f None p x e = absurd (cc)

pub mapped_part : {A B : Type 0} (f : A → B) (o : Option A) (x : B) → option_map f o ≡ Some x → (a : A) × (o ≡ Some a) × (x ≡ f a)
mapped_part f (Some a) x e = (a, refl, sym (some-one refl e))
mapped_part f None x e = absurd (cc)

-- ---- labels and pairs

-- A label that is written and read again is the same label.
label_again : (l m : LabelView) (k : Item) → label.image l ≡ Some k → label.describes k m → m ≡ l
label_again (number i) (number j) k e d =
    let same : integer i ≡ k = some-one refl e in
    ap number (some-one d.1.0 (ap as_integer (sym same)))
label_again (number i) (text_label t) k e d =
    let same : integer i ≡ k = some-one refl e in
    let is : is_integer k ≡ true = ap is_integer (sym same) in
    let is_none : is_integer k ≡ false = d.0 in
    absurd (cc)
label_again (text_label s) (number j) k e d =
    let same : text s ≡ k = some-one refl e in
    let is_none : is_integer k ≡ false = ap is_integer (sym same) in
    let is : is_integer k ≡ true = d.0 in
    absurd (cc)
label_again (text_label s) (text_label t) k e d =
    let same : text s ≡ k = some-one refl e in
    ap text_label (some-one d.1 (ap as_text (sym same)))

-- So each label has the same value.
pub lookup_again :
    (test : LabelView → Bool) (es fs : List (LabelView × Item)) (ps : Pairs) → labelled_image label.image es ≡ Some ps → AreLabelled label.describes ps fs
    → lookup test fs ≡ lookup test es
lookup_again test [] fs ps e d = none fs (subst (λ qs. AreLabelled label.describes qs fs) (sym (some-one refl e)) d)
  where
    none : (gs : List (LabelView × Item)) → AreLabelled label.describes no_pairs gs → lookup test gs ≡ None
    none [] n = refl
    none (g ∷ gs) n = absurd n
lookup_again test (x ∷ es) fs ps e d =
    let parts = both_parts (λ k qs. pair k x.1 qs) (label.image x.0) (labelled_image label.image es) ps e in
    one parts.0 parts.1 parts.2 fs (λ gs. lookup_again test es gs parts.1 parts.3) (subst (λ qs. AreLabelled label.describes qs fs) parts.4 d)
  where
    one : (k : Item) (qs : Pairs) → label.image x.0 ≡ Some k → (gs : List (LabelView × Item))
        → ((hs : List (LabelView × Item)) → AreLabelled label.describes qs hs → lookup test hs ≡ lookup test es)
        → AreLabelled label.describes (pair k x.1 qs) gs → lookup test gs ≡ lookup test (x ∷ es)
    one k qs is [] more n = absurd n
    one k qs is (g ∷ gs) more n =
        let name : g.0 ≡ x.0 = label_again x.0 g.0 k is n.0 in
        let value : x.1 ≡ g.1 = n.1 in
        let after : lookup test gs ≡ lookup test es = more gs n.2 in
        (λ i. cond (test (name i)) (Some g.1) (after i)) ∙ ap (λ v. cond (test x.0) (Some v) (lookup test es)) (sym value)

module _ (test : LabelView → Bool) where
  found_first : (es rs : List (LabelView × Item)) (w : Item) → lookup test es ≡ Some w → lookup test (es ++ rs) ≡ Some w
  found_first [] rs w e = absurd (cc)
  found_first (x ∷ es) rs w e = go (test x.0) (found_first es rs w) e
    where
      go : (b : Bool) → (lookup test es ≡ Some w → lookup test (es ++ rs) ≡ Some w) → cond b (Some x.1) (lookup test es) ≡ Some w
          → cond b (Some x.1) (lookup test (es ++ rs)) ≡ Some w
      go true later h = h
      go false later h = later h

  found_later : (es rs : List (LabelView × Item)) → lookup test es ≡ None → lookup test (es ++ rs) ≡ lookup test rs
  found_later [] rs e = refl
  found_later (x ∷ es) rs e = go (test x.0) (found_later es rs) e
    where
      go : (b : Bool) → (lookup test es ≡ None → lookup test (es ++ rs) ≡ lookup test rs) → cond b (Some x.1) (lookup test es) ≡ None
          → cond b (Some x.1) (lookup test (es ++ rs)) ≡ lookup test rs
      go true later h = absurd (cc)
      go false later h = later h

  -- ---- fields

  other_put : (l : LabelView) (o : Option Item) (es : List (LabelView × Item)) → test l ≡ false → lookup test (put_field l o es) ≡ lookup test es
  other_put l (Some v) es h = ap (λ b. cond b (Some v) (lookup test es)) h
  other_put l None es h = refl

  this_put : (l : LabelView) (o : Option Item) (es : List (LabelView × Item)) → test l ≡ true → lookup test es ≡ None → lookup test (put_field l o es) ≡ o
  this_put l (Some v) es h none = ap (λ b. cond b (Some v) (lookup test es)) h
  this_put l None es h none = none

  -- If no field has the label, there is no value under it.
  no_more : (es : List (LabelView × Item)) → ◌≡◌ {A = Option (List (LabelView × Item))} (Some []) (Some es) → lookup test es ≡ None
  no_more es e = ap (lookup test) (sym (some-one refl e))

  none_beyond :
      (l : LabelView) → test l ≡ false → (o : Option (Option Item)) (p : Option (List (LabelView × Item)))
      → ((fs : List (LabelView × Item)) → p ≡ Some fs → lookup test fs ≡ None)
      → (es : List (LabelView × Item)) → both (put_field l) o p ≡ Some es → lookup test es ≡ None
  none_beyond l h o p more es e =
      let parts = both_parts (put_field l) o p es e in
      ap (lookup test) parts.4 ∙ (other_put l parts.0 parts.1 h ∙ more parts.1 parts.3)

  -- The value under the label is the image of the field.
  module _ (field : Option (Option Item)) where
    abbrev Holds : List (LabelView × Item) → Type 0
    Holds es = (v : Option Item) × (field ≡ Some v) × (lookup test es ≡ v)

    here :
        (l : LabelView) → test l ≡ true → (p : Option (List (LabelView × Item))) → ((fs : List (LabelView × Item)) → p ≡ Some fs → lookup test fs ≡ None)
        → (es : List (LabelView × Item)) → both (put_field l) field p ≡ Some es → Holds es
    here l h p none es e =
        let parts = both_parts (put_field l) field p es e in
        (parts.0, parts.2, ap (lookup test) parts.4 ∙ this_put l parts.0 parts.1 h (none parts.1 parts.3))

    beyond :
        (l : LabelView) → test l ≡ false → (o : Option (Option Item)) (p : Option (List (LabelView × Item)))
        → ((fs : List (LabelView × Item)) → p ≡ Some fs → Holds fs)
        → (es : List (LabelView × Item)) → both (put_field l) o p ≡ Some es → Holds es
    beyond l h o p more es e =
        let parts = both_parts (put_field l) o p es e in
        let held = more parts.1 parts.3 in
        (held.0, held.1, ap (lookup test) parts.4 ∙ (other_put l parts.0 parts.1 h ∙ held.2))

-- The values under labels 7, 11 and 12 are the images of their fields.
module _ {C : Type 0} (c d : FieldShape C) (x : FieldTuple C) where
  under_first : (es : List (LabelView × Item)) → (fields c d).image x ≡ Some es → Holds (same_label labels.counter_signature) (c.image x.1.1.1.1.1.1.0) es
  under_first =
      let t = same_label labels.counter_signature in
      let f = c.image x.1.1.1.1.1.1.0 in
      beyond t f labels.alg refl _ _ (
      beyond t f labels.crit refl _ _ (
      beyond t f labels.content_type refl _ _ (
      beyond t f labels.kid refl _ _ (
      beyond t f labels.iv refl _ _ (
      beyond t f labels.partial_iv refl _ _ (
      here t f labels.counter_signature refl _ (
      none_beyond t labels.countersignature_v2 refl _ _ (none_beyond t labels.countersignature0_v2 refl _ _ (no_more t)))))))))

  under_second : (es : List (LabelView × Item)) → (fields c d).image x ≡ Some es → Holds (same_label labels.countersignature_v2) (d.image x.1.1.1.1.1.1.1.0) es
  under_second =
      let t = same_label labels.countersignature_v2 in
      let f = d.image x.1.1.1.1.1.1.1.0 in
      beyond t f labels.alg refl _ _ (
      beyond t f labels.crit refl _ _ (
      beyond t f labels.content_type refl _ _ (
      beyond t f labels.kid refl _ _ (
      beyond t f labels.iv refl _ _ (
      beyond t f labels.partial_iv refl _ _ (
      beyond t f labels.counter_signature refl _ _ (
      here t f labels.countersignature_v2 refl _ (none_beyond t labels.countersignature0_v2 refl _ _ (no_more t)))))))))

  under_third : (es : List (LabelView × Item)) → (fields c d).image x ≡ Some es
      → Holds (same_label labels.countersignature0_v2) ((optional bstr).image x.1.1.1.1.1.1.1.1.0) es
  under_third =
      let t = same_label labels.countersignature0_v2 in
      let f = (optional bstr).image x.1.1.1.1.1.1.1.1.0 in
      beyond t f labels.alg refl _ _ (
      beyond t f labels.crit refl _ _ (
      beyond t f labels.content_type refl _ _ (
      beyond t f labels.kid refl _ _ (
      beyond t f labels.iv refl _ _ (
      beyond t f labels.partial_iv refl _ _ (
      beyond t f labels.counter_signature refl _ _ (
      beyond t f labels.countersignature_v2 refl _ _ (here t f labels.countersignature0_v2 refl _ (no_more t)))))))))

-- ---- maps

-- The parts of the map that these fields and the rest are written as.
record IsMap (o : Option (List (LabelView × Item))) (rest : List (LabelView × Item)) (v : Item) : Type 0 where
  pub entries : List (LabelView × Item)
  pub is_image : o ≡ Some entries
  pub pairs : Pairs
  pub are_pairs : labelled_image label.image (entries ++ rest) ≡ Some pairs
  pub is : v ≡ dict pairs

is_map : (b : Bool) (rest : List (LabelView × Item)) (o : Option (List (LabelView × Item))) (v : Item) → entries_image cose_labels b rest o ≡ Some v
    → IsMap o rest v
is_map true rest (Some es) v e =
    let m = mapped_part dict (labelled_image label.image (es ++ rest)) v e in
    record { entries = es; is_image = refl; pairs = m.0; are_pairs = m.1; is = m.2 }
is_map true rest None v e = absurd (cc)
is_map false rest o v e = absurd (cc)

module _ (s : Shape (List SignatureView)) (R : SignatureView → SignatureView → Type 0) (law : AsWritten s (EachWith R)) where
  -- The signatures under a label. `found` is the value read there, and `put` is the value written there.
  read_as :
      (l : LabelView) (rest : List (LabelView × Item)) (ss ts : List SignatureView) (es : List (LabelView × Item)) (found put : Option Item)
      → (unless_empty s).image ss ≡ Some put → lookup (same_label l) es ≡ put → found ≡ lookup (same_label l) (es ++ rest)
      → (unless_empty s).describes found ts → EachReadAs R l rest ss ts
  read_as l rest [] ts es found put e stands looked d = λ none.
      let nothing : None ≡ put = some-one refl e in
      let later = found_later (same_label l) es rest (stands ∙ sym nothing) in
      subst (λ o. (unless_empty s).describes o ts) (looked ∙ (later ∙ none)) d
  read_as l rest (x ∷ ss) ts es found put e stands looked d =
      let m = mapped_part Some (s.image (x ∷ ss)) put e in
      let first = found_first (same_label l) es rest m.0 (stands ∙ m.2) in
      law m.0 (x ∷ ss) ts m.1 (subst (λ o. (unless_empty s).describes o ts) (looked ∙ first) d)

-- An abbreviated countersignature.
string_again : (s : List ℕ) (y : Option (List ℕ)) → (optional bstr).describes (Some (bytes s)) y → y ≡ Some s
string_again s (Some t) d = sym d
string_again s None d = absurd d

module _ (s : Shape (List SignatureView)) (h g : HeaderView) (v : Item) (e : (header_map s).image h ≡ Some v) (d : (header_map s).describes v g) where
  abbrev tuple : FieldTuple (List SignatureView)
  tuple = (parts_of (header_parts h)).0

  abbrev rest : List (LabelView × Item)
  rest = (fields_in h).rest

  written : IsMap ((fields (unless_empty s) (unless_empty s)).image tuple) rest v
  written = is_map (may_write cose_labels true rest) rest ((fields (unless_empty s) (unless_empty s)).image tuple) v e

  looked : (l : LabelView) → lookup (same_label l) d.0.2.entries ≡ lookup (same_label l) (written.entries ++ rest)
  looked l =
      let same : d.0.0 ≡ written.pairs = some-one d.0.1 (ap as_map written.is) in
      lookup_again (same_label l) (written.entries ++ rest) d.0.2.entries written.pairs written.are_pairs
      (subst (λ ps. AreLabelled label.describes ps d.0.2.entries) same d.0.2.named)

  pub signatures_as_written : (R : SignatureView → SignatureView → Type 0) → AsWritten s (EachWith R) → SignaturesReadAs R h g
  signatures_as_written R law =
      let first = under_first (unless_empty s) (unless_empty s) tuple written.entries written.is_image in
      let second = under_second (unless_empty s) (unless_empty s) tuple written.entries written.is_image in (
        read_as s R law labels.counter_signature rest (each_of (counter_signatures_in h)) (each_of (counter_signatures_in g)) written.entries _
            first.0 first.1 first.2 (looked labels.counter_signature) d.0.2.fields.1.1.1.1.1.1.0,
        read_as s R law labels.countersignature_v2 rest (each_of (countersignatures_in h)) (each_of (countersignatures_in g)) written.entries _
            second.0 second.1 second.2 (looked labels.countersignature_v2) d.0.2.fields.1.1.1.1.1.1.1.0,
      )

  pub abbreviated_as_written : KeepsAbbreviated h g
  abbreviated_as_written t is =
      let third = under_third (unless_empty s) (unless_empty s) tuple written.entries written.is_image in
      let put : Some (bytes t) ≡ third.0 = some-one (ap (optional bstr).image is) third.1 in
      let first = found_first (same_label labels.countersignature0_v2) written.entries rest (bytes t) (third.2 ∙ sym put) in
      string_again t (fields_in g).countersignature0_v2
      (subst (λ o. (optional bstr).describes o (fields_in g).countersignature0_v2) (looked labels.countersignature0_v2 ∙ first)
      d.0.2.fields.1.1.1.1.1.1.1.1.0)

module _ (s : Shape (List SignatureView)) (P : SignatureView → Type 0) (law : WhenRead s (EachHas P)) where
  each_read : (o : Option Item) (ss : List SignatureView) → (unless_empty s).describes o ss → EachHas P ss
  each_read (Some w) ss d = law w ss d
  each_read None ss d = subst (EachHas P) (sym d) tt

  pub map_when_read : WhenRead (header_map s) (EachSignature P)
  map_when_read v h d =
      let held = d.0.2.fields in
      (each_read _ (each_of (counter_signatures_in h)) held.1.1.1.1.1.1.0, each_read _ (each_of (countersignatures_in h)) held.1.1.1.1.1.1.1.0)
