-- The shape of a header is the map of its fields, with the shape of signatures in it.
use Rattle.std.proofs.Common.{◌≡◌, ◌⊎◌, ℕ, zero, suc, List, [], ◌∷◌, Option, Some, None, Bool, true, false, option_map, refl, ap, sym, subst, ◌∙◌, inl, inr}
use Rattle.coset_value.specs.Item.{Item, Items, no_items, item, Pairs, no_pairs, pair}
use Rattle.coset_codec.specs.declared.error.CoseError.{CoseError}
use Rattle.coset_codec.specs.Maps.{FieldShape, unless_empty, optional, IfThenElse, SomePair, PairFaults, entries_image, may_write}
use Rattle.coset_codec.specs.Serialized.{ContentDescribes, ContentFaults}
use Rattle.coset_codec.specs.Shape.{Shape, Each, EachFaults, both, any, bstr, ◌then◌, end, one_or_array}
use Rattle.coset_label.specs.Labels.{label, cose_labels}
use Rattle.coset_label.specs.LabelData.{LabelView, same_label}
use Rattle.coset_label.specs.LabelLaws.{cose_labels_laws}
use Rattle.coset_core.specs.FieldLabels as labels
use Rattle.coset_core.specs.FieldLaws.{join, image_with}
use Rattle.coset_core.specs.Fields.{FieldsView, PerVersion, fields, map_with, partial_header, IsCountersignatureLabel, SomeCounterSignatures}
use Rattle.coset_core.specs.HeaderMap.{each_of, header_with, header_parts, header_map}
use Rattle.coset_core.specs.HeaderReads.{signed_as, ProtectedOf, header_read_with, faults_read, protected_faults, unprotected_faults}
use Rattle.coset_core.specs.HeaderWrites.{images_signatures}
use Rattle.coset_core.specs.Headers.{HeaderView, header_of, Signatures, no_signatures, signature_and, ProtectedView, SignatureView, signatures_of, empty_header}
use Rattle.coset_core.specs.Headers.{CounterSignaturesAre, DescribesContent, IsHeader, AreSignatures}
use Rattle.coset_core.specs.Headers.{signed_array, described_by, counter_signatures_item, header_item}
use Rattle.coset_core.specs.Headers.{signatures_image, counter_signatures_faults, layered_header, layered_protected, layered_signature, signatures_within}

-- ---- signatures and lists

signatures-again : (ss : Signatures) → signatures_of (each_of ss) ≡ ss
signatures-again no_signatures = refl
signatures-again (signature_and o p u s more) = ap (signature_and o p u s) (signatures-again more)

header-back : (h : HeaderView) → header_with (header_parts h) ≡ h
header-back (header_of f ss ts) = λ i. header_of f (signatures-again ss i) (signatures-again ts i)

-- ---- items that describe a header

content_told : (k : ℕ) (h : HeaderView) (b : List ℕ) → DescribesContent (IsHeader h k) (h ≡ empty_header) b
    → ContentDescribes empty_header (layered_header k) b h
unfolding layered_header
content_told k h [] p = p
content_told k h (c ∷ b) p = p

protected_decides : (k : ℕ) (p : ProtectedView) (v : Item) → ProtectedOf p.original p.header k v → (layered_protected k).describes v p
unfolding layered_protected
protected_decides zero p v h = h
protected_decides (suc k) p v h = (h.0, h.1, h.2, content_told k p.header h.0 h.3)

unprotected_told : (k : ℕ) (h : HeaderView) (v : Item) → IsHeader h k v → (layered_header k).describes v h
unfolding layered_header
unprotected_told k h v p = p

signatures_decides : (k : ℕ) (ss : Signatures) (vs : Items) → AreSignatures ss k vs → Each (layered_signature k).describes vs (each_of ss)
signatures_decides k no_signatures vs h = subst (λ us. Each (layered_signature k).describes us []) (sym h) tt
signatures_decides k (signature_and o p u s more) no_items h = absurd h
signatures_decides k (signature_and o p u s more) (item v vs) h =
    let protected : ProtectedView = record { original = o; header = p } in (
      signed_as (described_by (ProtectedOf o p k)) (described_by (IsHeader u k)) (layered_protected k) (layered_header k) tt tt protected u s
          (protected_decides k protected) (unprotected_told k u) v h.0,
      signatures_decides k more vs h.1,
    )

listed_told :
    (k : ℕ) (ss : Signatures) (o : Option Item) → CounterSignaturesAre (AreSignatures ss k) (ss ≡ no_signatures) o
    → (unless_empty (signatures_within k)).describes o (each_of ss)
listed_told k ss (Some w) h = (h.0, h.1, signatures_decides k ss h.0 h.2)
listed_told k ss None h = ap each_of h

pub header_decides : (k : ℕ) (v : Item) (h : HeaderView) → (layered_header k).describes v h → (header_map (signatures_within k)).describes v h
unfolding layered_header
header_decides k v (header_of f ss ts) h =
    join (unless_empty (signatures_within k)) (unless_empty (signatures_within k)) v f h.0 (each_of ss, each_of ts) h.1
    (listed_told k ss h.0.0 h.2) (listed_told k ts h.0.1 h.3)

pub header_told_so : (k : ℕ) (v : Item) (h : HeaderView) → (header_map (signatures_within k)).describes v h → (layered_header k).describes v h
header_told_so k v h d =
    let x = header_parts h in
    subst (λ g. (layered_header k).describes v g) (header-back h) (header_read_with k v x.0 x.1.0 x.1.1 d)

-- ---- images of headers

mapped_once : (o : Option Items) → option_map Some (option_map one_or_array o) ≡ option_map (λ vs. Some (one_or_array vs)) o
mapped_once (Some vs) = refl
mapped_once None = refl

listed_image : (k : ℕ) (ss : Signatures) → (unless_empty (signatures_within k)).image (each_of ss) ≡ counter_signatures_item ss (signatures_image ss)
listed_image k no_signatures = refl
listed_image k (signature_and o p u s more) =
    let ss = signature_and o p u s more in
    let images_are = images_signatures k (each_of ss) ∙ ap signatures_image (signatures-again ss) in
    ap (λ i. option_map Some (option_map one_or_array i)) images_are ∙ mapped_once (signatures_image ss)

-- If one field has no image, the fields have none.
not_first : {A B C : Type 0} (f : A → B → C) (a : Option A) (o : Option B) → a ≡ None → both f a o ≡ None
not_first f (Some a) o h = absurd (cc)
not_first f None o h = refl

not_later : {A B C : Type 0} (f : A → B → C) (a : Option A) (o : Option B) → o ≡ None → both f a o ≡ None
not_later f (Some a) (Some b) h = absurd (cc)
not_later f (Some a) None h = refl
not_later f None o h = refl

-- If the fields have no image, the map has none.
no_entries : (rest : List (LabelView × Item)) (b : Bool) (o : Option (List (LabelView × Item))) → o ≡ None → entries_image cose_labels b rest o ≡ None
no_entries rest true o h = ap (entries_image cose_labels true rest) h
no_entries rest false o h = refl

-- So the image of a header is the image of the map, given the images of its signatures.
module _ (c : FieldShape (List SignatureView)) (f : FieldsView) (x : PerVersion (List SignatureView)) where
  map_image : (o p : Option (Option Item)) → c.image x.0 ≡ o → c.image x.1 ≡ p → header_item f o p ≡ (map_with c c).image (f, x)
  map_image (Some v) (Some w) h k = image_with c c f x v w h k
  map_image (Some v) None h k =
      sym (no_entries f.rest (may_write cose_labels true f.rest) _
      (not_later _ _ _ (not_later _ _ _ (not_later _ _ _ (not_later _ _ _ (not_later _ _ _ (not_later _ _ _ (not_later _ _ _ (not_first _ _ _ k)))))))))
  map_image None p h k =
      sym (no_entries f.rest (may_write cose_labels true f.rest) _
      (not_later _ _ _ (not_later _ _ _ (not_later _ _ _ (not_later _ _ _ (not_later _ _ _ (not_later _ _ _ (not_first _ _ _ h))))))))

pub header_written : (k : ℕ) (h : HeaderView) → (layered_header k).image h ≡ (header_map (signatures_within k)).image h
unfolding layered_header
header_written k (header_of f ss ts) =
    map_image (unless_empty (signatures_within k)) f (each_of ss, each_of ts)
    (counter_signatures_item ss (signatures_image ss)) (counter_signatures_item ts (signatures_image ts))
    (listed_image k ss) (listed_image k ts)

-- ---- faults of headers

-- If Q gives R or S, then `IfThenElse b P Q` gives `IfThenElse b P R` or S. In `here`, P gives S.
later : (b : Bool) (P Q R S : Type 0) → (Q → R ⊎ S) → IfThenElse b P Q → IfThenElse b P R ⊎ S
later true P Q R S f h = inl h
later false P Q R S f h = f h

here : (b : Bool) (P Q R S : Type 0) → (b ≡ true → P → S) → (Q → R ⊎ S) → IfThenElse b P Q → IfThenElse b ⊥ R ⊎ S
here true P Q R S g f h = inr (g refl h)
here false P Q R S g f h = f h

-- If Q gives R, then `IfThenElse b P Q` gives `IfThenElse b P R`. In `past`, the first part is empty.
further : (b : Bool) (P Q R : Type 0) → (Q → R) → IfThenElse b P Q → IfThenElse b P R
further true P Q R f h = h
further false P Q R f h = f h

past : (b : Bool) (P Q R : Type 0) → (Q → R) → IfThenElse b ⊥ Q → IfThenElse b P R
past true P Q R f h = absurd h
past false P Q R f h = f h

-- The label is 7 or 11.
abbrev IsVersion : LabelView → Type 0
IsVersion m = (same_label labels.counter_signature m ≡ true) ⊎ (same_label labels.countersignature_v2 m ≡ true)

module _ (s : Shape (List SignatureView)) (e : CoseError) where
  -- A fault in the value of a field is a fault of an undecoded value, or a fault of signatures.
  field_split :
      (m : LabelView) (v : Item) → (fields (unless_empty s) (unless_empty s)).faults m v e
      → (fields (optional any) (optional any)).faults m v e ⊎ (IsVersion m × s.faults v e)
  field_split m v =
      let asked : LabelView → Bool = λ l. same_label l m in
      later (asked labels.alg) _ _ _ _ (
      later (asked labels.crit) _ _ _ _ (
      later (asked labels.content_type) _ _ _ _ (
      later (asked labels.kid) _ _ _ _ (
      later (asked labels.iv) _ _ _ _ (
      later (asked labels.partial_iv) _ _ _ _ (
      here (asked labels.counter_signature) _ _ _ _ (λ b f. (inl b, f)) (
      here (asked labels.countersignature_v2) _ _ _ _ (λ b f. (inr b, f)) (λ h. inl h))))))))

  -- Conversely, a fault of an undecoded value or of signatures is a fault of the map.
  field_left : (m : LabelView) (v : Item) → (fields (optional any) (optional any)).faults m v e → (fields (unless_empty s) (unless_empty s)).faults m v e
  field_left m v =
      let asked : LabelView → Bool = λ l. same_label l m in
      further (asked labels.alg) _ _ _ (
      further (asked labels.crit) _ _ _ (
      further (asked labels.content_type) _ _ _ (
      further (asked labels.kid) _ _ _ (
      further (asked labels.iv) _ _ _ (
      further (asked labels.partial_iv) _ _ _ (
      past (asked labels.counter_signature) _ _ _ (past (asked labels.countersignature_v2) _ _ _ (λ h. h))))))))

  holds : (k : Item) (m : LabelView) → label.describes k m → IsVersion m → IsCountersignatureLabel k
  holds k m d (inl b) = inl (subst (label.describes k) (sym (cose_labels_laws.same_is labels.counter_signature m b)) d)
  holds k m d (inr b) = inr (subst (label.describes k) (sym (cose_labels_laws.same_is labels.countersignature_v2 m b)) d)

  pair_split :
      (k v : Item) → PairFaults cose_labels (fields (unless_empty s) (unless_empty s)) e k v
      → PairFaults cose_labels (fields (optional any) (optional any)) e k v ⊎ (IsCountersignatureLabel k × s.faults v e)
  pair_split k v (inl h) = inl (inl h)
  pair_split k v (inr h) = elim (field_split h.0 v h.2) [ inl g ↦ inl (inr (h.0, h.1, g)) | inr g ↦ inr (holds k h.0 h.1 g.0, g.1) ]

  pairs_split :
      (ps : Pairs) → SomePair (PairFaults cose_labels (fields (unless_empty s) (unless_empty s)) e) ps
      → SomePair (PairFaults cose_labels (fields (optional any) (optional any)) e) ps ⊎ SomePair (λ k w. IsCountersignatureLabel k × s.faults w e) ps
  pairs_split no_pairs h = absurd h
  pairs_split (pair k v ps) (inl h) = elim (pair_split k v h) [ inl g ↦ inl (inl g) | inr g ↦ inr (inl g) ]
  pairs_split (pair k v ps) (inr h) = elim (pairs_split ps h) [ inl g ↦ inl (inr g) | inr g ↦ inr (inr g) ]

  map_split : (v : Item) → (map_with (unless_empty s) (unless_empty s)).faults v e → partial_header.faults v e ⊎ SomeCounterSignatures (λ w. s.faults w e) v
  unfolding partial_header
  map_split v (inl (inl h)) = inl (inl (inl h))
  map_split v (inl (inr h)) =
      elim h.2 [
        | inl p ↦ elim (pairs_split h.0 p) [ inl g ↦ inl (inl (inr (h.0, h.1, inl g))) | inr g ↦ inr (h.0, h.1, g) ]
        | inr t ↦ inl (inl (inr (h.0, h.1, inr t)))
      ]
  map_split v (inr h) = inl (inr h)

  pair_left : (k v : Item) → PairFaults cose_labels (fields (optional any) (optional any)) e k v
      → PairFaults cose_labels (fields (unless_empty s) (unless_empty s)) e k v
  pair_left k v (inl h) = inl h
  pair_left k v (inr h) = inr (h.0, h.1, field_left h.0 v h.2)

  pairs_left :
      (ps : Pairs) → SomePair (PairFaults cose_labels (fields (optional any) (optional any)) e) ps
      → SomePair (PairFaults cose_labels (fields (unless_empty s) (unless_empty s)) e) ps
  pairs_left no_pairs h = absurd h
  pairs_left (pair k v ps) (inl h) = inl (pair_left k v h)
  pairs_left (pair k v ps) (inr h) = inr (pairs_left ps h)

  map_left : (v : Item) → partial_header.faults v e → (map_with (unless_empty s) (unless_empty s)).faults v e
  unfolding partial_header
  map_left v (inl (inl h)) = inl (inl h)
  map_left v (inl (inr h)) = inl (inr (h.0, h.1, elim h.2 [ inl p ↦ inl (pairs_left h.0 p) | inr t ↦ inr t ]))
  map_left v (inr h) = inr h

  pair_held : (k v : Item) → IsCountersignatureLabel k → s.faults v e → PairFaults cose_labels (fields (unless_empty s) (unless_empty s)) e k v
  pair_held k v (inl d) f = inr (labels.counter_signature, d, f)
  pair_held k v (inr d) f = inr (labels.countersignature_v2, d, f)

  pairs_held : (ps : Pairs) → SomePair (λ k w. IsCountersignatureLabel k × s.faults w e) ps
      → SomePair (PairFaults cose_labels (fields (unless_empty s) (unless_empty s)) e) ps
  pairs_held no_pairs h = absurd h
  pairs_held (pair k v ps) (inl h) = inl (pair_held k v h.0 h.1)
  pairs_held (pair k v ps) (inr h) = inr (pairs_held ps h)

  map_held : (v : Item) → SomeCounterSignatures (λ w. s.faults w e) v → (map_with (unless_empty s) (unless_empty s)).faults v e
  map_held v h = inl (inr (h.0, h.1, inl (pairs_held h.0 h.2)))

-- A fault found within n nested signatures is a fault of the shape.
content_faulty : (n k : ℕ) (b : List ℕ) (e : CoseError) → ContentFaults (unprotected_faults n k) b e → ContentFaults (layered_header k) b e
unfolding layered_header
content_faulty n k [] e f = f
content_faulty n k (c ∷ b) e (inl f) = inl f
content_faulty n k (c ∷ b) e (inr f) = inr (f.0, f.1, (n, f.2))

protected_faulty : (n k : ℕ) (v : Item) (e : CoseError) → (protected_faults n k).faults v e → (layered_protected k).faults v e
unfolding layered_protected
protected_faulty n zero v e f = f
protected_faulty n (suc k) v e (inl f) = inl f
protected_faulty n (suc k) v e (inr f) = inr (f.0, f.1, content_faulty n k f.0 e f.2)

unprotected_faulty : (n k : ℕ) (v : Item) (e : CoseError) → (unprotected_faults n k).faults v e → (layered_header k).faults v e
unfolding layered_header
unprotected_faulty n k v e f = (n, f)

elements_faulty :
    (n k : ℕ) (vs : Items) (e : CoseError) → (protected_faults n k then unprotected_faults n k then bstr then end).faults vs e
    → (layered_protected k then layered_header k then bstr then end).faults vs e
elements_faulty n k no_items e f = f
elements_faulty n k (item v vs) e (inl f) = inl (protected_faulty n k v e f)
elements_faulty n k (item v no_items) e (inr f) = absurd f
elements_faulty n k (item v (item w vs)) e (inr (inl f)) = inr (inl (unprotected_faulty n k w e f))
elements_faulty n k (item v (item w vs)) e (inr (inr f)) = inr (inr f)

signature_faulty :
    (n k : ℕ) (v : Item) (e : CoseError) → (signed_array (protected_faults n k) (unprotected_faults n k)).faults v e → (layered_signature k).faults v e
signature_faulty n k v e (inl f) = inl f
signature_faulty n k v e (inr f) = inr (f.0, f.1, elim f.2 [ inl m ↦ inl m | inr m ↦ inr (m.0, elements_faulty n k f.0 e m.1) ])

signatures_faulty :
    (n k : ℕ) (vs : Items) (e : CoseError) → EachFaults (signed_array (protected_faults n k) (unprotected_faults n k)).faults vs e
    → EachFaults (layered_signature k).faults vs e
signatures_faulty n k no_items e f = f
signatures_faulty n k (item v vs) e (inl f) = inl (signature_faulty n k v e f)
signatures_faulty n k (item v vs) e (inr f) = inr (signatures_faulty n k vs e f)

faulty_within : (n k : ℕ) (w : Item) (e : CoseError) → counter_signatures_faults n k w e → (signatures_within k).faults w e
faulty_within zero k w e f = absurd f
faulty_within (suc n) k w e (inl f) = inl f
faulty_within (suc n) k w e (inr f) = inr (f.0, f.1, elim f.2 [ inl m ↦ absurd m.0 | inr m ↦ inr (m.0, signatures_faulty n k f.0 e m.1) ])

some_faulty :
    (n k : ℕ) (e : CoseError) (ps : Pairs) → SomePair (λ j w. IsCountersignatureLabel j × counter_signatures_faults n k w e) ps
    → SomePair (λ j w. IsCountersignatureLabel j × (signatures_within k).faults w e) ps
some_faulty n k e no_pairs f = absurd f
some_faulty n k e (pair j w ps) (inl f) = inl (f.0, faulty_within n k w e f.1)
some_faulty n k e (pair j w ps) (inr f) = inr (some_faulty n k e ps f)

pub header_faulty : (k : ℕ) (v : Item) (e : CoseError) → (layered_header k).faults v e → (header_map (signatures_within k)).faults v e
unfolding layered_header
header_faulty k v e f =
    elim f.1 [
      | inl g ↦ map_left (signatures_within k) e v g
      | inr g ↦ map_held (signatures_within k) e v (g.0, g.1, some_faulty f.0 k e g.0 g.2)
    ]

-- A fault of the shape is found within some number of nested signatures.
some_found :
    (k : ℕ) (e : CoseError) (ps : Pairs) → SomePair (λ j w. IsCountersignatureLabel j × (signatures_within k).faults w e) ps
    → (n : ℕ) × SomePair (λ j w. IsCountersignatureLabel j × counter_signatures_faults n k w e) ps
some_found k e no_pairs f = absurd f
some_found k e (pair j w ps) (inl f) = let g = faults_read k w e f.1 in (g.0, inl (f.0, g.1))
some_found k e (pair j w ps) (inr f) = let g = some_found k e ps f in (g.0, inr g.1)

pub header_faulty_so : (k : ℕ) (v : Item) (e : CoseError) → (header_map (signatures_within k)).faults v e → (layered_header k).faults v e
unfolding layered_header
header_faulty_so k v e f =
    elim (map_split (signatures_within k) e v f) [
      | inl g ↦ (0, inl g)
      | inr g ↦ let found = some_found k e g.0 g.2 in (found.0, inr (g.0, g.1, found.1))
    ]
