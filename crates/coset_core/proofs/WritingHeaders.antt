-- Writing headers and signatures part by part.
use Rattle.std.specs.Prelude.{◌==◌, ◌≢◌, not, filter, true, false, is_some, Result, Ok, Err, IfErr, OnOk, IsErrAnd}
use Rattle.std.specs.Map.{keys_of}
use Rattle.std.proofs.Common.{◌≡◌, ℕ, ℤ, Option, Some, None, option_map, true≢false, ◌+◌, ◌<◌, ◌≤◌, ◌^◌, List, [], ◌∷◌, ◌++◌, map, take, length, refl, sym, ◌∙◌, ap}
use Rattle.std.proofs.Common.{append-nil, arith, subst}
use Rattle.std.proofs.lemmas.List.{length-append, length-map, take_all}
use Rattle.coset_value.specs.Item.{Item, integer, bytes, array, Items, no_items, item}
use Rattle.coset_value.specs.View.{items_of, value_item}
use Rattle.coset_value.specs.declared.value.Value.{Value}
use Rattle.coset_cbor.specs.Least.{Extends, least_head, least_encoding, least_encodings}
use Rattle.coset_iana.specs.HeaderParameter as parameters
use Rattle.coset_iana.specs.declared.headers.HeaderParameter.{HeaderParameter}
use Rattle.coset_iana.specs.declared.headers.HeaderParameter.TheVariants.{CounterSignature, CounterSignatureV2, CounterSignature0V2}
use Rattle.coset_codec.specs.declared.error.CoseError.{CoseError}
use Rattle.coset_codec.specs.declared.error.CoseError.TheVariants.{DuplicateMapKey}
use Rattle.coset_codec.specs.Encoding.{AppendsItem, AppendsImage, AppendsField, AppendsAll, Encodes, HasNoImage}
use Rattle.coset_codec.specs.Errors.{UnlessMemory}
use Rattle.coset_codec.specs.Maps.{are_distinct, entries_image, field_shape_image, is_nonempty, may_write, labelled_image, optional}
use Rattle.coset_codec.specs.RestLaws.{no-entries}
use Rattle.coset_codec.specs.Shape.{any, both, bstr, nonempty_bstr, images, one_or_array, present_image, some_of}
use Rattle.coset_codec.proofs.Encoding.{array-put as array-put-elements, place-put, nothing-put, and_items, images-append, images-missing}
use Rattle.coset_codec.proofs.EncodingMaps.{AppendsFields, no-field, field-put, filled-view, filled-there, map-written, pair-added}
use Rattle.coset_label.specs.Labels.{label, cose_labels, algorithm}
use Rattle.coset_label.specs.LabelData.{LabelView, number, text_label, RegisteredLabelView, assigned, private_use, text_name, same_label}
use Rattle.coset_label.specs.Views.{label_view, algorithm_view, entry_view}
use Rattle.coset_label.specs.declared.label.Label.{Label}
use Rattle.coset_core.specs.Fields.{FieldsView, fields, parts_of, partial_header, critical, content_type}
use Rattle.coset_core.specs.Headers.{HeaderView, header_of, fields_in, counter_signatures_in, countersignatures_in, ProtectedView, SignatureView, Signatures}
use Rattle.coset_core.specs.Headers.{no_signatures, signature_and, signatures_of, are_none, counter_signatures_item, header_item, signature_item, signatures_image}
use Rattle.coset_core.specs.Headers.{header_image, protected_bytes}
use Rattle.coset_core.specs.HeaderWrites.{images_signatures, signature_image_is}
use Rattle.coset_core.specs.ViewLaws.{HeaderLevel, header_level}
use Rattle.coset_core.specs.Views.{content_type_view, countersignature_view, critical_view, signature_view}
use Rattle.coset_core.specs.Written.{AppendsItems, AppendsFirst, AppendsCounterSignatures, AppendsSignatures, fields_present, count_pairs, signature_array}
use Rattle.coset_core.proofs.Signatures.{are_none_of}
use Rattle.coset_core.proofs.Writing.{items-push, array-put}

-- An error that is passed on: if it tells P, and P gives Q, then it tells Q.
pub passes : {T : Type 0} (r : Result T CoseError) (f : CoseError) (P Q : Type 0) → IsErrAnd r (λ e. e ≡ f) → (P → Q)
    → UnlessMemory f (λ g. (g ≡ DuplicateMapKey) × P) → IfErr r (λ e. UnlessMemory e (λ g. (g ≡ DuplicateMapKey) × Q))
passes (Ok x) f P Q same h tells = tt
passes (Err e) f P Q same h tells = λ other. let told = tells (λ m. other (same ∙ m)) in (same ∙ told.0, h told.1)

-- An error that is passed on: an image is missing.
pub unencoded : {T : Type 0} (r : Result T CoseError) (f : CoseError) (P : Type 0) (o : Option Item) (old new : List ℕ) → IsErrAnd r (λ e. e ≡ f)
    → (P → o ≡ None) → UnlessMemory f (λ g. (g ≡ DuplicateMapKey) × P) → Encodes o old new r
unencoded {T} (Ok x) f P o old new same h tells = absurd same
unencoded {T} (Err e) f P o old new same h tells = passes {T = T} (Err e) f P (o ≡ None) same h tells

-- ---- signatures

-- A head, the protected header's byte string, the unprotected header and the signature's bytes are the array of a
-- signature.
pub signature-put :
    (s : SignatureView) (old head mid half new : List ℕ) → head ≡ old ++ least_head 4 3 → AppendsImage (option_map bytes (protected_bytes s.protected)) head mid
    → AppendsImage (header_image s.unprotected) mid half → AppendsItem half new (bytes s.signature)
    → AppendsImage (signature_array s) old new
signature-put s old head mid half new first p u b =
    array-put-elements 3 (omega arith) first (place-put p (place-put u (place-put (bytes s.signature, refl, b) (nothing-put new))))

-- A signature has no image if a header of it has none.
pub unwritten-protected : (s : SignatureView) → option_map bytes (protected_bytes s.protected) ≡ None → signature_array s ≡ None
unwritten-protected s e = ap (λ p. signature_item p (header_image s.unprotected) s.signature) e

pub unwritten-unprotected : (s : SignatureView) → header_image s.unprotected ≡ None → signature_array s ≡ None
unwritten-unprotected s e = ap (λ u. signature_item (option_map bytes (protected_bytes s.protected)) u s.signature) e
    ∙ behind (option_map bytes (protected_bytes s.protected))
  where
    behind : (p : Option Item) → signature_item p None s.signature ≡ None
    behind (Some p) = refl
    behind None = refl

-- The byte string of a protected header's bytes is its image.
pub string-put : (p : ProtectedView) (b old new : List ℕ) → protected_bytes p ≡ Some b → AppendsItem old new (bytes b)
    → AppendsImage (option_map bytes (protected_bytes p)) old new
string-put p b old new e put = (bytes b, ap (option_map bytes) e, put)

-- ---- lists of signatures

-- The images of a list of signatures are their arrays, one after the other.
each : (ss : List SignatureView) → signatures_image (signatures_of ss) ≡ images signature_array ss
each ss = sym (images_signatures 0 ss) ∙ (λ i. images (λ x. signature_image_is 0 x i) ss)

and_items-of : (vs : List Item) (v : Item) → and_items (items_of vs) (item v no_items) ≡ items_of (vs ++ v ∷ [])
and_items-of [] v = refl
and_items-of (w ∷ vs) v = ap (item w) (and_items-of vs v)

-- One more signature.
pub signatures-push :
    (ss : List SignatureView) (s : SignatureView) (old mid new : List ℕ) → AppendsSignatures old mid ss → AppendsImage (signature_array s) mid new
    → AppendsSignatures old new (ss ++ s ∷ [])
signatures-push ss s old mid new p q =
    let so_far : images signature_array ss ≡ Some (items_of p.0) = sym (each ss) ∙ p.1 in
    let all : images signature_array (ss ++ s ∷ []) ≡ Some (items_of (p.0 ++ q.0 ∷ [])) =
    rw (images-append signature_array ss (s ∷ []), so_far, q.1) (ap Some (and_items-of p.0 q.0)) in (
      p.0 ++ q.0 ∷ [],
      each (ss ++ s ∷ []) ∙ all,
      length-append p.0 (q.0 ∷ []) ∙ (ap (λ n. n + 1) p.2 ∙ sym (length-append ss (s ∷ []))),
      items-push old mid new p.0 q.0 p.3 q.2,
    )

-- No signature so far.
pub no_signatures-put : (s : List ℕ) → AppendsSignatures s s []
no_signatures-put s = ([], refl, refl, record { in_range = tt; parts = sym (append-nil s) })

-- No signature is left.
pub signatures-done :
    {S : Type 0} (see : S → SignatureView) (ss : List S) (i : ℕ) (old new : List ℕ) → length ss ≤ i → AppendsSignatures old new (map see (take i ss))
    → AppendsSignatures old new (map see ss)
signatures-done see ss i old new le p = subst (λ ts. AppendsSignatures old new (map see ts)) (take_all i ss le) p

-- The signatures follow the old bytes.
pub signatures-kept : (ss : List SignatureView) (old new : List ℕ) → AppendsSignatures old new ss → Extends old new
signatures-kept ss old new p = (least_encodings (items_of p.0), p.3.parts)

-- If one signature has no image, the list has none.
pub signatures-none : (ss more : List SignatureView) (s : SignatureView) → signature_array s ≡ None → signatures_image (signatures_of (ss ++ s ∷ more)) ≡ None
signatures-none ss more s e = each (ss ++ s ∷ more) ∙ images-missing signature_array ss more s e

-- ---- labels 7 and 11

-- One item alone, or a head and several items.
one_or_array-put :
    (vs : List Item) (n : ℕ) (old head new : List ℕ) → not (length vs == 0) ≡ true → n ≡ length vs → n < 2 ^ 64 → (n ≡ 1 → head ≡ old)
    → (n ≢ 1 → head ≡ old ++ least_head 4 n) → AppendsItems head new vs
    → AppendsItem old new (one_or_array (items_of vs))
one_or_array-put [] n old head new h count small alone several p = absurd (true≢false (sym h))
one_or_array-put (v ∷ []) n old head new h count small alone several p =
    record { in_range = p.in_range.0; parts = p.parts ∙ rw (alone count, append-nil (least_encoding v)) refl }
one_or_array-put (v ∷ w ∷ vs) n old head new h count small alone several p =
    array-put (v ∷ w ∷ vs) n old head new count small (several (λ e. absurd (omega (arith, e, count)))) p

pub counter_signatures-put :
    (label : HeaderParameter) (ss : List SignatureView) (n : ℕ) (old mid head new : List ℕ) → not (length ss == 0) ≡ true → n ≡ length ss → n < 2 ^ 64
    → AppendsItem old mid (integer (parameters.number label)) → (n ≡ 1 → head ≡ mid)
    → (n ≢ 1 → head ≡ mid ++ least_head 4 n) → AppendsSignatures head new ss → AppendsCounterSignatures label old new (signatures_of ss)
counter_signatures-put label [] n old mid head new h count small name alone several p = absurd (true≢false (sym h))
counter_signatures-put label (s ∷ ss) n old mid head new h count small name alone several p = (
  Some (one_or_array (items_of p.0)),
  ap (option_map (λ vs. Some (one_or_array vs))) p.1,
  pair-added (integer (parameters.number label)) (one_or_array (items_of p.0)) name
      (one_or_array-put p.0 n mid head new (rw p.2 h) (count ∙ sym p.2) small alone several p.3),
)

-- Label 7 or 11 has a value exactly when there are signatures.
signatures-there : (ss : Signatures) (q : Option Items) (o : Option Item) → counter_signatures_item ss q ≡ Some o → is_some o ≡ not (are_none ss)
signatures-there no_signatures q None e = refl
signatures-there no_signatures q (Some v) e = absurd (cc)
signatures-there (signature_and b p u s more) (Some vs) (Some v) e = refl
signatures-there (signature_and b p u s more) (Some vs) None e = absurd (cc)
signatures-there (signature_and b p u s more) None o e = absurd (cc)

any-image : (o : Option Item) → field_shape_image (is_some o) (present_image (λ v. Some v) o) ≡ Some o
any-image (Some v) = refl
any-image None = refl

-- ---- values that always have an image

pub algorithm-has : (x : RegisteredLabelView) → algorithm.image x ≡ None → ⊥
unfolding algorithm
algorithm-has (assigned i) e = absurd (cc)
algorithm-has (private_use i) e = absurd (cc)
algorithm-has (text_name s) e = absurd (cc)

pub critical-has : (x : RegisteredLabelView) → critical.image x ≡ None → ⊥
unfolding critical
critical-has (assigned i) e = absurd (cc)
critical-has (private_use i) e = absurd (cc)
critical-has (text_name s) e = absurd (cc)

pub content_type-has : (x : LabelView) → content_type.image x ≡ None → ⊥
unfolding content_type
content_type-has (number i) e = absurd (cc)
content_type-has (text_label s) e = absurd (cc)

images-has : {X : Type 0} (f : X → Option Item) → ((x : X) → f x ≡ None → ⊥) → (xs : List X) → images f xs ≡ None → ⊥
images-has f has [] e = absurd (cc)
images-has f has (x ∷ xs) e = go (f x) (images f xs) (has x) (images-has f has xs) e
  where
    go : (o : Option Item) (vs : Option Items) → (o ≡ None → ⊥) → (vs ≡ None → ⊥) → both item o vs ≡ None → ⊥
    go (Some v) (Some vs) a b h = absurd (cc)
    go (Some v) None a b h = b refl
    go None vs a b h = a refl

pub list-has : {X : Type 0} (f : X → Option Item) → ((x : X) → f x ≡ None → ⊥) → (xs : List X) → option_map array (images f xs) ≡ None → ⊥
list-has f has xs e = go (images f xs) (images-has f has xs) e
  where
    go : (vs : Option Items) → (vs ≡ None → ⊥) → option_map array vs ≡ None → ⊥
    go (Some vs) h e = absurd (cc)
    go None h e = h refl

-- ---- headers

view-there : {X Y : Type 0} (see : X → Y) (o : Option X) → is_some (option_map see o) ≡ is_some o
view-there see (Some x) = refl
view-there see None = refl

-- The pair of a field, by the field's view.
pub field-view : {i j : ℤ} {o p : Option (Option Item)} (old new : List ℕ) → i ≡ j → o ≡ p → AppendsField i o old new → AppendsField j p old new
field-view {j} {o} old new e h put = subst (λ q. AppendsField j q old new) h (subst (λ (i : ℤ). AppendsField i o old new) e put)

-- The tests on a header's fields in memory are the tests on its view.
pub fields-there :
    (x : HeaderLevel)
    → is_some x.alg ∷ not (length x.crit.items == 0) ∷ is_some x.content_type ∷ not (length x.key_id.items == 0) ∷ not (length x.iv.items == 0)
    ∷ not (length x.partial_iv.items == 0)
    ∷ not (length x.counter_signatures.items == 0) ∷ not (length x.countersignatures_v2.items == 0) ∷ is_some x.countersignature0_v2 ∷ []
    ≡ fields_present (header_level x)
fields-there x = sym (λ i.
    view-there algorithm_view x.alg i ∷ filled-view critical_view x.crit.items _ refl i ∷ view-there content_type_view x.content_type i
    ∷ filled-there x.key_id.items _ refl i
    ∷ filled-there x.iv.items _ refl i ∷ filled-there x.partial_iv.items _ refl i ∷ not (are_none_of signature_view x.counter_signatures.items i)
    ∷ not (are_none_of countersignature_view x.countersignatures_v2.items i) ∷ view-there (λ b. b.items) x.countersignature0_v2 i ∷ [])

-- The map of a header is a head, the pairs of labels 1 to 6, 7, 11 and 12, and the rest.
pub map-put :
    {T : Type 0} (f : FieldsView) (ss ts : Signatures) (xs : List (Label × Value)) (old head mid s7 s11 s12 new : List ℕ) (r : Result T CoseError)
    → f.rest ≡ map entry_view xs
    → are_distinct same_label (keys_of (map entry_view xs)) ≡ true
    → count_pairs (header_of f ss ts) < 2 ^ 64
    → head ≡ old ++ least_head 5 (count_pairs (header_of f ss ts))
    → AppendsFirst head mid f
    → AppendsCounterSignatures CounterSignature mid s7 ss
    → AppendsCounterSignatures CounterSignatureV2 s7 s11 ts
    → AppendsField (parameters.number CounterSignature0V2) ((optional bstr).image f.countersignature0_v2) s11 s12
    → OnOk r (AppendsAll (labelled_image (λ l. label.image (label_view l)) (map (λ x. (x.0, value_item x.1)) xs)) s12 new)
    → IfErr r (HasNoImage (labelled_image (λ l. label.image (label_view l)) (map (λ x. (x.0, value_item x.1)) xs)))
    → Encodes (header_image (header_of f ss ts)) old new r
unfolding partial_header
map-put f ss ts xs old head mid s7 s11 s12 new r rest distinct small first six seven eleven twelve ok refused =
    let o = seven.0 in
    let p = eleven.0 in
    let there = is_some f.alg ∷ is_nonempty f.crit ∷ is_some f.content_type ∷ is_nonempty f.key_id ∷ is_nonempty f.iv ∷ is_nonempty f.partial_iv ∷ is_some o
    ∷ is_some p
    ∷ is_some f.countersignature0_v2 ∷ [] in
    let told : fields_present (header_of f ss ts) ≡ there = λ i.
    is_some f.alg ∷ is_nonempty f.crit ∷ is_some f.content_type ∷ is_nonempty f.key_id ∷ is_nonempty f.iv ∷ is_nonempty f.partial_iv
    ∷ sym (signatures-there ss (signatures_image ss) o seven.1) i ∷ sym (signatures-there ts (signatures_image ts) p eleven.1) i
    ∷ is_some f.countersignature0_v2 ∷ [] in
    let count : count_pairs (header_of f ss ts) ≡ length (filter (λ b. b) there) + length xs =
    λ i. length (filter (λ b. b) (told i)) + (ap length rest ∙ length-map xs entry_view) i in
    let fields_appended : AppendsFields LabelView label.image ((fields (optional any) (optional any)).image (parts_of (f, (o, p))).0) there head s12 =
    (field-put label.image (is_some f.alg) (present_image algorithm.image f.alg) refl six.alg
    (field-put label.image (is_nonempty f.crit) ((some_of critical).image f.crit) refl six.crit
    (field-put label.image (is_some f.content_type) (present_image content_type.image f.content_type) refl six.content_type
    (field-put label.image (is_nonempty f.key_id) (nonempty_bstr.image f.key_id) refl six.key_id
    (field-put label.image (is_nonempty f.iv) (nonempty_bstr.image f.iv) refl six.iv
    (field-put label.image (is_nonempty f.partial_iv) (nonempty_bstr.image f.partial_iv) refl six.partial_iv
    (field-put label.image (is_some o) (present_image (λ v. Some v) o) refl (o, any-image o, seven.2)
    (field-put label.image (is_some p) (present_image (λ v. Some v) p) refl (p, any-image p, eleven.2)
    (field-put label.image (is_some f.countersignature0_v2) (present_image bstr.image f.countersignature0_v2) refl twelve
    (no-field label.image s12)))))))))) in
    subst (λ i. Encodes i old new r) (λ i. header_item f (sym seven.1 i) (sym eleven.1 i))
    (subst (λ es. Encodes (entries_image cose_labels (may_write cose_labels true es) es
    ((fields (optional any) (optional any)).image (parts_of (f, (o, p))).0)) old new r)
    (sym rest)
    (map-written cose_labels label_view value_item xs (may_write cose_labels true (map entry_view xs)) there old new r distinct
    (subst (λ k. k < 2 ^ 64) count small)
    (first ∙ ap (λ k. old ++ least_head 5 k) count) fields_appended ok refused))

-- A header has no image if a label of its rest repeats, or if signatures of either version have no image.
pub unwritten-rest : (h : HeaderView) → are_distinct same_label (keys_of (fields_in h).rest) ≡ false → header_image h ≡ None
unfolding partial_header
unwritten-rest (header_of f ss ts) e = by (counter_signatures_item ss (signatures_image ss)) (counter_signatures_item ts (signatures_image ts))
  where
    by : (o p : Option (Option Item)) → header_item f o p ≡ None
    by (Some o) (Some p) = no-entries cose_labels f.rest _ e
    by (Some o) None = refl
    by None p = refl

none_item : (ss : Signatures) → signatures_image ss ≡ None → counter_signatures_item ss (signatures_image ss) ≡ None
none_item no_signatures e = absurd (true≢false (ap is_some e))
none_item (signature_and b p u s more) e = ap (option_map (λ vs. Some (one_or_array vs))) e

pub unwritten-counter_signatures : (h : HeaderView) → signatures_image (counter_signatures_in h) ≡ None → header_image h ≡ None
unwritten-counter_signatures (header_of f ss ts) e = ap (λ o. header_item f o (counter_signatures_item ts (signatures_image ts))) (none_item ss e)

pub unwritten-countersignatures : (h : HeaderView) → signatures_image (countersignatures_in h) ≡ None → header_image h ≡ None
unwritten-countersignatures (header_of f ss ts) e = ap (header_item f (counter_signatures_item ss (signatures_image ss))) (none_item ts e)
    ∙ behind (counter_signatures_item ss (signatures_image ss))
  where
    behind : (o : Option (Option Item)) → header_item f o None ≡ None
    behind (Some o) = refl
    behind None = refl
