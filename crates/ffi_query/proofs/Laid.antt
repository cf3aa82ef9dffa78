-- Messages that are laid out.
use Rattle.std.proofs.Common.{◌≡◌, ◌∙◌, ℕ, ℤ, pos, List, [], ◌∷◌, Option, Some, None, Result, Err, Bool, true, false}
use Rattle.std.proofs.Common.{true≢false, cond, refl, sym, ap, subst, inl, inr}
use Rattle.std.specs.Option.{option_copied}
use Rattle.coset.specs.Grammar.{IsItem}
use Rattle.coset.specs.Item.{Item, Items, Pairs, array, bytes, dict, null, tag}
use Rattle.coset.specs.LabelData.{number}
use Rattle.coset.specs.Labels.{algorithm}
use Rattle.coset.specs.Parts.{as_tag}
use Rattle.coset.specs.PerhapsTagged.{DescribesNoTag, plain_is_perhaps, tagged_is_perhaps, untagged}
use Rattle.coset.specs.Results.{Describes}
use Rattle.coset.specs.Shortest.{IsShortest}
use Rattle.coset.specs.Shape.{Shape}
use Rattle.coset.specs.ShapeLaws.{some-none, some-one}
use Rattle.coset.specs.Encrypt0.{encrypt0}
use Rattle.coset.specs.Mac0.{mac0}
use Rattle.coset.specs.Sign1.{sign1}
use Rattle.coset_seen.specs.declared.kind.Kind as seen
use Rattle.coset_seen.specs.declared.kind.Kind.TheVariants as plain
use Rattle.coset_seen.specs.declared.message.KeyId.{KeyId}
use Rattle.coset_seen.specs.declared.message.Part.{Part}
use Rattle.coset_seen.specs.declared.message.Layout.{Layout}
use Rattle.coset_seen.specs.Elements.{IsFilledMapOf, IsProof, content_item, laid_items, perhaps_tag}
use Rattle.coset_seen.specs.Kinds.{tag_of as seen_tag}
use Rattle.coset_seen.specs.Labels.{NamesAlgorithm}
use Rattle.coset_seen.specs.Layout.{IsDescribed}
use Rattle.coset_seen.specs.Named.{value_of}
use Rattle.coset_seen.specs.declared.structure.StructureError.{StructureError}
use Rattle.coset_seen.specs.declared.structure.StructureError.TheVariants.{NoContent, TwoContents}
use Rattle.coset_seen.specs.Puts.{PutsTexts}
use Rattle.coset_seen.specs.Structures.{PutsItem, structure_of}
use Rattle.coset_seen.specs.Seen.{PutsStructure, IsUnderKid, bytes_of, in_form as seen_form}
use Rattle.ffi_query.specs.declared.kind.Form as forms
use Rattle.ffi_query.specs.declared.kind.Form.TheVariants.{Plain, Tagged, Either}
use Rattle.ffi_query.specs.declared.kind.Kind as kinds
use Rattle.ffi_query.specs.declared.kind.Kind.TheVariants.{Sign1, Sign, Mac0, Mac, Encrypt0, Encrypt, Signature, Recipient}
use Rattle.ffi_query.specs.declared.kind.Kind.TheVariants.{Header, Key, KeySet, Claims, Any, KdfContext}
use Rattle.ffi_query.specs.declared.borrowed.Texts.{Texts}
use Rattle.ffi_query.specs.Borrowed.{AreTexts, HasNoCritical, IsAttached, IsSigned, KnowsAlgorithm, KnowsKeyId, structure_by}
use Rattle.ffi_query.specs.Kinds.{IsItemOf, IsOf, TellsTag, TellsTagOf, in_form, tag_of, without_tag}
use Rattle.ffi_query.specs.Labels.{IsUnderIn, value_under}
use Rattle.ffi_query.specs.Located.{IsTextIn}
use Rattle.ffi_query.specs.Results.{IsEncodingOf}
use Rattle.ffi_query.specs.Seen.{IsAllowed, IsLaidOf, IsSeenOf, algorithm_of, key_id_bytes, both_given, key_id_place, kind_in}
use Rattle.ffi_query.specs.Seen.{or_nothing, place_by, seen_item, signed_of}
use Rattle.ffi_query.specs.Structures.{is_given_twice}
use Rattle.ffi_query.specs.View.{proof_in}
use Rattle.ffi_query.proofs.Valued.{OneItem, same_item}
use Rattle.ffi_query.proofs.Viewed.{same_number}

none_is : {A : Type 0} {x : A} → None ≡ Some x → ⊥
none_is p = some-none refl (sym p)

some_is : {A : Type 0} {x y : A} → Some x ≡ Some y → x ≡ y
some_is p = some-one refl p

no_empty : OneItem → (v : Item) → IsItem [] v → ⊥
no_empty one v x =
    let nil : List ℕ = 0xF6 ∷ [] in
    cons_empty 0xF6 (one v null [] nil nil [] x.0 refl refl).1
  where
    cons_empty : (n : ℕ) → [] ≡ n ∷ [] → ⊥
    cons_empty n e = absurd (cc)

-- ---- the values under labels

there_under : (n : ℤ) (p : List ℕ) (ps : Pairs) (w : Item) → IsFilledMapOf p ps → value_of n ps ≡ Some w → IsUnderIn (number n) p w
there_under n p ps w (inl e) h = absurd (none_is (sym (ap (value_of n) e.1) ∙ h))
there_under n p ps w (inr is) h = (dict ps, is.1, h)

absent_under : OneItem → (n : ℤ) (p : List ℕ) (ps : Pairs) → IsFilledMapOf p ps → value_of n ps ≡ None → (w : Item) → IsUnderIn (number n) p w → ⊥
absent_under one n p ps (inl e) h w u = no_empty one u.0 (subst (λ b. IsItem b u.0) e.0 u.1)
absent_under one n p ps (inr is) h w u =
    none_is (sym h ∙ (ap (value_under (number n)) (same_item one p (dict ps) u.0 is.1 u.1) ∙ u.2))

-- ---- the algorithm, crit and the key identifier

module _
    (one : OneItem) (k : seen.Kind) (p : List ℕ) (ps us : Pairs) (c : Option (List ℕ)) (t : List ℕ) (r : Item) (is : IsFilledMapOf p ps)
  where
    abbrev message : Item
    message = array (laid_items k p us c t r)

    algorithm_known : (o : Option ℤ) (z : Bool) → NamesAlgorithm (value_of (pos 1) ps) o z → KnowsAlgorithm message (algorithm_of o z)
    algorithm_known (Some n) z h = (h.0, there_under (pos 1) p ps h.0 is h.1, h.2)
    algorithm_known None true h = (h.0, there_under (pos 1) p ps h.0 is h.1, h.2)
    algorithm_known None false h = absent_under one (pos 1) p ps is h

    uncritical : (value_of (pos 2) ps ≡ None) × (value_of (pos 2) us ≡ None) → HasNoCritical message
    uncritical h = (absent_under one (pos 2) p ps is h.0, h.1)

    key_id_known : (o : Option KeyId) → IsUnderKid ps us o → KnowsKeyId message (key_id_place o) (key_id_bytes o)
    key_id_known None h = (absent_under one (pos 4) p ps is h.0, h.1, refl)
    key_id_known (Some i) (inl h) =
        subst (λ x. KnowsKeyId message x i.part.bytes.now) (sym (ap place_by h.0))
        (bytes i.part.bytes.now, there_under (pos 4) p ps (bytes i.part.bytes.now) is h.1, refl)
    key_id_known (Some i) (inr h) =
        subst (λ x. KnowsKeyId message x i.part.bytes.now) (sym (ap place_by h.0))
        (absent_under one (pos 4) p ps is h.1, (bytes i.part.bytes.now, h.2, refl))

attached : (o : Option (List ℕ)) → IsAttached (content_item o) (or_nothing o)
attached None = inr (refl, refl)
attached (Some x) = inl refl

-- ---- the kind

in_form_is :
    {A : Type 0} (s : Shape A) (n : ℕ) (b : List ℕ) (x : A) (f : forms.Form) (t : Bool) → DescribesNoTag n s → IsAllowed f t
    → Describes (seen_form t n s) b x → Describes (in_form f n s) b x
in_form_is s n b x Plain true none e d = absurd (true≢false e)
in_form_is s n b x Plain false none e d = d
in_form_is s n b x Tagged true none e d = d
in_form_is s n b x Tagged false none e d = absurd (true≢false (sym e))
in_form_is s n b x Either true none e d = (d.0, d.1, tagged_is_perhaps n s d.0 x d.2)
in_form_is s n b x Either false none e d = (d.0, d.1, plain_is_perhaps n s none d.0 x d.2)

-- Consequences of a message's kind. P holds of no other kind.
by_kind :
    (k : kinds.Kind) (kind : seen.Kind) (form : forms.Form) (P : kinds.Kind → seen.Kind → forms.Form → Type 0) → kind_in k ≡ Some (kind, form)
    → ((f : forms.Form) → P (Sign1 f) plain.Sign1 f) → ((f : forms.Form) → P (Mac0 f) plain.Mac0 f)
    → ((f : forms.Form) → P (Encrypt0 f) plain.Encrypt0 f) → ((f : forms.Form) → P (Mac f) plain.Mac f)
    → ((f : forms.Form) → P (Encrypt f) plain.Encrypt f)
    → P k kind form
by_kind k kind form P is one two three four five = go k is
  where
    of :
        (k : kinds.Kind) (z : seen.Kind) (f : forms.Form) → ◌≡◌ {A = Option (seen.Kind × forms.Form)} (Some (z, f)) (Some (kind, form)) → P k z f
        → P k kind form
    of k z f e x = subst (λ y. P k y.0 y.1) (some_is e) x

    go : (k : kinds.Kind) → kind_in k ≡ Some (kind, form) → P k kind form
    go (Sign1 f) is = of (Sign1 f) plain.Sign1 f is (one f)
    go (Mac0 f) is = of (Mac0 f) plain.Mac0 f is (two f)
    go (Encrypt0 f) is = of (Encrypt0 f) plain.Encrypt0 f is (three f)
    go (Mac f) is = of (Mac f) plain.Mac f is (four f)
    go (Encrypt f) is = of (Encrypt f) plain.Encrypt f is (five f)
    go (Sign f) is = absurd (none_is is)
    go Signature is = absurd (none_is is)
    go Recipient is = absurd (none_is is)
    go Header is = absurd (none_is is)
    go Key is = absurd (none_is is)
    go KeySet is = absurd (none_is is)
    go Claims is = absurd (none_is is)
    go Any is = absurd (none_is is)
    go KdfContext is = absurd (none_is is)

-- A message whose headers are valid, and which has no recipients, is one of its kind.
pub is_of : (k : kinds.Kind) (b : List ℕ) (x : Layout) (h : IsLaidOf k b x) → IsDescribed h.kind b x.seen → IsOf k b
is_of k b x h d =
    let t = x.seen.is_tagged in
    by_kind k h.kind h.form (λ j z f. IsAllowed f t → IsDescribed z b x.seen → IsOf j b) h.is_kind
    (λ f a y. (_, in_form_is sign1 18 b _ f t (λ w v e. none_is e.1) a y.2))
    (λ f a y. (_, in_form_is mac0 17 b _ f t (λ w v e. none_is e.1) a y.2))
    (λ f a y. (_, in_form_is encrypt0 16 b _ f t (λ w v e. none_is e.1) a y.2.0)) (λ f a y. absurd y.2) (λ f a y. absurd y.2) h.allowed d

inside : (n : ℕ) (t : Bool) (vs : Items) → array vs ≡ untagged n (perhaps_tag t n (array vs))
inside n true vs = sym (ap (λ b. cond b (array vs) (tag n (array vs))) (same_number n))
inside n false vs = refl

tags : (k : kinds.Kind) (kind : seen.Kind) (form : forms.Form) → kind_in k ≡ Some (kind, form) → tag_of k ≡ Some (seen_tag kind)
tags k kind form is = by_kind k kind form (λ j z f. tag_of j ≡ Some (seen_tag z)) is (λ f. refl) (λ f. refl) (λ f. refl) (λ f. refl) (λ f. refl)

module _ (k : kinds.Kind) (b : List ℕ) (x : Layout) (h : IsSeenOf k b x) where
  abbrev l : IsLaidOf k b x
  l = h.laid

  abbrev p : List ℕ
  p = x.seen.protected.bytes.now

  abbrev c : Option (List ℕ)
  c = bytes_of x.seen.content

  abbrev t : List ℕ
  t = x.seen.proof.bytes.now

  pub item_of : IsItemOf k b (seen_item h)
  item_of = record {
    whole = perhaps_tag x.seen.is_tagged (seen_tag l.kind) (seen_item h);
    is_item = l.lies.is_item;
    is_of = h.is_of;
    is_inside = subst (λ o. seen_item h ≡ without_tag o (perhaps_tag x.seen.is_tagged (seen_tag l.kind) (seen_item h))) (sym (tags k l.kind l.form l.is_kind))
        (inside (seen_tag l.kind) x.seen.is_tagged _);
  }

  pub tells_of : OneItem → TellsTagOf (tag_of k) b x.seen.is_tagged
  tells_of one =
      subst (λ o. TellsTagOf o b x.seen.is_tagged) (sym (tags k l.kind l.form l.is_kind)) (go x.seen.is_tagged (seen_tag l.kind) _ l.lies.is_item)
    where
      go : (t : Bool) (n : ℕ) (vs : Items) → IsItem b (perhaps_tag t n (array vs)) → TellsTag n b t
      go true n vs is = (array vs, is)
      go false n vs is = λ u. none_is (ap as_tag (same_item one b (array vs) (tag n u.0) is u.1))

  pub once_of : (d : Option (List ℕ)) → both_given c d ≡ false → is_given_twice k d (seen_item h) ≡ false
  once_of d e =
      by_kind k l.kind l.form (λ j z f. is_given_twice j d (array (laid_items z p l.lies.second c t l.lies.recipients)) ≡ false) l.is_kind
      (λ f. once (Sign1 f) (λ o. array (laid_items plain.Sign1 p l.lies.second o t l.lies.recipients)) (λ o. refl) (λ y. refl) c d e)
      (λ f. once (Mac0 f) (λ o. array (laid_items plain.Mac0 p l.lies.second o t l.lies.recipients)) (λ o. refl) (λ y. refl) c d e)
      (λ f. once (Encrypt0 f) (λ o. array (laid_items plain.Encrypt0 p l.lies.second o t l.lies.recipients)) (λ o. refl) (λ y. refl) c d e)
      (λ f. once (Mac f) (λ o. array (laid_items plain.Mac p l.lies.second o t l.lies.recipients)) (λ o. refl) (λ y. refl) c d e)
      (λ f. once (Encrypt f) (λ o. array (laid_items plain.Encrypt p l.lies.second o t l.lies.recipients)) (λ o. refl) (λ y. refl) c d e)
    where
      once : (j : kinds.Kind) (m : Option (List ℕ) → Item) → ((o : Option (List ℕ)) → is_given_twice j None (m o) ≡ false)
          → ((y : List ℕ) → is_given_twice j (Some y) (m None) ≡ false)
          → (o d : Option (List ℕ)) → both_given o d ≡ false → is_given_twice j d (m o) ≡ false
      once j m none some o None e = none o
      once j m none some None (Some y) e = some y
      once j m none some (Some q) (Some y) e = absurd (true≢false e)

  -- ---- the texts

  proof_of : proof_in k (seen_item h) ≡ Some t
  proof_of =
      by_kind k l.kind l.form
      (λ j z f. IsProof z t → proof_in j (array (laid_items z p l.lies.second c t l.lies.recipients)) ≡ Some t) l.is_kind (λ f x. refl) (λ f x. refl)
      (λ f x. ap Some (sym x)) (λ f x. refl) (λ f x. ap Some (sym x)) l.lies.is_proof

  signed_is : (c d : Option (List ℕ)) → IsSigned (content_item c) d (signed_of c d)
  signed_is (Some c) None = refl
  signed_is None (Some d) = refl
  signed_is (Some c) (Some d) = tt
  signed_is None None = tt

  pub texts_are :
      OneItem → (d : Option (List ℕ)) (y : Texts) → y.protected ≡ x.seen.protected.bytes → y.algorithm ≡ algorithm_of x.seen.algorithm x.has_text
      → y.proof.bytes.now ≡ t → IsTextIn b y.proof → y.content.bytes.now ≡ or_nothing c → IsTextIn b y.content
      → y.key_id.place ≡ key_id_place x.seen.key_id → y.key_id.text.bytes.now ≡ key_id_bytes x.seen.key_id → IsTextIn b y.key_id.text
      → option_copied y.signed ≡ signed_of c d → AreTexts k d b (seen_item h) y
  texts_are one d y protected algorithm proof proof_in content content_in place key_id key_id_in signed =
      let v = seen_item h in
      let m = l.lies in record {
        place = content_item c;
        is_protected = ap (λ q. Some q.now) (sym protected);
        is_algorithm = subst (KnowsAlgorithm v) (sym algorithm)
            (algorithm_known one l.kind p m.first m.second c t m.recipients m.is_first x.seen.algorithm x.has_text m.algorithm);
        is_place = refl;
        is_uncritical = uncritical one l.kind p m.first m.second c t m.recipients m.is_first (m.critical h.is_uncritical);
        is_proof = proof_of ∙ ap Some (sym proof);
        proof_in_b = proof_in;
        is_content = subst (IsAttached (content_item c)) (sym content) (attached c);
        content_in_b = content_in;
        is_key_id = subst (λ q. KnowsKeyId v q y.key_id.text.bytes.now) (sym place)
            (subst (KnowsKeyId v (key_id_place x.seen.key_id)) (sym key_id)
            (key_id_known one l.kind p m.first m.second c t m.recipients m.is_first x.seen.key_id m.key_id));
        key_id_in_b = key_id_in;
        is_signed = subst (IsSigned (content_item c) d) (sym signed) (signed_is c d);
      }

  -- ---- the structure

  abbrev NoError : Result ℕ StructureError → Type 0
  NoError r = (r ≡ Err NoContent → ⊥) × (r ≡ Err TwoContents → ⊥)

  -- The structure of a message was written, over the carried content or the given one.
  pub structure_of_seen :
      (aad old new : List ℕ) (d : Option (List ℕ)) (r : Result ℕ StructureError) → PutsStructure x.seen aad x.seen.content d old new r → NoError r
      → (s : List ℕ) × IsEncodingOf (structure_by k aad p (signed_of c d)) s × PutsTexts s old new r
  structure_of_seen aad old new d r puts none =
      let o = content x.seen.content d puts in
      let s : List ℕ = o.2.0 in
      let encoded =
      by_kind k l.kind l.form (λ j z f. IsShortest s (structure_of z p aad o.0) → IsEncodingOf (structure_by j aad p (Some o.0)) s) l.is_kind
      (λ f y. (_, refl, y)) (λ f y. (_, refl, y)) (λ f y. (_, refl, y)) (λ f y. (_, refl, y)) (λ f y. (_, refl, y))
      (subst (λ z. IsShortest s (structure_of z p aad o.0)) l.lies.kind o.2.1) in
      (s, subst (λ q. IsEncodingOf (structure_by k aad p q) s) (sym o.1) encoded, o.2.2)
    where
      content : (o : Option Part) (d : Option (List ℕ)) → PutsStructure x.seen aad o d old new r
          → (c : List ℕ) × (signed_of (bytes_of o) d ≡ Some c) × PutsItem (structure_of x.seen.kind p aad c) old new r
      content (Some q) None y = (q.bytes.now, refl, y)
      content None (Some e) y = (e, refl, y)
      content (Some q) (Some e) y = absurd (none.1 y.0)
      content None None y = absurd (none.0 y.0)
