-- The parts borrowed from the input b to verify or decrypt a message.
use Rattle.std.proofs.Common.{◌≡◌, ◌∙◌, ◌++◌, ◌+◌, ℕ, ℤ, List, length, Option, Some}
use Rattle.std.proofs.Common.{None, Result, Ok, Err, Bool, true, false, ap, sym, subst, refl, inl, inr, arith}
use Rattle.std.proofs.lemmas.List.{length-append}
use Rattle.std.specs.Option.{option_copied}
use Rattle.std.specs.Prelude.{IfOk, IfSome, codes, option_and_then}
use Rattle.coset.specs.Item.{Item, integer, bytes, float, text, boolean, null, tag, array, dict}
use Rattle.coset.specs.Parts.{as_bytes}
use Rattle.coset.specs.ShapeLaws.{some-none}
use Rattle.ffi_query.specs.declared.kind.Kind as kinds
use Rattle.ffi_query.specs.declared.kind.Kind.TheVariants.{Sign1, Sign, Mac0, Mac, Encrypt0, Encrypt, Signature, Recipient}
use Rattle.ffi_query.specs.declared.kind.Kind.TheVariants.{Header, Key, KeySet, Claims, Any, KdfContext}
use Rattle.ffi_query.specs.declared.borrowed.Borrowed as declared
use Rattle.ffi_query.specs.declared.borrowed.Texts.{Texts}
use Rattle.ffi_query.specs.declared.located.Text.{Text}
use Rattle.ffi_query.specs.declared.view.Algorithm as algorithms
use Rattle.ffi_query.specs.declared.view.Algorithm.TheVariants as named
use Rattle.ffi_query.specs.declared.view.KeyIdPlace as places
use Rattle.ffi_query.specs.declared.view.KeyIdPlace.TheVariants as found
use Rattle.ffi_query.specs.declared.view.MessageView.{MessageView}
use Rattle.ffi_query.specs.Results.{IsEncodingOf}
use Rattle.ffi_query.specs.Critical.{IsCriticalIn, IsCriticalOf}
use Rattle.ffi_query.specs.Kinds.{IsItemOf, TellsTagOf, tag_of}
use Rattle.ffi_query.specs.Borrowed.{AreTexts, HasNoCritical, IsAttached, IsBorrowed, IsBorrowedOf, IsSigned, KnowsAlgorithm}
use Rattle.ffi_query.specs.Borrowed.{KnowsKeyId, Says, structure_by}
use Rattle.ffi_query.specs.Parts.{content_part, has_headers, place_of}
use Rattle.ffi_query.specs.Places.{bytes_in, element, string_in}
use Rattle.ffi_query.specs.Structures.{IsStructure, is_given_twice, content_in, content_structure, encryption_structure}
use Rattle.ffi_query.specs.Structures.{structure_of_one, structure_of_two}
use Rattle.ffi_query.specs.View.{HasAlgorithm, IsContent, IsKeyId, bearer, kind_of_bearer, proof_in}

none_is : {A : Type 0} {x : A} → None ≡ Some x → ⊥
none_is p = some-none refl (sym p)

-- ---- the algorithm, crit and the key identifier of an item with two headers

module _ (k : kinds.Kind) (v : Item) (has : has_headers k ≡ true) where
  algorithm_known : (a : algorithms.Algorithm) → KnowsAlgorithm v a → HasAlgorithm k v a
  algorithm_known named.Absent h = λ w u. h w u.1
  algorithm_known (named.Number n) h = (h.0, (has, h.1), h.2)
  algorithm_known named.Text h = (h.0, (has, h.1), h.2)

  uncritical_known : (ns : List ℤ) → HasNoCritical v → IsCriticalIn k ns v false true
  uncritical_known ns h = (
    (λ x. h.0 x.0 x.1.1, λ x. none_is (sym h.1 ∙ x.1.1)),
    (λ x. none_is (sym h.1 ∙ x.1.1), inl (λ x. h.0 x.0 x.1.1)),
  )

  string_of : (w : Item) (t : List ℕ) → as_bytes w ≡ Some t → string_in w ≡ Some t
  string_of (bytes s) t e = e
  string_of (integer n) t e = absurd (none_is e)
  string_of (float x) t e = absurd (none_is e)
  string_of (text s) t e = absurd (none_is e)
  string_of (boolean b) t e = absurd (none_is e)
  string_of null t e = absurd (none_is e)
  string_of (tag n u) t e = absurd (none_is e)
  string_of (array vs) t e = absurd (none_is e)
  string_of (dict ps) t e = absurd (none_is e)

  key_id_known : (p : places.KeyIdPlace) (t : List ℕ) → KnowsKeyId v p t → IsKeyId k v p t
  key_id_known found.Absent t h = (λ s x. h.0 x.0 x.1.1, λ s x. none_is (sym h.1 ∙ x.1.1), h.2)
  key_id_known found.Protected t h = (h.0, (has, h.1), string_of h.0 t h.2)
  key_id_known found.Unprotected t h = (λ s x. h.0 x.0 x.1.1, (h.1.0, (has, h.1.1), string_of h.1.0 t h.1.2))

content_known :
    (k : kinds.Kind) (v place : Item) (t : List ℕ) → place_of (content_part k) k ≡ Some 2 → element 2 v ≡ Some place → IsAttached place t
    → IsContent k v t
content_known k v place t e f h =
    let same : option_and_then (λ n. bytes_in n v) (place_of (content_part k) k) ≡ as_bytes place =
    ap (option_and_then (λ n. bytes_in n v)) e ∙ ap (option_and_then as_bytes) f in
    elim h [
      | inl is ↦ inl (same ∙ is)
      | inr none ↦ inr (λ s p. none_is (sym (ap as_bytes none.0) ∙ (sym same ∙ p)), none.1)
    ]

-- ---- the structure

module _ (context aad p t : List ℕ) (d : Option (List ℕ)) (v place : Item) (is : bytes_in 0 v ≡ Some p) where
  over : (c : Option (List ℕ)) → element 2 v ≡ Some place → IsSigned place d c → IsEncodingOf (structure_of_two context aad (Some p) c) t
      → IsEncodingOf (content_structure context aad d v) t
  over None e s h = absurd (none_is h.1)
  over (Some x) e s h =
      let content : content_in (element 2 v) d ≡ Some x = ap (λ o. content_in o d) e ∙ s in
      let same : content_structure context aad d v ≡ structure_of_two context aad (Some p) (Some x) =
      ap (λ o. structure_of_two context aad o (content_in (element 2 v) d)) is ∙ ap (structure_of_two context aad (Some p)) content in
      subst (λ o. IsEncodingOf o t) (sym same) h

  beside : IsEncodingOf (structure_of_one context aad (Some p)) t → IsEncodingOf (encryption_structure context aad v) t
  beside h = subst (λ o. IsEncodingOf o t) (sym (ap (structure_of_one context aad) is)) h

-- ---- the whole view

total : (s p c t : List ℕ) (n a q d e : ℕ) → n ≡ a + (q + (d + e)) → a ≡ length s → q ≡ length p → d ≡ length c → e ≡ length t
    → n ≡ length (s ++ (p ++ (c ++ t)))
total s p c t n a q d e is f g h i =
    let x = length-append s (p ++ (c ++ t)) in
    let y = length-append p (c ++ t) in
    let z = length-append c t in
    omega (arith, is, f, g, h, i, x, y, z)

module _
    (b aad s : List ℕ) (i : ℕ) (d : Option (List ℕ)) (ns : List ℤ) (v : Item) (n : MessageView)
    (x : Texts) (is_algorithm : KnowsAlgorithm v n.algorithm) (is_place : n.key_id_place ≡ x.key_id.place)
    (is_none : n.has_critical ≡ false) (is_all : n.is_understood ≡ true) (structure_len : n.structure_len ≡ length s)
    (proof_len : n.proof_len ≡ length x.proof.bytes.now) (content_len : n.content_len ≡ length x.content.bytes.now)
    (key_id_len : n.key_id_len ≡ length x.key_id.text.bytes.now)
    (len : n.len ≡ n.structure_len + (n.proof_len + (n.content_len + n.key_id_len))) where
  says_by :
      (k : kinds.Kind) (texts : AreTexts k d b v x) → has_headers k ≡ true → bearer k i v ≡ Some v → kind_of_bearer k ≡ k
      → place_of (content_part k) k ≡ Some 2
      → (IsCriticalIn k ns v false true → IsCriticalOf k ns v v false true)
      → IsStructure k i aad d v s
      → Says k i aad d ns v n s x.proof.bytes.now x.content.bytes.now x.key_id.text.bytes.now
  says_by k texts has one same place critical is = record {
    text = s ++ (x.proof.bytes.now ++ (x.content.bytes.now ++ x.key_id.text.bytes.now));
    view = record {
      signer = v;
      signed = s;
      proof = x.proof.bytes.now;
      content = x.content.bytes.now;
      key_id = x.key_id.text.bytes.now;
      is_signed = is;
      is_signer = one;
      is_proof = subst (λ j. proof_in j v ≡ Some x.proof.bytes.now) (sym same) texts.is_proof;
      is_content = content_known k v texts.place x.content.bytes.now place texts.is_place texts.is_content;
      is_key_id =
          subst (λ j. IsKeyId j v n.key_id_place x.key_id.text.bytes.now) (sym same)
          (subst (λ q. IsKeyId k v q x.key_id.text.bytes.now) (sym is_place) (key_id_known k v has x.key_id.place x.key_id.text.bytes.now texts.is_key_id));
      is_text = refl;
      is_algorithm = subst (λ j. HasAlgorithm j v n.algorithm) (sym same) (algorithm_known k v has n.algorithm is_algorithm);
      is_critical =
          subst (λ q. IsCriticalOf k ns v v q n.is_understood) (sym is_none)
          (subst (λ q. IsCriticalOf k ns v v false q) (sym is_all) (critical (uncritical_known k v has ns texts.is_uncritical)));
      structure_len = structure_len;
      proof_len = proof_len;
      content_len = content_len;
      key_id_len = key_id_len;
      len = total s x.proof.bytes.now x.content.bytes.now x.key_id.text.bytes.now n.len n.structure_len n.proof_len n.content_len n.key_id_len
          len structure_len proof_len content_len key_id_len;
    };
    is_signed = refl;
    is_proof = refl;
    is_content = refl;
    is_key_id = refl;
  }

  pub says_of :
      (k : kinds.Kind) (texts : AreTexts k d b v x)
      → IsEncodingOf (structure_by k aad x.protected.now (option_copied x.signed)) s
      → Says k i aad d ns v n s x.proof.bytes.now x.content.bytes.now x.key_id.text.bytes.now
  says_of (Sign1 f) a h =
      says_by (Sign1 f) a refl refl refl refl (λ c. c)
      (over (codes "Signature1") aad x.protected.now s d v a.place a.is_protected (option_copied x.signed) a.is_place a.is_signed h)
  says_of (Mac0 f) a h =
      says_by (Mac0 f) a refl refl refl refl (λ c. c)
      (over (codes "MAC0") aad x.protected.now s d v a.place a.is_protected (option_copied x.signed) a.is_place a.is_signed h)
  says_of (Mac f) a h =
      says_by (Mac f) a refl refl refl refl (λ c. c)
      (over (codes "MAC") aad x.protected.now s d v a.place a.is_protected (option_copied x.signed) a.is_place a.is_signed h)
  says_of (Encrypt0 f) a h =
      says_by (Encrypt0 f) a refl refl refl refl (λ c. c)
      (beside (codes "Encrypt0") aad x.protected.now s d v a.place a.is_protected h)
  says_of (Encrypt f) a h =
      says_by (Encrypt f) a refl refl refl refl (λ c. c)
      (beside (codes "Encrypt") aad x.protected.now s d v a.place a.is_protected h)
  says_of (Sign f) a h = absurd (none_is h.1)
  says_of Signature a h = absurd (none_is h.1)
  says_of Recipient a h = absurd (none_is h.1)
  says_of Header a h = absurd (none_is h.1)
  says_of Key a h = absurd (none_is h.1)
  says_of KeySet a h = absurd (none_is h.1)
  says_of Claims a h = absurd (none_is h.1)
  says_of Any a h = absurd (none_is h.1)
  says_of KdfContext a h = absurd (none_is h.1)

-- ---- borrowed messages

-- A consequence of two facts about what was made, if it was.
both_made :
    {T E : Type 0} (r : Result (Option T) E) (P Q R : T → Type 0) → ((x : T) → P x → Q x → R x) → IfOk r (λ o. IfSome o P) → IfOk r (λ o. IfSome o Q)
    → IfOk r (λ o. IfSome o R)
both_made (Ok (Some x)) P Q R f p q = f x p q
both_made (Ok None) P Q R f p q = p
both_made (Err e) P Q R f p q = p

pub borrowed_of :
    {E : Type 0} (k : kinds.Kind) (i : ℕ) (aad : List ℕ) (d : Option (List ℕ)) (ns : List ℤ) (b : List ℕ) (v : Item) (t : Bool)
    (r : Result (Option declared.Borrowed) E) → IsItemOf k b v → TellsTagOf (tag_of k) b t → is_given_twice k d v ≡ false
    → IfOk r (λ o. IfSome o (IsBorrowed k i aad d ns b v)) → IfOk r (λ o. IfSome o (λ x. x.view.is_tagged ≡ t))
    → IfOk r (λ o. IfSome o (IsBorrowedOf k i aad d ns b))
borrowed_of k i aad d ns b v t r is_item tagged once lent same =
    both_made r (IsBorrowed k i aad d ns b v) (λ x. x.view.is_tagged ≡ t) (IsBorrowedOf k i aad d ns b)
    (λ x p q. record { item = v; is_item = is_item; lent = p; is_tagged = subst (TellsTagOf (tag_of k) b) (sym q) tagged; is_once = once }) lent same
