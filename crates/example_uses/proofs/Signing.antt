-- Messages with two signers, and the signature that names a key.
use Rattle.std.proofs.Common.{◌≡◌, ◌∙◌, ◌+◌, ◌<◌, ℕ, suc, List, [], ◌∷◌, Bool, true, false, cond, Some, None, Err, map, length}
use Rattle.std.proofs.Common.{ap, arith, inl, inr, refl, subst}
use Rattle.std.specs.List.{find, position_from, slice_get}
use Rattle.std.proofs.lemmas.List.{length-map}
use Rattle.std.proofs.lemmas.Option.{slice_get_within}
use Rattle.coset_codec.specs.Results.{Describes}
use Rattle.coset_codec.specs.AsWritten.{WhenRead}
use Rattle.coset_codec.specs.Encoding.{HasNoImage}
use Rattle.coset_codec.specs.Lists.{EachHas}
use Rattle.coset_codec.specs.ReadAgain.{IsWritten}
use Rattle.coset_codec.specs.ShapeLaws.{some-one}
use Rattle.coset_codec.specs.declared.error.CallError.{CallError}
use Rattle.coset_codec.specs.declared.error.CallError.TheVariants.{Coset, Caller}
use Rattle.coset_core.specs.Calls.{IsStructure}
use Rattle.coset_core.specs.Headers.{SignatureView}
use Rattle.coset_sign.specs.Sign.{EachSigns, SignView, push_signature, sign, signed_with, signer_attached, signer_structure}
use Rattle.coset_sign.specs.Signed.{or_empty}
use Rattle.example_uses.specs.Asked.{Asker, Maker}
use Rattle.example_uses.specs.Signers.{IsSignedByTwo, SignsByTwo, VerifiesBy, is_by, signature_by, signed_by}
use Rattle.example_uses.proofs.Calls.{Made, NotMade, NotSaid}

-- ---- signing

module _ {F H E : Type 0} (g : Maker F E) (f : F) (k : Maker H E) (h : H) (external_aad payload : List ℕ) (first second : SignatureView) where
  pub signed_by_two :
      (b : List ℕ) (unsigned once twice : SignView) → unsigned ≡ signed_by payload []
      → Made g f (signer_attached unsigned first external_aad) (λ s. once ≡ push_signature (signed_with s.items first) unsigned)
      → Made k h (signer_attached once second external_aad) (λ t. twice ≡ push_signature (signed_with t.items second) once) → IsWritten sign twice b
      → IsSignedByTwo g f k h external_aad payload first second b
  signed_by_two b unsigned once twice is m n w =
      let s = m.1.items in
      let t = n.1.items in
      let one : once ≡ signed_by payload (signed_with s first ∷ []) = m.4 ∙ ap (push_signature (signed_with s first)) is in
      let two : twice ≡ signed_by payload (signed_with s first ∷ signed_with t second ∷ []) = n.4 ∙ ap (push_signature (signed_with t second)) one in (
        s,
        t,
        subst (λ o. IsWritten sign o b) two w,
        (m.0, m.1, subst (λ o. IsStructure (signer_attached o first external_aad) m.0) is m.2, m.3, refl),
        (n.0, n.1, subst (λ o. IsStructure (signer_attached o second external_aad) n.0) one n.2, n.3, refl),
      )

  -- The first signer refuses, or has no structure.
  pub first_refused :
      (unsigned : SignView) → unsigned ≡ signed_by payload [] → (e : CallError E) → NotMade g f (signer_attached unsigned first external_aad) e
      → SignsByTwo g f k h external_aad payload first second (Err e)
  first_refused unsigned is (Coset e) tried = inl (subst (λ m. HasNoImage (signer_attached m first external_aad) e) is tried)
  first_refused unsigned is (Caller e) tried =
      inl (tried.0, subst (λ m. IsStructure (signer_attached m first external_aad) tried.0) is tried.1, tried.2)

  -- The second signer refuses, or has no structure.
  pub second_refused :
      (unsigned once : SignView) (s : List ℕ) → unsigned ≡ signed_by payload [] → once ≡ push_signature (signed_with s first) unsigned
      → (e : CallError E) → NotMade k h (signer_attached once second external_aad) e → SignsByTwo g f k h external_aad payload first second (Err e)
  second_refused unsigned once s is made (Coset e) tried =
      let one : once ≡ signed_by payload (signed_with s first ∷ []) = made ∙ ap (push_signature (signed_with s first)) is in
      inr (inl (subst (λ m. HasNoImage (signer_attached m second external_aad) e) one tried))
  second_refused unsigned once s is made (Caller e) tried =
      let one : once ≡ signed_by payload (signed_with s first ∷ []) = made ∙ ap (push_signature (signed_with s first)) is in
      inr (tried.0, subst (λ m. IsStructure (signer_attached m second external_aad) tried.0) one tried.1, tried.2)

-- The message with both signatures.
pub both_signed :
    (payload s t : List ℕ) (first second : SignatureView) (unsigned once twice : SignView) → unsigned ≡ signed_by payload []
    → once ≡ push_signature (signed_with s first) unsigned → twice ≡ push_signature (signed_with t second) once
    → twice ≡ signed_by payload (signed_with s first ∷ signed_with t second ∷ [])
both_signed payload s t first second unsigned once twice is one two =
    two ∙ ap (λ m. push_signature (signed_with t second) m) (one ∙ ap (push_signature (signed_with s first)) is)

-- ---- the first element of a list that passes a test, and its index

module _ {A : Type 0} (test : A → Bool) where
  abbrev IsAt : List A → ℕ → ℕ → Type 0
  IsAt xs i k = (j : ℕ) × (x : A) × (k ≡ i + j) × (slice_get xs j ≡ Some x) × (find test xs ≡ Some x)

  here : (b : Bool) (x : A) (xs : List A) (i k : ℕ) → test x ≡ b → cond b (Some i) (position_from test (i + 1) xs) ≡ Some k
      → (position_from test (i + 1) xs ≡ Some k → IsAt xs (i + 1) k) → IsAt (x ∷ xs) i k
  here true x xs i k passes found later =
      let same : i ≡ k = some-one refl found in
      (0, x, omega (arith, same), refl, ap (λ b. cond b (Some x) (find test xs)) passes)
  here false x xs i k passes found later =
      let l = later found in
      (suc l.0, l.1, omega (arith, l.2), l.3, ap (λ b. cond b (Some x) (find test xs)) passes ∙ l.4)

  is_at : (xs : List A) (i k : ℕ) → position_from test i xs ≡ Some k → IsAt xs i k
  is_at [] i k e = absurd (cc)
  is_at (x ∷ xs) i k e = here (test x) x xs i k refl e (is_at xs (i + 1) k)

  pub at_number : (xs : List A) (k : ℕ) → position_from test 0 xs ≡ Some k → (x : A) × (slice_get xs k ≡ Some x) × (find test xs ≡ Some x)
  at_number xs k e =
      let l = is_at xs 0 k e in
      let same : l.0 ≡ k = omega (arith, l.2) in
      (l.1, subst (λ j. slice_get xs j ≡ Some l.1) same l.3, l.4)

  missed : (b : Bool) (x : A) (xs : List A) (i : ℕ) → test x ≡ b → cond b (Some i) (position_from test (i + 1) xs) ≡ None
      → (position_from test (i + 1) xs ≡ None → find test xs ≡ None) → find test (x ∷ xs) ≡ None
  missed true x xs i passes none later = absurd (cc)
  missed false x xs i passes none later = ap (λ b. cond b (Some x) (find test xs)) passes ∙ later none

  pub no_number : (xs : List A) (i : ℕ) → position_from test i xs ≡ None → find test xs ≡ None
  no_number [] i e = refl
  no_number (x ∷ xs) i e = missed (test x) x xs i refl e (no_number xs (i + 1))

  of_first : (P : A → Type 0) (b : Bool) (y : A) (ys : List A) (x : A) → P y → (find test ys ≡ Some x → P x) → cond b (Some y) (find test ys) ≡ Some x → P x
  of_first P true y ys x first later e = subst P (some-one refl e) first
  of_first P false y ys x first later e = later e

  -- A property of every element holds of the one that is found.
  pub of_found : (P : A → Type 0) (xs : List A) (x : A) → EachHas P xs → find test xs ≡ Some x → P x
  of_found P [] x each e = absurd (cc)
  of_found P (y ∷ ys) x each e = of_first P (test y) y ys x each.0 (of_found P ys x each.1) e

pub position-map : {A B : Type 0} (f : A → B) (test : B → Bool) (i : ℕ) (xs : List A) → position_from test i (map f xs) ≡ position_from (λ x. test (f x)) i xs
position-map f test i [] = refl
position-map f test i (x ∷ xs) = ap (cond (test (f x)) (Some i)) (position-map f test (i + 1) xs)

-- An index of an element is less than the length.
pub within : {A B : Type 0} (f : A → B) (xs : List A) (i : ℕ) (y : B) → slice_get (map f xs) i ≡ Some y → i < length xs
within f xs i y e =
    let inside = slice_get_within (map f xs) i y e in
    subst (λ n. i < n) (length-map xs f) inside

-- ---- verifying

module _ {F E : Type 0} (g : Asker F (Unit {0}) E) (f : F) where
  pub not_verified_by :
      WhenRead sign EachSigns → (key_id external_aad b : List ℕ) (absent : E) (m : SignView) (s : SignatureView) → Describes sign b m
      → signature_by key_id m.signatures ≡ Some s → (e : CallError E) → NotSaid g f s.signature (signer_attached m s external_aad) e
      → VerifiesBy g f key_id external_aad absent b (Err e)
  not_verified_by law key_id x b absent m s d found (Coset e) asked =
      let signs = of_found (is_by key_id) (λ t. (a p : List ℕ) → signer_structure m t a p ≡ None → ⊥) m.signatures s (law _ m d.2) found in
      λ other. absurd (signs x (or_empty m.payload) (asked other).1)
  not_verified_by law key_id x b absent m s d found (Caller e) asked = (m, d, inr (s, found, asked))
