-- An item that describes a header has no fault.
use Rattle.std.proofs.Common.{◌≡◌, ℕ, zero, suc, List, [], ◌∷◌, Option, Some, refl, subst, inl, inr}
use Rattle.coset_value.specs.Item.{Item, Items, no_items, item}
use Rattle.coset_cbor.proofs.Again.{encodings_differ}
use Rattle.coset_codec.specs.declared.error.CoseError.{CoseError}
use Rattle.coset_codec.specs.Serialized.{ContentFaults}
use Rattle.coset_codec.specs.Shape.{EachFaults, one_or_more}
use Rattle.coset_codec.specs.ShapeLaws.{some-one, some-none}
use Rattle.coset_core.specs.FieldLaws.{partial_header_laws, counter_signatures_found}
use Rattle.coset_core.specs.Headers.{HeaderView, header_of, Signatures, no_signatures, signature_and}
use Rattle.coset_core.specs.Headers.{empty_header, CounterSignaturesAre, DescribesContent, IsHeader}
use Rattle.coset_core.specs.Headers.{AreSignatures, signed_array, protected_item, header_image, HeaderFaults, ProtectedFaults, counter_signatures_faults}
use Rattle.coset_core.specs.HeaderAgain.{fixed_laws, signed_laws, protected_again, header_again}
use Rattle.coset_core.specs.HeaderReads.{ProtectedOf, protected_faults, unprotected_faults}

-- A value of label 7 or 11 that describes signatures has no fault, to a depth of n nested signatures.
abbrev AreSound : ℕ → Type 0
AreSound n = (k : ℕ) (w : Item) (e : CoseError) (ss : Signatures) (vs : Items) → one_or_more w ≡ Some vs → AreSignatures ss k vs
    → counter_signatures_faults n k w e → ⊥

-- An optional value of label 7 or 11 that describes signatures has no such fault.
held_sound :
    (n : ℕ) → AreSound n → (k : ℕ) (e : CoseError) (ss : Signatures) (o : Option Item) (w : Item) → o ≡ Some w
    → CounterSignaturesAre (AreSignatures ss k) (ss ≡ no_signatures) o
    → counter_signatures_faults n k w e → ⊥
held_sound n sound k e ss o w is a x =
    let are : CounterSignaturesAre (AreSignatures ss k) (ss ≡ no_signatures) (Some w) =
    subst (CounterSignaturesAre (AreSignatures ss k) (ss ≡ no_signatures)) is a in
    sound k w e ss are.0 are.1 are.2 x

-- If a map, the content of a byte string or the byte string describes a header, it has no such fault.
header_sound : (n : ℕ) → AreSound n → (k : ℕ) (e : CoseError) (h : HeaderView) (v : Item) → IsHeader h k v → HeaderFaults (counter_signatures_faults n k) v e
    → ⊥
header_sound n sound k e (header_of f ss ts) v a (inl x) = partial_header_laws.sound v (f, a.0) e a.1 x
header_sound n sound k e (header_of f ss ts) v a (inr x) =
    let found = counter_signatures_found (λ w. counter_signatures_faults n k w e) v f a.0 a.1 x in
    elim found.1 [
      | inl h ↦ held_sound n sound k e ss a.0.0 found.0 h a.2 found.2
      | inr h ↦ held_sound n sound k e ts a.0.1 found.0 h a.3 found.2
    ]

content_sound :
    (n : ℕ) → AreSound n → (k : ℕ) (e : CoseError) (h : HeaderView) (b : List ℕ) → DescribesContent (IsHeader h k) (h ≡ empty_header) b
    → ContentFaults (unprotected_faults n k) b e → ⊥
content_sound n sound k e h [] p x = x
content_sound n sound k e h (c ∷ b) p (inl x) = x.1 p.0 p.1
content_sound n sound k e h (c ∷ b) p (inr x) =
    header_sound n sound k e h p.0 p.2 (subst (λ w. HeaderFaults (counter_signatures_faults n k) w e)
    (encodings_differ x.0 p.0 (c ∷ b) (c ∷ b) [] [] x.1.0 p.1.0 refl).0 x.2)

protected_sound :
    (n : ℕ) → AreSound n → (k : ℕ) (e : CoseError) (o : Option (List ℕ)) (h : HeaderView) (v : Item) → ProtectedOf o h k v
    → ProtectedFaults (λ j. HeaderFaults (counter_signatures_faults n j)) k v e → ⊥
protected_sound n sound zero e o h v a x = a
protected_sound n sound (suc k) e o h v a (inl x) = some-none a.1 x.0
protected_sound n sound (suc k) e o h v a (inr x) =
    content_sound n sound k e h a.0 a.3 (subst (λ b. ContentFaults (unprotected_faults n k) b e) (some-one x.1 a.1) x.2)

-- Items that describe signatures have no such fault.
each_sound :
    (n : ℕ) → AreSound n → (k : ℕ) (e : CoseError) (ss : Signatures) (vs : Items) → AreSignatures ss k vs
    → EachFaults (signed_array (protected_faults n k) (unprotected_faults n k)).faults vs e → ⊥
each_sound n sound k e no_signatures no_items a x = x
each_sound n sound k e no_signatures (item v vs) a x = absurd (cc)
each_sound n sound k e (signature_and o p u s more) no_items a x = a
each_sound n sound k e (signature_and o p u s more) (item v vs) a (inl x) =
    let covered = fixed_laws (ProtectedOf o p k) (protected_item o p (header_image p)) (protected_faults n k).faults (protected_again k o p)
    (λ w f. protected_sound n sound k f o p w) in
    let other = fixed_laws (IsHeader u k) (header_image u) (unprotected_faults n k).faults (header_again u k) (λ w f. header_sound n sound k f u w) in
    (signed_laws _ _ covered other).sound v (tt, (tt, (s, tt))) e a.0 x
each_sound n sound k e (signature_and o p u s more) (item v vs) a (inr x) = each_sound n sound k e more vs a.1 x

-- A value of label 7 or 11 that describes signatures has no fault at any depth.
counter_signatures_sound : (n : ℕ) → AreSound n
counter_signatures_sound zero k w e ss vs p a f = f
counter_signatures_sound (suc n) k w e ss vs p a (inl f) = some-none p f.0
counter_signatures_sound (suc n) k w e ss vs p a (inr f) =
    elim f.2 [
      | inl m ↦ m.0
      | inr m ↦ each_sound n (counter_signatures_sound n) k e ss vs a
          (subst (λ us. EachFaults (signed_array (protected_faults n k) (unprotected_faults n k)).faults us e) (some-one f.1 p) m.1)
    ]

-- An item that describes a header has no fault at any depth.
pub header_faultless : (k : ℕ) (v : Item) (x : HeaderView) (e : CoseError) → IsHeader x k v → (n : ℕ) → HeaderFaults (counter_signatures_faults n k) v e → ⊥
header_faultless k v x e a n f = header_sound n (counter_signatures_sound n) k e x v a f
