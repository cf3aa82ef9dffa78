-- An item describes at most one header.
use Rattle.std.proofs.Common.{◌≡◌, ℕ, zero, suc, List, [], ◌∷◌, Option, Some, None, refl, sym, ap, ◌∙◌, subst}
use Rattle.coset_value.specs.Item.{Item, Items, no_items, item}
use Rattle.coset_cbor.proofs.Again.{encodings_differ}
use Rattle.coset_codec.specs.Shape.{one_or_more, bstr, ◌then◌, end}
use Rattle.coset_codec.specs.ShapeLaws.{some-one, some-none}
use Rattle.coset_core.specs.Fields.{FieldsView, PerVersion}
use Rattle.coset_core.specs.FieldLaws.{partial_header_laws}
use Rattle.coset_core.specs.Headers.{HeaderView, header_of, Signatures, no_signatures, signature_and}
use Rattle.coset_core.specs.Headers.{empty_header, CounterSignaturesAre, DescribesContent, IsHeader}
use Rattle.coset_core.specs.Headers.{AreSignatures, signed_array, described_by}
use Rattle.coset_core.specs.HeaderReads.{ProtectedOf}

-- If an item describes both headers, they are equal. `SameSignatures` says the same of two lists of signatures.
abbrev SameHeader : HeaderView → HeaderView → Type 0
SameHeader h g = (k : ℕ) (v : Item) → IsHeader h k v → IsHeader g k v → h ≡ g

abbrev SameSignatures : Signatures → Signatures → Type 0
SameSignatures ss ts = (k : ℕ) (vs : Items) → AreSignatures ss k vs → AreSignatures ts k vs → ss ≡ ts

-- A value of label 7 or 11 describes at most one list of signatures.
counter_signatures_same :
    (k : ℕ) (ss ts : Signatures) → SameSignatures ss ts → (o p : Option Item) → o ≡ p → CounterSignaturesAre (AreSignatures ss k) (ss ≡ no_signatures) o
    → CounterSignaturesAre (AreSignatures ts k) (ts ≡ no_signatures) p → ss ≡ ts
counter_signatures_same k ss ts same None None e a b = a ∙ sym b
counter_signatures_same k ss ts same None (Some w) e a b = absurd (some-none refl (sym e))
counter_signatures_same k ss ts same (Some v) None e a b = absurd (some-none refl e)
counter_signatures_same k ss ts same (Some v) (Some w) e a b =
    let vs : a.0 ≡ b.0 = some-one a.1 (ap one_or_more (some-one refl e) ∙ b.1) in
    same k b.0 (subst (AreSignatures ss k) vs a.2) b.2

-- A map describes at most one header, and so does the content of a byte string.
map_same : (f g : FieldsView) (ss ts us ws : Signatures) → SameSignatures ss us → SameSignatures ts ws → SameHeader (header_of f ss ts) (header_of g us ws)
map_same f g ss ts us ws same same_v2 k v a b =
    let e : ◌≡◌ {A = FieldsView × PerVersion (Option Item)} (f, a.0) (g, b.0) = partial_header_laws.unique v (f, a.0) (g, b.0) a.1 b.1 in
    let first : f ≡ g = ap (λ x. x.0) e in
    let second : ss ≡ us = counter_signatures_same k ss us same a.0.0 b.0.0 (ap (λ x. x.1.0) e) a.2 b.2 in
    let last : ts ≡ ws = counter_signatures_same k ts ws same_v2 a.0.1 b.0.1 (ap (λ x. x.1.1) e) a.3 b.3 in
    λ i. header_of (first i) (second i) (last i)

content_same : (h g : HeaderView) → SameHeader h g → (k : ℕ) (b : List ℕ) → DescribesContent (IsHeader h k) (h ≡ empty_header) b
    → DescribesContent (IsHeader g k) (g ≡ empty_header) b → h ≡ g
content_same h g same k [] p q = p ∙ sym q
content_same h g same k (c ∷ b) p q = same k q.0 (subst (IsHeader h k) (encodings_differ p.0 q.0 (c ∷ b) (c ∷ b) [] [] p.1.0 q.1.0 refl).0 p.2) q.2

-- The byte string of a protected header describes at most one header and its kept bytes.
protected_same : (o p : Option (List ℕ)) (h g : HeaderView) → SameHeader h g → (k : ℕ) (v : Item) → ProtectedOf o h k v → ProtectedOf p g k v → (o ≡ p)
    × (h ≡ g)
protected_same o p h g same zero v a b = absurd a
protected_same o p h g same (suc k) v a b =
    let e : a.0 ≡ b.0 = some-one a.1 b.1 in
    (a.2 ∙ (ap Some e ∙ sym b.2), content_same h g same k b.0 (subst (DescribesContent (IsHeader h k) (h ≡ empty_header)) e a.3) b.3)

-- Two descriptions of a signature's array are about the same elements.
record SameElements (P Q R S : Item → Type 0) (s t : List ℕ) : Type 0 where
  pub first : Item
  pub second : Item
  pub protected : P first × Q first
  pub unprotected : R second × S second
  pub signature : s ≡ t

signed_elements : (P Q R S : Item → Type 0) (s t : List ℕ) (vs : Items) → (described_by P then described_by R then bstr then end).describes vs
    (tt, (tt, (s, tt)))
    → (described_by Q then described_by S then bstr then end).describes vs (tt, (tt, (t, tt))) → SameElements P Q R S s t
signed_elements P Q R S s t no_items a b = absurd a
signed_elements P Q R S s t (item x no_items) a b = absurd a.1
signed_elements P Q R S s t (item x (item y no_items)) a b = absurd a.1.1
signed_elements P Q R S s t (item x (item y (item z vs))) a b =
    record { first = x; second = y; protected = (a.0, b.0); unprotected = (a.1.0, b.1.0); signature = some-one a.1.1.0 b.1.1.0 }

-- Two descriptions of an item as a signature are about the same elements.
signed_same : (P Q R S : Item → Type 0) (s t : List ℕ) (v : Item) → (signed_array (described_by P) (described_by R)).describes v (tt, (tt, (s, tt)))
    → (signed_array (described_by Q) (described_by S)).describes v (tt, (tt, (t, tt))) → SameElements P Q R S s t
signed_same P Q R S s t v a b =
    signed_elements P Q R S s t b.0 (subst (λ vs. (described_by P then described_by R then bstr then end).describes vs (tt, (tt, (s, tt))))
    (some-one a.1 b.1) a.2) b.2

-- An item describes at most one header, and items describe at most one list of signatures.
mutual
  pub header_same : (h g : HeaderView) → SameHeader h g
  header_same (header_of f ss ts) (header_of g us ws) k v a b =
      map_same f g ss ts us ws (λ j vs x y. signatures_same ss us j vs x y) (λ j vs x y. signatures_same ts ws j vs x y) k v a b

  pub signatures_same : (ss ts : Signatures) → SameSignatures ss ts
  signatures_same no_signatures no_signatures k vs a b = refl
  signatures_same no_signatures (signature_and o p u s more) k no_items a b = absurd b
  signatures_same no_signatures (signature_and o p u s more) k (item v vs) a b = absurd (cc)
  signatures_same (signature_and o p u s more) no_signatures k no_items a b = absurd a
  signatures_same (signature_and o p u s more) no_signatures k (item v vs) a b = absurd (cc)
  signatures_same (signature_and o p u s more) (signature_and q g w t rest) k no_items a b = absurd a
  signatures_same (signature_and o p u s more) (signature_and q g w t rest) k (item v vs) a b =
      let both = signed_same (ProtectedOf o p k) (ProtectedOf q g k) (IsHeader u k) (IsHeader w k) s t v a.0 b.0 in
      let first = protected_same o q p g (λ j x y z. header_same p g j x y z) k both.first both.protected.0 both.protected.1 in
      let kept : o ≡ q = first.0 in
      let protected : p ≡ g = first.1 in
      let unprotected : u ≡ w = header_same u w k both.second both.unprotected.0 both.unprotected.1 in
      let last : s ≡ t = both.signature in
      let after : more ≡ rest = signatures_same more rest k vs a.1 b.1 in
      λ i. signature_and (kept i) (protected i) (unprotected i) (last i) (after i)
