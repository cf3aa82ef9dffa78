-- Headers read from their parts: the map with undecoded values of labels 7 and 11, and the counter signatures in these
-- values.
use Rattle.std.specs.Prelude.{None, ⊤}
use Rattle.std.proofs.Common.{◌≡◌, ℕ, zero, suc, List, [], ◌∷◌, Option, Some, refl, ap, sym, subst, inl, inr}
use Rattle.coset_value.specs.Item.{Item, Items, no_items, item, Pairs, no_pairs, pair}
use Rattle.coset_codec.specs.Shape.{Shape, Each, EachFaults, fixed, bstr, ◌then◌, end, any_number, one_or_more, one_or_many}
use Rattle.coset_codec.specs.Serialized.{ContentDescribes, ContentFaults}
use Rattle.coset_codec.specs.declared.error.CoseError.{CoseError}
use Rattle.coset_codec.specs.Maps.{unless_empty, SomePair}
use Rattle.coset_core.specs.Fields.{FieldsView, PerVersion, map_with, partial_header, SomeCounterSignatures}
use Rattle.coset_core.specs.FieldLaws.{split}
use Rattle.coset_core.specs.Headers.{HeaderView, header_of, Signatures, no_signatures, ProtectedView, SignatureView, signatures_of, empty_header}
use Rattle.coset_core.specs.Headers.{CounterSignaturesAre, DescribesContent, DescribesProtected, IsHeader}
use Rattle.coset_core.specs.Headers.{AreSignatures, signed_array, described_by, HeaderFaults}
use Rattle.coset_core.specs.Headers.{ProtectedFaults, counter_signatures_faults, layered_header, layered_protected, layered_signature}

-- ---- items that describe a value

-- An array of three, with other shapes of the first two elements.
pub signed_as :
    {A B C D : Type 0} (p : Shape A) (u : Shape B) (q : Shape C) (t : Shape D) (a : A) (b : B) (c : C) (d : D) (s : List ℕ)
    → ((w : Item) → p.describes w a → q.describes w c)
    → ((w : Item) → u.describes w b → t.describes w d) → (v : Item) → (signed_array p u).describes v (a, (b, (s, tt)))
    → (signed_array q t).describes v (c, (d, (s, tt)))
signed_as p u q t a b c d s f g v h = (h.0, h.1, go h.0 h.2)
  where
    go : (vs : Items) → (p then u then bstr then end).describes vs (a, (b, (s, tt))) → (q then t then bstr then end).describes vs (c, (d, (s, tt)))
    go no_items k = k
    go (item x no_items) k = absurd k.1
    go (item x (item y vs)) k = (f x k.0, (g y k.1.0, k.1.1))

-- If the shape says that content describes a header, then so does `DescribesContent`.
content_read : (k : ℕ) (h : HeaderView) (b : List ℕ) → ContentDescribes empty_header (layered_header k) b h
    → DescribesContent (IsHeader h k) (h ≡ empty_header) b
unfolding layered_header
content_read k h [] p = p
content_read k h (c ∷ b) p = p

-- The byte string describes the protected header, with k layers left.
abbrev pub ProtectedOf : Option (List ℕ) → HeaderView → ℕ → Item → Type 0
ProtectedOf o h k v = DescribesProtected (IsHeader h) (h ≡ empty_header) o k v

protected_read : (k : ℕ) (p : ProtectedView) (v : Item) → (layered_protected k).describes v p → ProtectedOf p.original p.header k v
unfolding layered_protected
protected_read zero p v h = h
protected_read (suc k) p v h = (h.0, h.1, h.2, content_read k p.header h.0 h.3)

-- If the shape says that an item describes a header, then so does `IsHeader`.
unprotected_read : (k : ℕ) (h : HeaderView) (v : Item) → (layered_header k).describes v h → IsHeader h k v
unfolding layered_header
unprotected_read k h v p = p

-- If the shape says that items describe signatures, then so does `AreSignatures`.
pub signatures_read : (k : ℕ) (vs : Items) (xs : List SignatureView) → Each (layered_signature k).describes vs xs → AreSignatures (signatures_of xs) k vs
signatures_read k no_items [] h = refl
signatures_read k no_items (x ∷ xs) h = h
signatures_read k (item v vs) [] h = absurd h
signatures_read k (item v vs) (x ∷ xs) h =
    let p : Shape (Unit {0}) = described_by (ProtectedOf x.protected.original x.protected.header k) in
    let u : Shape (Unit {0}) = described_by (IsHeader x.unprotected k) in (
      signed_as (layered_protected k) (layered_header k) p u x.protected x.unprotected tt tt x.signature (protected_read k x.protected)
          (unprotected_read k x.unprotected) v h.0,
      signatures_read k vs xs h.1,
    )

-- If the shape says that the value of label 7 or 11 describes signatures, then so does `AreSignatures`.
pub counter_signatures_read :
    (k : ℕ) (w : Item) (xs : List SignatureView) → (one_or_many (any_number (layered_signature k))).describes w xs → (vs : Items) × (one_or_more w ≡ Some vs)
    × AreSignatures (signatures_of xs) k vs
counter_signatures_read k w xs h = (h.0, h.1, signatures_read k h.0 xs h.2)

-- A map describes a header if it describes the fields, and its values of labels 7 and 11 describe the signatures.
pub header_read :
    (k : ℕ) (v : Item) (f : FieldsView) (o : PerVersion (Option Item)) (ss ts : Signatures) → partial_header.describes v (f, o)
    → CounterSignaturesAre (AreSignatures ss k) (ss ≡ no_signatures) o.0
    → CounterSignaturesAre (AreSignatures ts k) (ts ≡ no_signatures) o.1 → (layered_header k).describes v (header_of f ss ts)
unfolding layered_header
header_read k v f o ss ts p q r = (o, p, q, r)

-- If the shape says that an optional value describes signatures, then so does `CounterSignaturesAre`. An absent value
-- describes the empty list.
listed_read :
    (k : ℕ) (xs : List SignatureView) (o : Option Item) → (unless_empty (one_or_many (any_number (layered_signature k)))).describes o xs
    → CounterSignaturesAre (AreSignatures (signatures_of xs) k) (signatures_of xs ≡ no_signatures) o
listed_read k xs (Some w) h = counter_signatures_read k w xs h
listed_read k xs None h = ap signatures_of h

pub header_read_with :
    (k : ℕ) (v : Item) (f : FieldsView) (xs ys : List SignatureView)
    → (map_with (unless_empty (one_or_many (any_number (layered_signature k)))) (unless_empty (one_or_many (any_number (layered_signature k))))).describes v
    (f, (xs, ys))
    → (layered_header k).describes v (header_of f (signatures_of xs) (signatures_of ys))
header_read_with k v f xs ys h =
    let parts = split (unless_empty (one_or_many (any_number (layered_signature k)))) (unless_empty (one_or_many (any_number (layered_signature k)))) v f
    (xs, ys) h in
    header_read k v f parts.0 (signatures_of xs) (signatures_of ys) parts.1 (listed_read k xs parts.0.0 parts.2) (listed_read k ys parts.0.1 parts.3)

-- ---- faults

-- The faults of a signature's protected header, to a depth of n nested signatures.
abbrev pub protected_faults : ℕ → ℕ → Shape (Unit {0})
protected_faults n k = fixed (λ v. ⊤) None (ProtectedFaults (λ j. HeaderFaults (counter_signatures_faults n j)) k)

abbrev pub unprotected_faults : ℕ → ℕ → Shape (Unit {0})
unprotected_faults n k = fixed (λ v. ⊤) None (HeaderFaults (counter_signatures_faults n k))

-- A fault in a header's map is a fault of the header.
pub partial_header_fault : (k : ℕ) (v : Item) (e : CoseError) → partial_header.faults v e → (layered_header k).faults v e
unfolding layered_header
partial_header_fault k v e f = (0, inl f)

header_fault : (k : ℕ) (v : Item) (e : CoseError) → (layered_header k).faults v e → (n : ℕ) × (unprotected_faults n k).faults v e
unfolding layered_header
header_fault k v e f = f

content_fault : (k : ℕ) (b : List ℕ) (e : CoseError) → ContentFaults (layered_header k) b e → (n : ℕ) × ContentFaults (unprotected_faults n k) b e
content_fault k [] e f = absurd f
content_fault k (c ∷ b) e (inl f) = (0, inl f)
content_fault k (c ∷ b) e (inr f) = let g = header_fault k f.0 e f.2 in (g.0, inr (f.0, f.1, g.1))

protected_fault : (k : ℕ) (v : Item) (e : CoseError) → (layered_protected k).faults v e → (n : ℕ) × (protected_faults n k).faults v e
unfolding layered_protected
protected_fault zero v e f = (0, f)
protected_fault (suc k) v e (inl f) = (0, inl f)
protected_fault (suc k) v e (inr f) = let g = content_fault k f.0 e f.2 in (g.0, inr (f.0, f.1, g.1))

-- A fault in a signature's elements is found at some depth of nested signatures.
elements_fault :
    (k : ℕ) (vs : Items) (e : CoseError) → (layered_protected k then layered_header k then bstr then end).faults vs e
    → (n : ℕ) × (protected_faults n k then unprotected_faults n k then bstr then end).faults vs e
elements_fault k no_items e f = absurd f
elements_fault k (item v vs) e (inl f) = let g = protected_fault k v e f in (g.0, inl g.1)
elements_fault k (item v no_items) e (inr f) = absurd f
elements_fault k (item v (item w vs)) e (inr (inl f)) = let g = header_fault k w e f in (g.0, inr (inl g.1))
elements_fault k (item v (item w vs)) e (inr (inr f)) = (0, inr (inr f))

signature_fault : (k : ℕ) (v : Item) (e : CoseError) → (layered_signature k).faults v e → (n : ℕ)
    × (signed_array (protected_faults n k) (unprotected_faults n k)).faults v e
signature_fault k v e (inl f) = (0, inl f)
signature_fault k v e (inr f) =
    elim f.2 [ inl m ↦ (0, inr (f.0, f.1, inl m)) | inr m ↦ let g = elements_fault k f.0 e m.1 in (g.0, inr (f.0, f.1, inr (m.0, g.1))) ]

signatures_fault :
    (k : ℕ) (vs : Items) (e : CoseError) → EachFaults (layered_signature k).faults vs e → (n : ℕ)
    × EachFaults (signed_array (protected_faults n k) (unprotected_faults n k)).faults vs e
signatures_fault k no_items e f = absurd f
signatures_fault k (item v vs) e (inl f) = let g = signature_fault k v e f in (g.0, inl g.1)
signatures_fault k (item v vs) e (inr f) = let g = signatures_fault k vs e f in (g.0, inr g.1)

-- A fault in one signature or several is found at some depth of nested signatures.
pub faults_read : (k : ℕ) (w : Item) (e : CoseError) → (one_or_many (any_number (layered_signature k))).faults w e → (n : ℕ) × counter_signatures_faults n k w e
faults_read k w e (inl f) = (1, inl f)
faults_read k w e (inr f) = elim f.2 [ inl m ↦ absurd m.0 | inr m ↦ let g = signatures_fault k f.0 e m.1 in (suc g.0, inr (f.0, f.1, inr (m.0, g.1))) ]

-- A fault in counter signatures is a fault of the header that has them.
some_as : (P Q : Item → Item → Type 0) (ps : Pairs) → ((k u : Item) → P k u → Q k u) → SomePair P ps → SomePair Q ps
some_as P Q no_pairs f s = s
some_as P Q (pair k v ps) f (inl s) = inl (f k v s)
some_as P Q (pair k v ps) f (inr s) = inr (some_as P Q ps f s)

pub counter_signatures_fault : (k : ℕ) (v : Item) (w : Item) (e : CoseError) → SomeCounterSignatures (λ u. u ≡ w) v
    → (one_or_many (any_number (layered_signature k))).faults w e → (layered_header k).faults v e
unfolding layered_header
counter_signatures_fault k v w e p q =
    let g = faults_read k w e q in
    (g.0, inr (p.0, p.1, some_as _ _ p.0 (λ j u h. (h.0, subst (λ t. counter_signatures_faults g.0 k t e) (sym h.1) g.1)) p.2))
