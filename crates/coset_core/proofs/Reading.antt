-- Reading headers, and the signatures in them, from their parts.
use Rattle.std.proofs.Common.{◌≡◌, ℕ, zero, suc, pred, List, Option, Some, None, Result, Ok, Err, refl, sym, ap, subst, inl, inr}
use Rattle.coset_value.specs.Item.{Item, bytes}
use Rattle.coset_value.specs.Parts.{as_bytes}
use Rattle.coset_cbor.specs.declared.de.Error.TheVariants.{RecursionLimitExceeded}
use Rattle.coset_codec.specs.declared.error.CoseError.{CoseError}
use Rattle.coset_codec.specs.declared.error.CoseError.TheVariants.{DecodeFailed}
use Rattle.coset_codec.specs.Errors.{IsUnexpected}
use Rattle.coset_codec.specs.InPlace.{Fills}
use Rattle.coset_codec.specs.Serialized.{ContentDescribes, ContentFaults}
use Rattle.coset_codec.specs.Maps.{unless_empty}
use Rattle.coset_codec.specs.Shape.{any_number, one_or_many}
use Rattle.coset_core.specs.Contents.{FillsContent}
use Rattle.coset_core.specs.Fields.{FieldsView, map_with}
use Rattle.coset_core.specs.HeaderReads.{header_read_with}
use Rattle.coset_core.specs.Headers.{HeaderView, header_of, SignatureView, empty_header, layered_header, layered_protected, layered_signature, signatures_of}

-- ---- the byte string of a protected header

pub no_string : (k : ℕ) (v : Item) (e : CoseError) → (as_bytes v ≡ None) × IsUnexpected e → (layered_protected k).faults v e
unfolding layered_protected
no_string zero v e h = inl h
no_string (suc k) v e h = inl h

-- No layer is left for the byte string.
pub no_layer_left : (k : ℕ) (v : Item) (b : List ℕ) → k ≡ 0 → as_bytes v ≡ Some b → (layered_protected k).faults v (DecodeFailed RecursionLimitExceeded)
unfolding layered_protected
no_layer_left zero v b z h = inr (b, h, refl)
no_layer_left (suc k) v b z h = absurd (cc)

-- A fault in the content is a fault of the byte string.
pub content_faulty : (k j : ℕ) (v : Item) (b : List ℕ) (e : CoseError) → k ≡ suc j → as_bytes v ≡ Some b → ContentFaults (layered_header j) b e
    → (layered_protected k).faults v e
unfolding layered_protected
content_faulty zero j v b e z h f = absurd (cc)
content_faulty (suc k) j v b e z h f = inr (b, h, subst (λ i. ContentFaults (layered_header i) b e) (ap pred (sym z)) f)

pub content_described :
    (k j : ℕ) (v : Item) (b : List ℕ) (h : HeaderView) → k ≡ suc j → as_bytes v ≡ Some b → ContentDescribes empty_header (layered_header j) b h
    → (layered_protected k).describes v (record { original = Some b; header = h })
unfolding layered_protected
content_described zero j v b h z i d = absurd (cc)
content_described (suc k) j v b h z i d = (b, i, refl, subst (λ n. ContentDescribes empty_header (layered_header n) b h) (ap pred (sym z)) d)

-- The header that kept bytes decode to.
pub protected_filled :
    (k j : ℕ) (b c : List ℕ) (o : Option (List ℕ)) (h : HeaderView) (r : Result (Unit {0}) CoseError) → k ≡ suc j → o ≡ Some b → c ≡ b → FillsContent j c h r
    → Fills (layered_protected k) (bytes b) (record { original = o; header = h }) r
protected_filled k j b c o h (Ok u) z kept same d =
    subst (λ p. (layered_protected k).describes (bytes b) (record { original = p; header = h })) (sym kept)
    (content_described k j (bytes b) b h z refl (subst (λ s. ContentDescribes empty_header (layered_header j) s h) same d))
protected_filled k j b c o h (Err e) z kept same d = λ n. content_faulty k j (bytes b) b e z refl (subst (λ s. ContentFaults (layered_header j) s e) same (d n))

-- ---- the map of a header, with its counter signatures of both versions

-- An item describes a header with these fields and these signatures.
pub header_whole :
    (k : ℕ) (v : Item) (h : HeaderView) (f : FieldsView) (xs ys : List SignatureView)
    → (map_with (unless_empty (one_or_many (any_number (layered_signature k)))) (unless_empty (one_or_many (any_number (layered_signature k))))).describes v
    (f, (xs, ys))
    → h ≡ header_of f (signatures_of xs) (signatures_of ys) → (layered_header k).describes v h
header_whole k v h f xs ys p same = subst ((layered_header k).describes v) (sym same) (header_read_with k v f xs ys p)
