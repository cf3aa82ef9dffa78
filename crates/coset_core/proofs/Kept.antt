-- A protected header keeps the bytes of the byte string that it was decoded from.
use Rattle.std.proofs.Common.{◌≡◌, ℕ, zero, suc, List, [], ◌∷◌, ◌==◌, length, Bool, true, false, Option, Some, None, option_map, refl, sym}
use Rattle.std.proofs.Common.{ap, ◌∙◌, subst, arith}
use Rattle.std.specs.Prelude.{⊤}
use Rattle.std.specs.Option.{is_none}
use Rattle.std.proofs.lemmas.Bool.{and_parts, eqb-true}
use Rattle.coset_value.specs.Item.{Item, Items, no_items, item, array, bytes, null}
use Rattle.coset_value.specs.Parts.{as_bytes}
use Rattle.coset_cbor.specs.Grammar.{IsEncoding}
use Rattle.coset_cbor.specs.Least.{least_encoding}
use Rattle.coset_cbor.specs.Shortest.{IsShortest}
use Rattle.coset_cbor.proofs.Again.{encodings_differ}
use Rattle.coset_cbor.proofs.Shortest.{definite_is_encoding}
use Rattle.coset_codec.specs.AsWritten.{AsWritten, WhenRead}
use Rattle.coset_codec.specs.Lists.{EachHas, EachWith}
use Rattle.coset_codec.specs.Serialized.{ContentDescribes, content_bytes, fresh_bytes}
use Rattle.coset_codec.specs.Shape.{Each, images, ◌then◌, bstr, end, one_or_more, one_or_array}
use Rattle.coset_codec.specs.ShapeLaws.{some-one}
use Rattle.coset_codec.proofs.AsWritten.{array_as_written, bstr_as_written, list_as_written, list_when_read, then_as_written}
use Rattle.coset_core.specs.HeaderAgain.{Begins, one_or_array_begins}
use Rattle.coset_core.specs.HeaderWrites.{header_image_is, protected_image_is}
use Rattle.coset_core.specs.Headers.{HeaderView, header_of, Signatures, no_signatures, signature_and, ProtectedView, SignatureView, are_none, elements_of}
use Rattle.coset_core.specs.Headers.{empty_header, is_empty_header, header_image, layered_header, layered_protected, layered_signature, protected_bytes}
use Rattle.coset_core.specs.Headers.{signatures_within}
use Rattle.coset_core.specs.Kept.{KeepsAbbreviated, KeepsOwn, first_bytes, KeepsReceived, KeepsSignature, KeepsSignatures, SignaturesReadAs}
use Rattle.coset_core.specs.Written.{AreShortest}
use Rattle.coset_core.proofs.HeaderMap.{header_decides, header_written}
use Rattle.coset_core.proofs.Labelled.{abbreviated_as_written, both_parts, mapped_part, map_when_read, signatures_as_written}

-- If an item is the byte string of o, its bytes are o.
pub held_of : (o : Option (List ℕ)) (v : Item) (b : List ℕ) → option_map bytes o ≡ Some v → as_bytes v ≡ Some b → Some b ≡ o
held_of None v b e d = absurd (cc)
held_of (Some c) v b e d = let same : bytes c ≡ v = some-one refl e in sym d ∙ ap as_bytes (sym same)

-- ---- protected headers, for k layers

bytes_of : (p : ProtectedView) (b : List ℕ) → p.original ≡ Some b → protected_bytes p ≡ Some b
bytes_of p b e = ap (λ o. content_bytes is_empty_header header_image o p.header) e

protected_when_read : (k : ℕ) (v : Item) (p : ProtectedView) → (layered_protected k).describes v p → KeepsOwn p × (as_bytes v ≡ protected_bytes p)
unfolding layered_protected
protected_when_read zero v p d = absurd d
protected_when_read (suc k) v p d =
    let is = bytes_of p d.0 d.2 in
    ((d.0, d.2, is), d.1 ∙ sym is)

pub protected_as_written : (k : ℕ) → AsWritten (layered_protected k) (λ p q. protected_bytes q ≡ protected_bytes p)
protected_as_written k v p q e d =
    let read = protected_when_read k v q d in
    read.0.2 ∙ held_of (protected_bytes p) v read.0.0 (sym (protected_image_is k p) ∙ e) (read.1 ∙ read.0.2)

-- ---- signatures

first_when_read :
    (k : ℕ) (vs : Items) (s : SignatureView) → (layered_protected k then layered_header k then bstr then end).describes vs (elements_of s)
    → KeepsOwn s.protected × (first_bytes vs ≡ protected_bytes s.protected)
first_when_read k no_items s d = absurd d
first_when_read k (item v vs) s d = protected_when_read k v s.protected d.0

pub signature_when_read : (k : ℕ) (v : Item) (s : SignatureView) → (layered_signature k).describes v s → KeepsReceived v s
signature_when_read k v s d = let first = first_when_read k d.0 s d.2 in (first.0, (d.0, d.1, first.1))

pub keeps_own : (k : ℕ) → WhenRead (layered_signature k) (λ s. KeepsOwn s.protected)
keeps_own k v s d = (signature_when_read k v s d).0

pub signature_as_written : (k : ℕ) → AsWritten (layered_signature k) KeepsSignature
signature_as_written k v s t e d =
    let last = then_as_written bstr end (λ a b. b ≡ a) (λ x y. ⊤) bstr_as_written (λ vs x y f g. tt) in
    let more = then_as_written (layered_header k) (bstr then end) (λ g h. ⊤) _ (λ w g h x y. tt) last in
    let places = layered_protected k then layered_header k then bstr then end in
    let all = array_as_written places _ (then_as_written (layered_protected k) (layered_header k then bstr then end) _ _ (protected_as_written k) more) v
    (elements_of s) (elements_of t) e d in
    (all.0, all.1.1.0)

-- ---- one signature or several

-- A single signature is an array that begins with a byte string.
signature_begins : (k : ℕ) (s : SignatureView) (v : Item) → (layered_signature k).image s ≡ Some v → Begins v
signature_begins k s v e =
    let places = mapped_part array _ v e in
    let first = both_parts item _ _ places.0 places.1 in
    let string = mapped_part bytes (protected_bytes s.protected) first.0 (sym (protected_image_is k s.protected) ∙ first.2) in
    record {
      first = string.0;
      others = first.1;
      is = places.2 ∙ (ap array first.4 ∙ ap (λ w. array (item w first.1)) string.2);
    }

one_or_array_again :
    (k : ℕ) (ss : List SignatureView) (us vs : Items) → images (layered_signature k).image ss ≡ Some us → one_or_more (one_or_array us) ≡ Some vs → vs ≡ us
one_or_array_again k [] us vs e d =
    let none : no_items ≡ us = some-one refl e in
    let never : one_or_more (one_or_array no_items) ≡ Some vs = subst (λ ws. one_or_more (one_or_array ws) ≡ Some vs) (sym none) d in
    absurd (cc)
one_or_array_again k (s ∷ ss) us vs e d =
    let parts = both_parts item ((layered_signature k).image s) (images (layered_signature k).image ss) us e in
    let begins = one_or_array_begins parts.0 parts.1 (signature_begins k s parts.0 parts.2) in
    some-one d (ap (λ ws. one_or_more (one_or_array ws)) parts.4 ∙ begins) ∙ sym parts.4

within_as_written : (k : ℕ) → AsWritten (signatures_within k) (EachWith KeepsSignature)
within_as_written k v ss ts e d =
    let written = mapped_part one_or_array (images (layered_signature k).image ss) v e in
    let same : d.0 ≡ written.0 = one_or_array_again k ss written.0 d.0 written.1 (ap one_or_more (sym written.2) ∙ d.1) in
    let each : Each (layered_signature k).describes written.0 ts = subst (λ vs. Each (layered_signature k).describes vs ts) same d.2 in
    list_as_written (layered_signature k) KeepsSignature (signature_as_written k) (array written.0) ss ts (ap (option_map array) written.1)
    (written.0, refl, each)

within_when_read : (k : ℕ) → WhenRead (signatures_within k) (EachHas (λ s. KeepsOwn s.protected))
within_when_read k v ss d = list_when_read (layered_signature k) (λ s. KeepsOwn s.protected) (keeps_own k) (array d.0) ss (d.0, refl, d.2)

-- ---- signatures in a header

pub header_as_written : (k : ℕ) → AsWritten (layered_header k) (λ h g. SignaturesReadAs KeepsSignature h g × KeepsAbbreviated h g)
header_as_written k v h g e d =
    let image = sym (header_written k h) ∙ e in
    let described = header_decides k v g d in (
      signatures_as_written (signatures_within k) h g v image described KeepsSignature (within_as_written k),
      abbreviated_as_written (signatures_within k) h g v image described,
    )

pub header_when_read : (k : ℕ) → WhenRead (layered_header k) KeepsSignatures
header_when_read k v h d = map_when_read (signatures_within k) (λ s. KeepsOwn s.protected) (within_when_read k) v h (header_decides k v h d)

content_when_read : (k : ℕ) (b : List ℕ) (h : HeaderView) → ContentDescribes empty_header (layered_header k) b h → KeepsSignatures h
content_when_read k [] h d = subst KeepsSignatures (sym d) (tt, tt)
content_when_read k (c ∷ b) h d = header_when_read k d.0 h d.2

pub held_when_read : (k : ℕ) → WhenRead (layered_protected k) (λ p. KeepsSignatures p.header)
unfolding layered_protected
held_when_read zero v p d = absurd d
held_when_read (suc k) v p d = content_when_read k d.0 p.header d.3

-- ---- the empty header

none_of : {A : Type 0} (o : Option A) → is_none o ≡ true → o ≡ None
none_of None e = refl
none_of (Some x) e = absurd (cc)

no_element : {A : Type 0} (xs : List A) → (length xs == 0) ≡ true → xs ≡ []
no_element [] e = refl
no_element (x ∷ xs) e = let none : suc (length xs) ≡ 0 = eqb-true _ _ e in absurd (cc)

no_signature : (ss : Signatures) → are_none ss ≡ true → ss ≡ no_signatures
no_signature no_signatures e = refl
no_signature (signature_and o p u s more) e = absurd (cc)

pub is_the_empty_one : (h : HeaderView) → is_empty_header h ≡ true → h ≡ empty_header
is_the_empty_one (header_of f ss ts) e =
    let alg = and_parts _ _ e in
    let crit = and_parts _ _ alg.1 in
    let kind = and_parts _ _ crit.1 in
    let key = and_parts _ _ kind.1 in
    let iv = and_parts _ _ key.1 in
    let partial = and_parts _ _ iv.1 in
    let first = and_parts _ _ partial.1 in
    let second = and_parts _ _ first.1 in
    let last = and_parts _ _ second.1 in
    let alg_is = none_of f.alg alg.0 in
    let crit_is = no_element f.crit crit.0 in
    let kind_is = none_of f.content_type kind.0 in
    let key_is = no_element f.key_id key.0 in
    let iv_is = no_element f.iv iv.0 in
    let partial_is = no_element f.partial_iv partial.0 in
    let first_is = no_signature ss first.0 in
    let second_is = no_signature ts second.0 in
    let abbreviated_is = none_of f.countersignature0_v2 last.0 in
    let rest_is = no_element f.rest last.1 in
    λ i.
    header_of
    (record {
      alg = alg_is i;
      crit = crit_is i;
      content_type = kind_is i;
      key_id = key_is i;
      iv = iv_is i;
      partial_iv = partial_is i;
      countersignature0_v2 = abbreviated_is i;
      rest = rest_is i;
    })
    (first_is i) (second_is i)

-- ---- signatures in the byte string of a protected header that was built

-- The signatures of the header h are kept in the header g.
abbrev pub Stays : HeaderView → HeaderView → Type 0
Stays h g = SignaturesReadAs KeepsSignature h g × KeepsAbbreviated h g

-- No encoding is empty.
no_empty_encoding : (v : Item) → IsEncoding v [] → ⊥
no_empty_encoding v h =
    let same = (encodings_differ v null [] (246 ∷ []) (246 ∷ []) [] h refl refl).1 in
    let none : 0 ≡ 1 = ap (λ (b : List ℕ). length b) same in
    absurd (omega (arith, none))

content_as_written :
    (k : ℕ) (v : Item) (b : List ℕ) (h g : HeaderView) → header_image h ≡ Some v → IsEncoding v b → ContentDescribes empty_header (layered_header k) b g
    → Stays h g
content_as_written k v [] h g e is d = absurd (no_empty_encoding v is)
content_as_written k v (c ∷ b) h g e is d =
    let same : d.0 ≡ v = (encodings_differ d.0 v (c ∷ b) (c ∷ b) [] [] d.1.0 is refl).0 in
    header_as_written k v h g (header_image_is k h ∙ e) (subst (λ w. (layered_header k).describes w g) same d.2)

fresh_as_written :
    (k : ℕ) (t : Bool) (b : List ℕ) (h g : HeaderView) → is_empty_header h ≡ t → fresh_bytes t (header_image h) ≡ Some b
    → (t ≡ false → (v : Item) → header_image h ≡ Some v → IsShortest b v) → ContentDescribes empty_header (layered_header k) b g → Stays h g
fresh_as_written k true b h g is e short d =
    let none : [] ≡ b = some-one refl e in
    let read : g ≡ empty_header = subst (λ c. ContentDescribes empty_header (layered_header k) c g) (sym none) d in
    subst (λ x. Stays x g) (sym (is_the_empty_one h is)) (subst (λ y. Stays empty_header y) (sym read) ((λ _. refl, λ _. refl), λ s e. e))
fresh_as_written k false b h g is e short d =
    let made = mapped_part least_encoding (header_image h) b e in
    content_as_written k made.0 b h g made.1 (definite_is_encoding made.0 b (short refl made.0 made.1).definite) d

pub built_as_written :
    (k : ℕ) (b : List ℕ) (p q : ProtectedView) → p.original ≡ None → protected_bytes p ≡ Some b → AreShortest None p.header b
    → (layered_protected k).describes (bytes b) q → Stays p.header q.header
unfolding layered_protected
built_as_written zero b p q built is short d = absurd d
built_as_written (suc k) b p q built is short d =
    let fresh = ap (λ o. content_bytes is_empty_header header_image o p.header) (sym built) ∙ is in
    let same : d.0 ≡ b = sym (some-one refl d.1) in
    fresh_as_written k (is_empty_header p.header) b p.header q.header refl fresh short
    (subst (λ c. ContentDescribes empty_header (layered_header k) c q.header) same d.3)
