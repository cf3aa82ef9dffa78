-- Messages, from their elements.
use Rattle.std.proofs.Common.{◌≡◌, ◌∙◌, ◌++◌, ◌⊎◌, ◌≤◌, ℕ, suc, List, [], Option, Some, None, Bool, true, false, refl, sym, ap, subst, inl, inr, arith, max, true≢false}
use Rattle.std.specs.Prelude.{IfSome}
use Rattle.std.proofs.lemmas.List.{append_assoc, append-nil}
use Rattle.coset.specs.Item.{Item, Pairs, item, no_items, no_pairs, array, bytes, dict, null, depth, items_count, items_depth, pairs_depth}
use Rattle.coset.specs.Grammar.{AreEncodings, IsEncoding, IsItem}
use Rattle.coset_seen.specs.declared.elements.Elements.{Elements}
use Rattle.coset_seen.specs.declared.forward.Ahead.{Ahead}
use Rattle.coset_seen.specs.declared.kind.Kind as kinds
use Rattle.coset_seen.specs.declared.kind.Kind.TheVariants.{Sign1, Mac0, Encrypt0, Mac, Encrypt}
use Rattle.coset_seen.specs.declared.labels.Header.{Header}
use Rattle.coset_seen.specs.Begins.{Begins, Closes, IsAhead, Opens}
use Rattle.coset_seen.specs.Elements.{AreElements, BeginsContent, BeginsElements, BeginsMessage, BeginsProof, IsContent, IsCounted}
use Rattle.coset_seen.specs.Elements.{IsFlatMessage, IsMessage, IsProof, IsUntagged, content_item, content_of, items_of, last_items, perhaps_tag}
use Rattle.coset_seen.specs.Kinds.{elements_of, has_recipients, tag_of}
use Rattle.coset_seen.specs.Labels.{BeginsHeader, EndsWith, IsFlat, IsHeader, TakesNone}
use Rattle.coset_seen.proofs.Fronts.{ahead_in}
use Rattle.coset_seen.proofs.Labelling.{enclosed, has_none, head_of}
use Rattle.coset_seen.proofs.Walking.{named_in}

-- Bytes encode at most one item, and no encoding is a proper prefix of another.
abbrev pub OneItem : Type 0
OneItem = (v w : Item) (b c x y : List ℕ) → IsEncoding v b → IsEncoding w c → b ++ x ≡ c ++ y → (v ≡ w) × (b ≡ c)

-- The one item that bytes are is the item that they begin with.
pub whole_is : OneItem → (b : List ℕ) (v w : Item) (s : List ℕ) → IsItem b v → Begins w s b → v ≡ w
whole_is one b v w s is begins = (one v w b begins.0 [] s is.0 begins.1 (append-nil b ∙ begins.2)).0

-- The item that bytes begin with is all of them if nothing follows it.
item_alone : (b : List ℕ) (v : Item) (s : List ℕ) → s ≡ [] → depth v ≤ 256 → Begins v s b → IsItem b v
item_alone b v s none deep h = (subst (IsEncoding v) (sym (h.2 ∙ (ap (λ y. h.0 ++ y) none ∙ append-nil h.0))) h.1, deep)

pub flat_header : (b : List ℕ) (n : Header) (s : List ℕ) → IsFlat n → s ≡ [] → BeginsHeader b n s → IsHeader b n
flat_header b n s flat none h = record {
  pairs = h.pairs;
  is_item = item_alone b (dict h.pairs) s none (subst (λ m. suc m ≤ 256) (sym (h.has.flat flat)) (omega (arith))) h.begins;
  has = h.has;
  placed = h.placed;
}

pub header_is : OneItem → (b : List ℕ) (v : Item) (n : Header) (s : List ℕ) → IsItem b v → BeginsHeader b n s → IsHeader b n
header_is one b v n s is h = record {
  pairs = h.pairs;
  is_item = subst (IsItem b) (whole_is one b v (dict h.pairs) s is h.begins) is;
  has = h.has;
  placed = h.placed;
}

-- The content of a protected header's byte string.
pub empty_content : (b : List ℕ) (h : Header) → b ≡ [] → TakesNone true h → IsContent b h
empty_content b h e none = record {
  pairs = no_pairs;
  is_map = inl (e, refl);
  has = has_none true h none;
  placed = subst (λ o. IfSome o (IsAhead b)) (sym none.key_id) tt;
}

pub content_of_header : (b : List ℕ) (o : Option Header) → (b ≡ [] → ⊥) → IfSome o (IsHeader b) → IfSome o (IsContent b)
content_of_header b None filled h = h
content_of_header b (Some n) filled h = record { pairs = h.pairs; is_map = inr (filled, h.is_item); has = h.has; placed = h.placed }

content_in : (b x s : List ℕ) (o : Option Ahead) → b ≡ x ++ s → IfSome o (IsAhead s) → IfSome o (IsAhead b)
content_in b x s None e h = h
content_in b x s (Some t) e h = ahead_in b x s t e h

-- ---- the elements after the content

empty_ahead : (b : List ℕ) (t : Ahead) → t.bytes.now ≡ [] → t.behind.now ≡ b → IsAhead b t
empty_ahead b t empty front = record { before = []; parts = sym front ∙ ap (λ y. y ++ t.behind.now) (sym empty) }

one_encoded : (v : Item) (c : List ℕ) → IsEncoding v c → AreEncodings (item v no_items) c
one_encoded v c e = (c, [], e, refl, sym (append-nil c))

-- A signature or a tag.
proof_alone :
    (k : kinds.Kind) (b : List ℕ) (t : Ahead) → ((w : Item) → last_items k t.bytes.now w ≡ item (bytes t.bytes.now) no_items) → IsProof k t.bytes.now
    → Begins (bytes t.bytes.now) t.behind.now b → IsAhead b t → BeginsProof k b t t.behind.now
proof_alone k b t same is e ahead = record {
  recipients = null;
  encoding = e.0;
  parts = e.2;
  are_encoded = subst (λ vs. AreEncodings vs e.0) (sym (same null)) (one_encoded (bytes t.bytes.now) e.0 e.1);
  is_proof = is;
  placed = ahead;
}

pub proof_of_two :
    (k : kinds.Kind) (b : List ℕ) (t : Ahead) → (k ≡ Sign1) ⊎ (k ≡ Mac0) → Begins (bytes t.bytes.now) t.behind.now b → IsAhead b t
    → BeginsProof k b t t.behind.now
proof_of_two k b t (inl is) e ahead = subst (λ j. BeginsProof j b t t.behind.now) (sym is) (proof_alone Sign1 b t (λ w. refl) tt e ahead)
proof_of_two k b t (inr is) e ahead = subst (λ j. BeginsProof j b t t.behind.now) (sym is) (proof_alone Mac0 b t (λ w. refl) tt e ahead)

-- A tag and recipients.
pub proof_and_recipients :
    (b : List ℕ) (t : Ahead) (w : Item) (s : List ℕ) → Begins (bytes t.bytes.now) t.behind.now b → IsAhead b t → Begins w s t.behind.now
    → BeginsProof Mac b t s
proof_and_recipients b t w s e ahead f = record {
  recipients = w;
  encoding = e.0 ++ f.0;
  parts = e.2 ∙ (ap (λ y. e.0 ++ y) f.2 ∙ sym (append_assoc e.0 f.0 s));
  are_encoded = (e.0, f.0, e.1, one_encoded w f.0 f.1, refl);
  is_proof = tt;
  placed = ahead;
}

-- Recipients alone.
pub recipients_alone :
    (b : List ℕ) (t : Ahead) (w : Item) (s : List ℕ) → t.bytes.now ≡ [] → t.behind.now ≡ b → Begins w s b → BeginsProof Encrypt b t s
recipients_alone b t w s empty front f = record {
  recipients = w;
  encoding = f.0;
  parts = f.2;
  are_encoded = one_encoded w f.0 f.1;
  is_proof = empty;
  placed = empty_ahead b t empty front;
}

-- No element.
pub no_proof : (b : List ℕ) (t : Ahead) → t.bytes.now ≡ [] → t.behind.now ≡ b → BeginsProof Encrypt0 b t b
no_proof b t empty front = record {
  recipients = null;
  encoding = [];
  parts = refl;
  are_encoded = refl;
  is_proof = empty;
  placed = empty_ahead b t empty front;
}

pub elements_begin :
    (k : kinds.Kind) (b : List ℕ) (e : Elements) (r s z : List ℕ) → Begins (bytes e.protected.bytes.now) e.protected.behind.now b → IsAhead b e.protected
    → IsContent e.protected.bytes.now e.first → BeginsHeader e.protected.behind.now e.second r → BeginsContent r e.content s → BeginsProof k s e.proof z
    → e.front.now ≡ b → (e.is_plain ≡ true → (e.first.is_plain ≡ true) × (e.second.is_plain ≡ true)) → (e.is_flat ≡ true → IsFlatMessage k e.second)
    → BeginsElements k b e z
elements_begin k b e r s z p p_in first second content proof front plain flat =
    let a : List ℕ = p.0 in
    let m : List ℕ = second.begins.0 in
    let c : List ℕ = content.0.0 in
    let d : List ℕ = proof.encoding in
    let to_r : b ≡ (a ++ m) ++ r = p.2 ∙ (ap (λ y. a ++ y) second.begins.2 ∙ sym (append_assoc a m r)) in
    let to_s : b ≡ ((a ++ m) ++ c) ++ s = to_r ∙ (ap (λ y. (a ++ m) ++ y) content.0.2 ∙ sym (append_assoc (a ++ m) c s)) in record {
      pairs = second.pairs;
      recipients = proof.recipients;
      encoding = a ++ (m ++ (c ++ d));
      parts = to_s ∙ (ap (λ y. ((a ++ m) ++ c) ++ y) proof.parts ∙ sides a m c d z);
      are_encoded = (a, m ++ (c ++ d), p.1, (m, c ++ d, second.begins.1, (c, d, content.0.1, proof.are_encoded, refl), refl), refl);
      are_elements = record {
        first = first;
        second = second.has;
        plain = plain;
        flat = flat;
        is_proof = proof.is_proof;
        front = ((e.protected.behind.now, subst (Begins (bytes e.protected.bytes.now) e.protected.behind.now) (sym front) p), (r, second.begins));
        protected_in = p_in;
        key_id_in = named_in b a e.protected.behind.now e.second.named p.2 second.placed;
        content_in = content_in b (a ++ m) r e.content to_r content.1;
        proof_in = ahead_in b ((a ++ m) ++ c) s e.proof to_s proof.placed;
      };
    }
  where
    sides : (a m c d y : List ℕ) → ((a ++ m) ++ c) ++ (d ++ y) ≡ (a ++ (m ++ (c ++ d))) ++ y
    sides a m c d y =
        append_assoc (a ++ m) c (d ++ y) ∙ (append_assoc a m (c ++ (d ++ y))
        ∙ (ap (λ z. a ++ (m ++ z)) (sym (append_assoc c d y)) ∙ (ap (λ z. a ++ z) (sym (append_assoc m (c ++ d) y)) ∙ sym (append_assoc a (m ++ (c ++ d)) y))))

-- ---- the array

elements_in :
    (k : kinds.Kind) (b x r : List ℕ) (ps : Pairs) (e : Elements) → b ≡ x ++ r → AreElements k r ps e → AreElements k b ps e
elements_in k b x r ps e parts a = record {
  first = a.first;
  second = a.second;
  plain = a.plain;
  flat = a.flat;
  is_proof = a.is_proof;
  front = a.front;
  protected_in = ahead_in b x r e.protected parts a.protected_in;
  key_id_in = named_in b x r e.second.named parts a.key_id_in;
  content_in = content_in b x r e.content parts a.content_in;
  proof_in = ahead_in b x r e.proof parts a.proof_in;
}

counted : (k : kinds.Kind) (e : Elements) (ps : Pairs) (w : Item) → items_count (items_of k e ps w) ≡ elements_of k
counted Sign1 e ps w = refl
counted Mac0 e ps w = refl
counted Encrypt0 e ps w = refl
counted Mac e ps w = refl
counted Encrypt e ps w = refl

pub message_begins :
    (k : kinds.Kind) (n : Option ℕ) (b r s z : List ℕ) (e : Elements) → IsCounted k n → Opens 4 n r b → BeginsElements k r e s → Closes n s z
    → BeginsMessage k b e z
message_begins k n b r s z e is h it close =
    let c = enclosed 4 n (items_count (items_of k e it.pairs it.recipients)) b r it.encoding z h (ends n is close) in
    let x = head_of 4 n r b h in record {
      pairs = it.pairs;
      recipients = it.recipients;
      begins = (c.0, (it.encoding, it.are_encoded, c.1), c.2);
      are_elements = elements_in k b x.0 r it.pairs e x.1 it.are_elements;
    }
  where
    ends : (n : Option ℕ) → IsCounted k n → Closes n s z → EndsWith n (items_count (items_of k e it.pairs it.recipients)) it.encoding z r
    ends (Some m) is close = (counted k e it.pairs it.recipients ∙ sym is, it.parts ∙ ap (λ y. it.encoding ++ y) (sym close))
    ends None is close = it.parts ∙ ap (λ y. it.encoding ++ y) close

-- Nothing in a message without recipients is deeper than what is in its unprotected header.
flat_depth : (k : kinds.Kind) (e : Elements) (ps : Pairs) (w : Item) → has_recipients k ≡ false → pairs_depth ps ≡ 0 → depth (array (items_of k e ps w)) ≡ 2
flat_depth k e ps w alone flat = go k e.content alone
  where
    deep : kinds.Kind → Option Ahead → ℕ → ℕ
    deep k c n = suc (max 0 (max (suc n) (max (depth (content_item (content_of c))) (items_depth (last_items k e.proof.bytes.now w)))))

    go : (k : kinds.Kind) (c : Option Ahead) → has_recipients k ≡ false → deep k c (pairs_depth ps) ≡ 2
    go Sign1 None f = ap (deep Sign1 None) flat
    go Sign1 (Some t) f = ap (deep Sign1 (Some t)) flat
    go Mac0 None f = ap (deep Mac0 None) flat
    go Mac0 (Some t) f = ap (deep Mac0 (Some t)) flat
    go Encrypt0 None f = ap (deep Encrypt0 None) flat
    go Encrypt0 (Some t) f = ap (deep Encrypt0 (Some t)) flat
    go Mac c f = absurd (true≢false f)
    go Encrypt c f = absurd (true≢false f)

-- ---- the tag

shallow : (t : Bool) (n : ℕ) (v : Item) → depth v ≡ 2 → depth (perhaps_tag t n v) ≤ 256
shallow true n v e = subst (λ m. suc m ≤ 256) (sym e) (omega (arith))
shallow false n v e = subst (λ m. m ≤ 256) (sym e) (omega (arith))

-- The bytes begin with the item, which is under its tag if t is true.
with_tag :
    (n : ℕ) (b : List ℕ) (t : Bool) (r : List ℕ) (w : Item) (s : List ℕ) → IsUntagged n b t r → Begins w s r → Begins (perhaps_tag t n w) s b
with_tag n b true r w s h begins = (
  h.head ++ begins.0,
  (begins.0, begins.1, record { head = h.head; is_head = h.is_head; parts = refl }),
  h.parts ∙ (ap (λ y. h.head ++ y) begins.2 ∙ sym (append_assoc h.head begins.0 s)),
)
with_tag n b false r w s h begins = subst (Begins w s) h begins

under_tag : (n : ℕ) (b : List ℕ) (t : Bool) (r : List ℕ) → IsUntagged n b t r → (x : List ℕ) × (b ≡ x ++ r)
under_tag n b true r h = (h.head, h.parts)
under_tag n b false r h = ([], sym h)

module _ (k : kinds.Kind) (b : List ℕ) (t : Bool) (r : List ℕ) (e : Elements) (s : List ℕ) (h : IsUntagged (tag_of k) b t r) (it : BeginsMessage k r e s) where
  abbrev message : Item
  message = perhaps_tag t (tag_of k) (array (items_of k e it.pairs it.recipients))

  begins : Begins message s b
  begins = with_tag (tag_of k) b t r (array (items_of k e it.pairs it.recipients)) s h it.begins

  of_item : IsItem b message → IsMessage k b t e
  of_item is =
      let x = under_tag (tag_of k) b t r h in record {
        pairs = it.pairs;
        recipients = it.recipients;
        is_item = is;
        are_elements = elements_in k b x.0 r it.pairs e x.1 it.are_elements;
      }

  pub message_is : OneItem → (v : Item) → IsItem b v → IsMessage k b t e
  message_is one v is = of_item (subst (IsItem b) (whole_is one b v message s is begins) is)

  pub flat_message : e.is_flat ≡ true → s ≡ [] → IsMessage k b t e
  flat_message flat none =
      let f = it.are_elements.flat flat in
      let deep = flat_depth k e it.pairs it.recipients f.0 (it.are_elements.second.flat f.1) in
      of_item (item_alone b message s none (shallow t (tag_of k) (array (items_of k e it.pairs it.recipients)) deep) begins)
