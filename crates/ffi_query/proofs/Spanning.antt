-- Texts that are given by their places.
use Rattle.std.proofs.Common.{◌≡◌, ◌∙◌, ◌++◌, ◌-◌, ◌+◌, ℕ, ℤ, List, [], length}
use Rattle.std.proofs.Common.{Option, Some, Result, Ok, Err, Bool, true, false, true≢false, ap, sym, subst, refl, arith}
use Rattle.std.proofs.lemmas.List.{append-nil, append_assoc, length-append}
use Rattle.std.specs.Prelude.{if◌then◌else◌}
use Rattle.coset.specs.Item.{Item}
use Rattle.ffi_query.specs.declared.kind.Kind as kinds
use Rattle.ffi_query.specs.declared.kind.Kind.TheVariants.{Encrypt0, Encrypt}
use Rattle.ffi_query.specs.declared.borrowed.Texts.{Texts}
use Rattle.ffi_query.specs.declared.refusal.Refusal as refusals
use Rattle.ffi_query.specs.declared.refusal.Refusal.TheVariants.{Short, Absent, WrongType, Empty, Misuse, Cose}
use Rattle.ffi_query.specs.declared.spans.MessageSpans.{MessageSpans}
use Rattle.ffi_query.specs.declared.spans.Start.{Start}
use Rattle.ffi_query.specs.declared.view.MessageView.{MessageView}
use Rattle.ffi_query.specs.Results.{IsEncodingOf, ReturnsWith}
use Rattle.ffi_query.specs.Kinds.{TellsTagOf, tag_of}
use Rattle.ffi_query.specs.Borrowed.{AreTexts, KnowsAlgorithm, structure_by}
use Rattle.ffi_query.specs.Located.{AreLocated}
use Rattle.ffi_query.specs.Spans.{AreUnsizedSpans, HasStructureOf, IsAt, IsMessageSpans, IsStart, copied}
use Rattle.ffi_query.specs.Spans.{copied_spans, is_encrypted, refusal_of, with_structure}
use Rattle.ffi_query.specs.Structures.{is_given_twice}
use Rattle.ffi_query.specs.View.{IsMessageView}
use Rattle.std.specs.Option.{option_copied}
use Rattle.coset.specs.ShapeLaws.{some-none, some-one}
use Rattle.coset_seen.specs.declared.message.Layout.{Layout}
use Rattle.coset_seen.specs.declared.structure.StructureError.{StructureError}
use Rattle.coset_seen.specs.declared.structure.StructureError.TheVariants as seen
use Rattle.coset_seen.specs.Seen.{PutsStructure, bytes_of}
use Rattle.ffi_query.specs.Seen.{IsSeenOf, seen_item, signed_of}
use Rattle.ffi_query.proofs.Laid.{item_of, structure_of_seen}
use Rattle.ffi_query.proofs.Lending.{says_of}
use Rattle.ffi_query.proofs.EachKind.{memory_refuses}

-- The place where a text of the input begins.
pub begins_at : (b s r : List ℕ) (n : ℕ) → n ≡ length b - length r → AreLocated b s r → IsAt b n s
begins_at b s r n is l =
    let all = ap length l.ends ∙ length-append l.before r in record {
      before = l.before;
      behind = l.behind;
      parts = l.ends ∙ ap (λ x. l.before ++ x) l.begins;
      offset = omega (arith, is, all);
    }

in_input : (b t s u : List ℕ) (p : Start) → p.is_input ≡ true → u ≡ s → IsAt b p.at s → IsStart b t p u
in_input b t s u p is e h = subst (λ x. IsAt (if x then b else t) p.at u) (sym is) (subst (IsAt b p.at) (sym e) h)

at_front : (t s : List ℕ) → s ≡ t → IsAt t 0 s
at_front t s e = record { before = []; behind = []; parts = sym (append-nil s ∙ e); offset = refl }

module _
    (k : kinds.Kind) (i : ℕ) (aad : List ℕ) (d : Option (List ℕ)) (ns : List ℤ) (b old new : List ℕ) (Q : Item → refusals.Refusal → Type 0)
  where
    -- Texts that were written one after another, by their places.
    copied_is : (v : Item) (n : MessageView) (t : List ℕ) → IsMessageView k i aad d ns b v n t → IsMessageSpans k i aad d ns b v (copied_spans n) t
    copied_is v n t h =
        let view = h.0 in
        let s = view.signed in
        let p = view.proof in
        let c = view.content in
        let u = view.key_id in
        let x = length-append s (p ++ (c ++ u)) in
        let y = length-append p (c ++ u) in
        let z = length-append c u in
        let all : n.len ≡ length s + (length p + (length c + length u)) =
        view.len ∙ (ap length view.is_text ∙ omega (arith, x, y, z)) in
        let two = length-append s p in
        let three = length-append (s ++ p) c in record {
          text = t;
          view = view;
          is_tagged = h.1;
          is_once = h.2;
          structure = record { before = []; behind = p ++ (c ++ u); parts = view.is_text; offset = refl };
          proof = record { before = s; behind = c ++ u; parts = view.is_text; offset = view.structure_len };
          content = record {
            before = s ++ p;
            behind = u;
            parts = view.is_text ∙ sym (append_assoc s p (c ++ u));
            offset = omega (arith, all, two, view.content_len, view.key_id_len);
          };
          key_id = record {
            before = (s ++ p) ++ c;
            behind = [];
            parts =
                view.is_text
                ∙ (sym (append_assoc s p (c ++ u)) ∙ (sym (append_assoc (s ++ p) c u) ∙ ap (λ q. ((s ++ p) ++ c) ++ q) (sym (append-nil u))));
            offset = omega (arith, all, two, three, view.key_id_len);
          };
          len = view.len;
        }

    pub copied_answered :
        (r : Result MessageView refusals.Refusal) → ReturnsWith k b (IsMessageView k i aad d ns b) Q old new r
        → ReturnsWith k b (IsMessageSpans k i aad d ns b) Q old new (copied r)
    copied_answered (Ok n) h = (h.0, h.1, (h.2.0, copied_is h.0 n h.2.0 h.2.1, h.2.2))
    copied_answered (Err (Short m)) h =
        (h.0, h.1, (copied_spans h.2.0, (h.2.1.0, copied_is h.0 h.2.0 h.2.1.0 h.2.1.1, h.2.1.2)))
    copied_answered (Err (Cose e)) h = h
    copied_answered (Err Absent) h = h
    copied_answered (Err WrongType) h = h
    copied_answered (Err Empty) h = h
    copied_answered (Err Misuse) h = h

-- ---- texts in the input

-- The view and the places of texts, once the structure is written.
pub plain_spans_are :
    (k : kinds.Kind) (i : ℕ) (aad : List ℕ) (d : Option (List ℕ)) (ns : List ℤ) (b t : List ℕ) (v : Item) (x : Texts) (tagged : Bool) (sum : ℕ)
    (m : MessageSpans) → AreTexts k d b v x → AreUnsizedSpans b x tagged sum m
    → sum ≡ 0 + (length x.proof.bytes.now + (length x.content.bytes.now + length x.key_id.text.bytes.now))
    → IsEncodingOf (structure_by k aad x.protected.now (option_copied x.signed)) t → TellsTagOf (tag_of k) b tagged → is_given_twice k d v ≡ false
    → IsMessageSpans k i aad d ns b v (with_structure m (length t)) t
plain_spans_are k i aad d ns b t v x tagged sum m texts spans sums encoded tells once =
    let n = with_structure m (length t) in
    let all : n.view.len ≡ n.view.structure_len + (n.view.proof_len + (n.view.content_len + n.view.key_id_len)) =
    omega (arith, spans.len, sums, spans.proof_len, spans.content_len, spans.key_id_len) in
    let says =
    says_of b aad t i d ns v n.view x (subst (KnowsAlgorithm v) (sym spans.algorithm) texts.is_algorithm) spans.place spans.uncritical
    spans.understood refl spans.proof_len spans.content_len spans.key_id_len all k texts encoded in record {
      text = says.text;
      view = says.view;
      is_tagged = subst (TellsTagOf (tag_of k) b) (sym spans.is_tagged) tells;
      is_once = once;
      structure = at_front t says.view.signed says.is_signed;
      proof = in_input b t x.proof.bytes.now says.view.proof m.proof spans.proof.0 says.is_proof (spans.proof.1 texts.proof_in_b);
      content = in_input b t x.content.bytes.now says.view.content m.content spans.content.0 says.is_content (spans.content.1 texts.content_in_b);
      key_id = in_input b t x.key_id.text.bytes.now says.view.key_id m.key_id spans.key_id.0 says.is_key_id (spans.key_id.1 texts.key_id_in_b);
      len = refl;
    }

-- An encrypted message has the same structure over any content.
pub encrypted_same : (k : kinds.Kind) → is_encrypted k ≡ true → (c e d : Option (List ℕ)) → HasStructureOf k c e d
encrypted_same (Encrypt0 f) is c e d = λ aad p. refl
encrypted_same (Encrypt f) is c e d = λ aad p. refl
encrypted_same k is c e d = absurd (true≢false (sym is))

-- The structure over the texts x, from the one that was written over the content that e gives.
pub structure_is :
    (k : kinds.Kind) (b aad t : List ℕ) (d e : Option (List ℕ)) (y : Layout) (x : Texts) → x.protected.now ≡ y.seen.protected.bytes.now
    → option_copied x.signed ≡ signed_of (bytes_of y.seen.content) d → HasStructureOf k (bytes_of y.seen.content) e d
    → IsEncodingOf (structure_by k aad y.seen.protected.bytes.now (signed_of (bytes_of y.seen.content) e)) t
    → IsEncodingOf (structure_by k aad x.protected.now (option_copied x.signed)) t
structure_is k b aad t d e y x protected signed same encoded =
    subst (λ o. IsEncodingOf (structure_by k aad x.protected.now o) t) (sym signed)
    (subst (λ p. IsEncodingOf (structure_by k aad p (signed_of (bytes_of y.seen.content) d)) t) (sym protected)
    (subst (λ o. IsEncodingOf o t) (same aad y.seen.protected.bytes.now) encoded))

-- A structure that couldn't be written.
pub plain_refused :
    (k : kinds.Kind) (i : ℕ) (aad : List ℕ) (d given : Option (List ℕ)) (ns : List ℤ) (b : List ℕ) (y : Layout) (h : IsSeenOf k b y) (x : Texts) (sum : ℕ)
    (m : MessageSpans) (old new : List ℕ) (Q : Item → refusals.Refusal → Type 0) (e : StructureError) (r : refusals.Refusal)
    → AreTexts k d b (seen_item h) x → x.protected.now ≡ y.seen.protected.bytes.now → option_copied x.signed ≡ signed_of (bytes_of y.seen.content) d
    → HasStructureOf k (bytes_of y.seen.content) given d → AreUnsizedSpans b x y.seen.is_tagged sum m
    → sum ≡ 0 + (length x.proof.bytes.now + (length x.content.bytes.now + length x.key_id.text.bytes.now)) → TellsTagOf (tag_of k) b y.seen.is_tagged
    → is_given_twice k d (seen_item h) ≡ false → PutsStructure y.seen aad y.seen.content given old new (Err e) → refusal_of e ≡ Some r
    → ReturnsWith k b (IsMessageSpans k i aad d ns b) Q old new (Err r)
plain_refused k i aad d given ns b y h x sum m old new Q (seen.Short n) r texts protected signed same spans sums tells once puts is =
    let found = structure_of_seen k b y h aad old new given (Err (seen.Short n)) puts ((λ e. absurd (cc)), (λ e. absurd (cc))) in
    let t = found.0 in
    let encoded = structure_is k b aad t d given y x protected signed same found.1 in
    let are = plain_spans_are k i aad d ns b t (seen_item h) x y.seen.is_tagged sum m texts spans sums encoded tells once in
    subst (λ q. ReturnsWith k b (IsMessageSpans k i aad d ns b) Q old new (Err q)) (some-one refl is)
    (seen_item h, item_of k b y h, (with_structure m (length t), (t, are, found.2)))
plain_refused k i aad d given ns b y h x sum m old new Q seen.OutOfMemory r texts protected signed same spans sums tells once puts is =
    let found = structure_of_seen k b y h aad old new given (Err seen.OutOfMemory) puts ((λ e. absurd (cc)), (λ e. absurd (cc))) in
    subst (λ q. ReturnsWith k b (IsMessageSpans k i aad d ns b) Q old new (Err q)) (some-one refl is) (memory_refuses k b _ refl, found.2.1)
plain_refused k i aad d given ns b y h x sum m old new Q seen.NoContent r texts protected signed same spans sums tells once puts is =
    absurd (some-none refl (sym is))
plain_refused k i aad d given ns b y h x sum m old new Q seen.TwoContents r texts protected signed same spans sums tells once puts is =
    absurd (some-none refl (sym is))
