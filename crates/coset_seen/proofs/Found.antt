-- Messages that are seen or laid out, from their elements.
use Rattle.std.proofs.Common.{◌≡◌, ◌∙◌, ℕ, pos, negsuc, List, Option, Some, None, Bool, true, false, true≢false, refl, sym, ap, subst, inl, inr}
use Rattle.std.specs.Prelude.{IfSome, option_map}
use Rattle.coset.specs.Item.{Item, Pairs, array, bytes, dict, integer}
use Rattle.coset.specs.Grammar.{IsItem}
use Rattle.coset.specs.Headers.{HeaderView, ProtectedView, header, protected}
use Rattle.coset_seen.specs.declared.elements.Elements.{Elements}
use Rattle.coset_seen.specs.declared.forward.Ahead.{Ahead}
use Rattle.coset_seen.specs.declared.kind.Kind as kinds
use Rattle.coset_seen.specs.declared.kind.Kind.TheVariants.{Sign1, Mac0, Encrypt0, Mac, Encrypt}
use Rattle.coset_seen.specs.declared.message.KeyId.{KeyId}
use Rattle.coset_seen.specs.declared.message.Layout.{Layout}
use Rattle.coset_seen.specs.declared.message.Part.{Part}
use Rattle.coset_seen.specs.declared.message.Seen.{Seen}
use Rattle.coset.specs.Shape.{Shape}
use Rattle.coset_seen.specs.Begins.{Begins, IsAhead}
use Rattle.coset_seen.specs.Elements.{AreElements, BeginsHeaders, IsFilledMapOf, IsMessage, IsProof, content_of, laid_items, message_items, perhaps_tag}
use Rattle.coset_seen.specs.Kinds.{has_recipients, tag_of}
use Rattle.coset_seen.specs.Labels.{NamesAlgorithm}
use Rattle.coset_seen.specs.Layout.{IsDescribed, IsLayout}
use Rattle.coset_seen.specs.Named.{value_of}
use Rattle.coset_seen.specs.Seen.{FindsKeyId, IsContentOf, IsKeyId, IsMapOf, IsPart, IsSeen, IsTakenFrom, IsUnderKid, LiesIn, bytes_of}
use Rattle.coset_seen.proofs.Labelling.{named_of}
use Rattle.coset_seen.proofs.Ascending.{plain_view}
use Rattle.coset_seen.proofs.Messages.{OneItem}
use Rattle.coset_seen.proofs.Seeing.{KeyIs, content_of_plain, content_view, message_described, protected_view, view_of}

key_ids :
    (b : List ℕ) (p : Part) (x y : List ℕ) (o q : Option Ahead) (i : Option KeyId) → FindsKeyId b p o q i → KeyIs x o → KeyIs y q → IsKeyId x y i
key_ids b p x y (Some t) q (Some i) f k l = ((λ e. k.1 (k.0 ∙ (sym f.1 ∙ e))), inl (f.0, k.0 ∙ sym f.1))
key_ids b p x y None (Some t) (Some i) f k l = ((λ e. l.1 (l.0 ∙ (sym f.1.0 ∙ e))), inr (f.0, k, l.0 ∙ sym f.1.0))
key_ids b p x y None None None f k l = (k, l)
key_ids b p x y (Some t) q None f k l = absurd f
key_ids b p x y None (Some t) None f k l = absurd f
key_ids b p x y None None (Some i) f k l = absurd f

key_part :
    (b : List ℕ) (p : Part) (o q : Option Ahead) (i : Option KeyId) → FindsKeyId b p o q i → IsPart b p → IfSome o (IsAhead p.bytes.now)
    → IfSome q (IsAhead b) → IfSome i (λ j. IsPart b j.part)
key_part b p (Some t) q (Some i) f is o_in q_in = f.2 is o_in
key_part b p None (Some t) (Some i) f is o_in q_in = f.1.1 q_in
key_part b p None None None f is o_in q_in = tt
key_part b p (Some t) q None f is o_in q_in = absurd f
key_part b p None (Some t) None f is o_in q_in = absurd f
key_part b p None None (Some i) f is o_in q_in = absurd f

content_same : (b : List ℕ) (o : Option Ahead) (q : Option Part) → IsContentOf b o q → content_of o ≡ bytes_of q
content_same b None None f = refl
content_same b (Some t) (Some p) f = ap Some (sym f.0)
content_same b None (Some p) f = absurd f
content_same b (Some t) None f = absurd f

content_part : (b : List ℕ) (o : Option Ahead) (q : Option Part) → IsContentOf b o q → IfSome o (IsAhead b) → IfSome q (IsPart b)
content_part b None None f h = tt
content_part b (Some t) (Some p) f h = f.1 h
content_part b None (Some p) f h = absurd f
content_part b (Some t) None f h = absurd f

under_kid :
    (b : List ℕ) (p : Part) (ps us : Pairs) (o q : Option Ahead) (i : Option KeyId) → FindsKeyId b p o q i
    → value_of (pos 4) ps ≡ option_map (λ t. bytes t.bytes.now) o → value_of (pos 4) us ≡ option_map (λ t. bytes t.bytes.now) q → IsUnderKid ps us i
under_kid b p ps us (Some t) q (Some i) f k l = inl (f.0, k ∙ ap (λ x. Some (bytes x)) (sym f.1))
under_kid b p ps us None (Some t) (Some i) f k l = inr (f.0, k, l ∙ ap (λ x. Some (bytes x)) (sym f.1.0))
under_kid b p ps us None None None f k l = (k, l)
under_kid b p ps us (Some t) q None f k l = absurd f
under_kid b p ps us None (Some t) None f k l = absurd f
under_kid b p ps us None None (Some i) f k l = absurd f

map_of : (b : List ℕ) (ps : Pairs) → IsFilledMapOf b ps → IsMapOf b ps
map_of b ps (inl e) = inl e
map_of b ps (inr h) = inr h.1

-- A kind without recipients.
no_recipients :
    (k : kinds.Kind) (p : List ℕ) (us : Pairs) (c : Option (List ℕ)) (t : List ℕ) (w : Item) → has_recipients k ≡ false
    → laid_items k p us c t w ≡ message_items k p us c t
no_recipients Sign1 p us c t w few = refl
no_recipients Mac0 p us c t w few = refl
no_recipients Encrypt0 p us c t w few = refl
no_recipients Mac p us c t w few = absurd (true≢false few)
no_recipients Encrypt p us c t w few = absurd (true≢false few)

module _ (k : kinds.Kind) (b : List ℕ) (t : Bool) (e : Elements) (s : Seen) (m : IsMessage k b t e) (h : IsTakenFrom k b t e s) where
  abbrev a : AreElements k b m.pairs e
  a = m.are_elements

  is_item :
      IsItem b
      (perhaps_tag s.is_tagged (tag_of k) (array (laid_items k s.protected.bytes.now m.pairs (bytes_of s.content) s.proof.bytes.now m.recipients)))
  is_item =
      let Is : Bool → List ℕ → Option (List ℕ) → List ℕ → Type 0 =
      λ z p c q. IsItem b (perhaps_tag z (tag_of k) (array (laid_items k p m.pairs c q m.recipients))) in
      subst (λ z. Is z s.protected.bytes.now (bytes_of s.content) s.proof.bytes.now) (sym h.is_tagged)
      (subst (λ p. Is t p (bytes_of s.content) s.proof.bytes.now) (sym h.protected.0)
      (subst (λ c. Is t e.protected.bytes.now c s.proof.bytes.now) (content_same b e.content s.content h.content)
      (subst (λ q. Is t e.protected.bytes.now (content_of e.content) q) (sym h.proof.0) m.is_item)))

  is_first : IsFilledMapOf s.protected.bytes.now a.first.pairs
  is_first = subst (λ p. IsFilledMapOf p a.first.pairs) (sym h.protected.0) a.first.is_map

  protected_in : IsPart b s.protected
  protected_in = h.protected.1 a.protected_in

  key_id : IsUnderKid a.first.pairs m.pairs s.key_id
  key_id = under_kid b s.protected a.first.pairs m.pairs e.first.named.key_id e.second.named.key_id s.key_id h.key_id a.first.has.key_id a.second.key_id

  key_id_in : IfSome s.key_id (λ i. IsPart b i.part)
  key_id_in =
      key_part b s.protected e.first.named.key_id e.second.named.key_id s.key_id h.key_id protected_in
      (subst (λ c. IfSome e.first.named.key_id (IsAhead c)) (sym h.protected.0) a.first.placed) a.key_id_in

  is_proof : IsProof k s.proof.bytes.now
  is_proof = subst (IsProof k) (sym h.proof.0) a.is_proof

  pub seen_is : has_recipients k ≡ false → e.is_plain ≡ true → IsSeen k b s
  seen_is few is =
      let plain = a.plain is in
      let first = named_of a.first.pairs e.first a.first.has plain.0 in
      let second = named_of m.pairs e.second a.second plain.1 in
      let x = content_view s.protected.bytes.now a.first.pairs e.first.named is_first (a.first.has.plain plain.0).0 first in
      let u = view_of 16 m.pairs e.second.named (a.second.plain plain.1).0 second in
      let p : ProtectedView = record { original = Some s.protected.bytes.now; header = x.0 } in record {
        protected = p;
        unprotected = u.0;
        describes =
            message_described k s.is_tagged b s.protected.bytes.now m.pairs (bytes_of s.content) s.proof.bytes.now m.recipients p u.0 few is_proof is_item
            (protected_view s.protected.bytes.now x.0 x.1) u.1;
        kind = h.kind;
        kept = refl;
        algorithm = x.2.algorithm ∙ ap (option_map Rattle.coset.specs.LabelData.number) (sym h.algorithm);
        key_id = key_ids b s.protected _ _ e.first.named.key_id e.second.named.key_id s.key_id h.key_id x.2.key_id u.2.key_id;
        protected_in = protected_in;
        key_id_in = key_id_in;
        content_in = content_part b e.content s.content h.content a.content_in;
        proof_in = h.proof.1 a.proof_in;
      }

  pub lies_in : has_recipients k ≡ false → e.is_plain ≡ true → LiesIn k b s
  lies_in few is =
      let plain = a.plain is in record {
        first = a.first.pairs;
        second = m.pairs;
        is_item = subst (λ vs. IsItem b (perhaps_tag s.is_tagged (tag_of k) (array vs)))
            (no_recipients k s.protected.bytes.now m.pairs (bytes_of s.content) s.proof.bytes.now m.recipients few) is_item;
        is_first = map_of s.protected.bytes.now a.first.pairs is_first;
        first_plain = (a.first.has.plain plain.0).0;
        second_plain = (a.second.plain plain.1).0;
        algorithm = (named_of a.first.pairs e.first a.first.has plain.0).algorithm ∙ ap (option_map integer) (sym h.algorithm);
        key_id = key_id;
      }

pub layout_is :
    (k : kinds.Kind) (b : List ℕ) (t : Bool) (e : Elements) (x : Layout) → IsMessage k b t e → IsTakenFrom k b t e x.seen → x.has_text ≡ e.first.has_text
    → (x.is_critical ≡ false → (e.first.is_critical ≡ false) × (e.second.is_critical ≡ false)) → x.is_first_plain ≡ e.first.is_plain
    → x.is_second_plain ≡ e.second.is_plain → x.fronts.0 ≡ e.front → x.fronts.1 ≡ e.protected.behind → IsLayout k b x
layout_is k b t e x m h text critical first second front back =
    let s : Seen = x.seen in
    let a = m.are_elements in record {
      first = a.first.pairs;
      second = m.pairs;
      recipients = m.recipients;
      is_item = is_item k b t e s m h;
      kind = h.kind;
      is_first = is_first k b t e s m h;
      algorithm = subst (λ n. NamesAlgorithm (value_of (pos 1) a.first.pairs) n x.has_text) (sym h.algorithm)
          (subst (NamesAlgorithm (value_of (pos 1) a.first.pairs) e.first.named.algorithm) (sym text) a.first.has.algorithm);
      key_id = key_id k b t e s m h;
      critical = λ f. let c = critical f in (a.first.has.critical c.0, a.second.critical c.1);
      first_plain = λ f. (a.first.has.plain (sym first ∙ f)).0;
      second_plain = λ f. (a.second.plain (sym second ∙ f)).0;
      is_proof = is_proof k b t e s m h;
      fronts = subst (λ p. BeginsHeaders p m.pairs x.fronts.0.now x.fronts.1.now) (sym h.protected.0)
          (subst (λ y. BeginsHeaders e.protected.bytes.now m.pairs y.now x.fronts.1.now) (sym front)
          (subst (λ y. BeginsHeaders e.protected.bytes.now m.pairs e.front.now y.now) (sym back) a.front));
      protected_in = protected_in k b t e s m h;
      key_id_in = key_id_in k b t e s m h;
      content_in = content_part b e.content s.content h.content a.content_in;
      proof_in = h.proof.1 a.proof_in;
    }

-- ---- headers that are plain or decoded

pub first_plain_valid :
    (k : kinds.Kind) (b : List ℕ) (x : Layout) → IsLayout k b x → x.is_first_plain ≡ true
    → (p : ProtectedView) × protected.describes (bytes x.seen.protected.bytes.now) p
first_plain_valid k b x l is =
    let p : List ℕ = x.seen.protected.bytes.now in
    let y = content_of_plain p l.first l.is_first (l.first_plain is) in
    (record { original = Some p; header = y.0 }, protected_view p y.0 y.1)

pub second_plain_valid :
    (k : kinds.Kind) (b : List ℕ) (x : Layout) (l : IsLayout k b x) → x.is_second_plain ≡ true → (u : HeaderView) × header.describes (dict l.second) u
second_plain_valid k b x l is = let u = plain_view 16 (dict l.second) l.second (negsuc 0) refl (l.second_plain is) in (u.0, u.1.describes)

-- What an item at the front of bytes describes.
pub decoded_front :
    {A : Type 0} (s : Shape A) → OneItem → (d : List ℕ) (v w : Item) (r y : List ℕ) → Begins v r d → Begins w y d → (x : A) × s.describes w x
    → (x : A) × s.describes v x
decoded_front s one d v w r y f g x = (x.0, subst (λ z. s.describes z x.0) (one w v g.0 f.0 y r g.1 f.1 (sym g.2 ∙ f.2)).0 x.1)

-- Both headers are valid.
pub described :
    (k : kinds.Kind) (b : List ℕ) (x : Layout) (l : IsLayout k b x) → has_recipients x.seen.kind ≡ false
    → (p : ProtectedView) × protected.describes (bytes x.seen.protected.bytes.now) p → (u : HeaderView) × header.describes (dict l.second) u
    → IsDescribed k b x.seen
described k b x l few p u = (
  p.0,
  u.0,
  message_described k x.seen.is_tagged b x.seen.protected.bytes.now l.second (bytes_of x.seen.content) x.seen.proof.bytes.now l.recipients p.0 u.0
      (sym (ap has_recipients l.kind) ∙ few) l.is_proof l.is_item p.1 u.1,
)
