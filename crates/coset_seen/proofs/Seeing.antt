-- Messages, as their types see them.
use Rattle.std.proofs.Common.{◌≡◌, ◌≢◌, ◌∙◌, ℕ, ℤ, pos, negsuc, List, [], ◌∷◌, Option, Some, None, Bool, true}
use Rattle.std.proofs.Common.{false, true≢false, refl, sym, ap, subst, inl, inr}
use Rattle.std.specs.Prelude.{option_map}
use Rattle.coset.specs.Item.{Item, Items, Pairs, tag, array, item, no_items, bytes, dict, integer}
use Rattle.coset.specs.Grammar.{IsItem}
use Rattle.coset.specs.Maps.{optional, unless_empty}
use Rattle.coset.specs.Results.{Describes}
use Rattle.coset.specs.Serialized.{ContentDescribes}
use Rattle.coset.specs.Shape.{◌then◌, Elements as ElementsShape, Shape, bstr, end, nonempty_bstr, or_nil}
use Rattle.coset.specs.ShapeLaws.{some-none, some-one}
use Rattle.coset.specs.Headers.{HeaderView, ProtectedView, empty_header, fields_in, header, layered_header, layered_protected, protected}
use Rattle.coset.specs.Messages.{with_headers}
use Rattle.coset.specs.Encrypt0.{encrypt0}
use Rattle.coset.specs.Mac0.{mac0}
use Rattle.coset.specs.Sign1.{sign1}
use Rattle.coset.specs.LabelData.{RegisteredLabelView, as_label, assigned, number, private_use, text_name}
use Rattle.coset.specs.Labels.{algorithm}
use Rattle.coset_seen.specs.declared.forward.Ahead.{Ahead}
use Rattle.coset_seen.specs.declared.header.Named.{Named}
use Rattle.coset_seen.specs.declared.kind.Kind as kinds
use Rattle.coset_seen.specs.declared.kind.Kind.TheVariants.{Sign1, Mac0, Encrypt0, Mac, Encrypt}
use Rattle.coset_seen.specs.declared.labels.Header.{Header}
use Rattle.coset_seen.specs.Elements.{IsFilledMapOf, IsProof, content_item, laid_items, perhaps_tag}
use Rattle.coset_seen.specs.Kinds.{has_recipients, tag_of}
use Rattle.coset_seen.specs.Labels.{IsHeader}
use Rattle.coset_seen.specs.Named.{AreNamed, value_of}
use Rattle.coset_seen.specs.Seen.{DescribesMessage, in_form}
use Rattle.coset_seen.specs.Plain.{ArePlain}
use Rattle.coset_seen.proofs.Ascending.{plain_view}
use Rattle.coset_seen.proofs.Labelling.{named_of}

-- ---- what a header names

algorithm_is :
    (o : Option ℤ) (a : Option RegisteredLabelView) → (optional algorithm).describes (option_map integer o) a
    → option_map as_label a ≡ option_map number o
unfolding algorithm
algorithm_is None a d = ap (option_map as_label) d
algorithm_is (Some m) None d = absurd d
algorithm_is (Some m) (Some (assigned n)) d = ap (option_map number) (sym d.1.1.0)
algorithm_is (Some m) (Some (private_use n)) d = ap (option_map number) (sym d.1.1.0.0)
algorithm_is (Some m) (Some (text_name s)) d = absurd (true≢false d.0)

-- The key identifier of a header, which is empty if there is none.
abbrev pub KeyIs : List ℕ → Option Ahead → Type 0
KeyIs l None = l ≡ []
KeyIs l (Some t) = (l ≡ t.bytes.now) × (l ≢ [])

key_id_is : (o : Option Ahead) (l : List ℕ) → (unless_empty nonempty_bstr).describes (option_map (λ t. bytes t.bytes.now) o) l → KeyIs l o
key_id_is None l d = d
key_id_is (Some t) l d = (sym (some-one refl d.0), d.1)

-- A header, and what it names.
pub record IsView (n : Named) (x : HeaderView) : Type 0 where
  pub algorithm : option_map as_label (fields_in x).alg ≡ option_map number n.algorithm
  pub key_id : KeyIs (fields_in x).key_id n.key_id

pub view_of :
    (k : ℕ) (ps : Pairs) (n : Named) → ArePlain (negsuc 0) ps → AreNamed ps n
    → (x : HeaderView) × (layered_header k).describes (dict ps) x × IsView n x
view_of k ps n plain named =
    let x = plain_view k (dict ps) ps (negsuc 0) refl plain in (
      x.0,
      x.1.describes,
      record {
        algorithm = algorithm_is n.algorithm (fields_in x.0).alg
            (subst (λ o. (optional algorithm).describes o (fields_in x.0).alg) named.algorithm x.1.algorithm);
        key_id = key_id_is n.key_id (fields_in x.0).key_id
            (subst (λ o. (unless_empty nonempty_bstr).describes o (fields_in x.0).key_id) named.key_id x.1.key_id);
      },
    )

nothing : {A : Type 0} (f : A → Item) (o : Option A) → option_map f o ≡ None → None ≡ o
nothing f None e = refl
nothing f (Some x) e = absurd (some-none refl e)

-- The header in the content of a protected header's byte string.
pub content_view :
    (b : List ℕ) (ps : Pairs) (n : Named) → IsFilledMapOf b ps → ArePlain (negsuc 0) ps → AreNamed ps n
    → (x : HeaderView) × ContentDescribes empty_header (layered_header 15) b x × IsView n x
content_view b ps n (inl e) plain named = (
  empty_header,
  subst (λ c. ContentDescribes empty_header (layered_header 15) c empty_header) (sym e.0) refl,
  record {
    algorithm = ap (option_map number) (nothing integer n.algorithm (sym named.algorithm ∙ ap (value_of (pos 1)) e.1));
    key_id = subst (KeyIs []) (nothing (λ t. bytes t.bytes.now) n.key_id (sym named.key_id ∙ ap (value_of (pos 4)) e.1)) refl;
  },
)
content_view [] ps n (inr h) plain named = absurd (h.0 refl)
content_view (c ∷ b) ps n (inr h) plain named =
    let x = view_of 15 ps n plain named in
    (x.0, (dict ps, h.1, x.1), x.2)

-- Plain pairs in the content of a protected header's byte string.
pub content_of_plain :
    (b : List ℕ) (ps : Pairs) → IsFilledMapOf b ps → ArePlain (negsuc 0) ps → (x : HeaderView) × ContentDescribes empty_header (layered_header 15) b x
content_of_plain b ps (inl e) plain = (empty_header, subst (λ c. ContentDescribes empty_header (layered_header 15) c empty_header) (sym e.0) refl)
content_of_plain [] ps (inr h) plain = absurd (h.0 refl)
content_of_plain (c ∷ b) ps (inr h) plain =
    let x = plain_view 15 (dict ps) ps (negsuc 0) refl plain in (x.0, (dict ps, h.1, x.1.describes))

pub protected_view :
    (b : List ℕ) (x : HeaderView) → ContentDescribes empty_header (layered_header 15) b x
    → protected.describes (bytes b) (record { original = Some b; header = x })
unfolding layered_protected
protected_view b x d = (b, refl, refl, d)

pub content_describes : (o : Option (List ℕ)) → (or_nil bstr).describes (content_item o) o
content_describes None = (refl, refl)
content_describes (Some t) = (refl, refl)

-- ---- messages

-- The two headers and the content of the elements.
three :
    {A : Type 0} (ps : ElementsShape A) (p : List ℕ) (x : ProtectedView) (u : HeaderView) (us : Pairs) (o : Option (List ℕ)) (vs : Items) (y : A)
    → protected.describes (bytes p) x → header.describes (dict us) u → ps.describes vs y
    → (with_headers (or_nil bstr then ps)).describes (array (item (bytes p) (item (dict us) (item (content_item o) vs)))) (x, (u, (o, y)))
three ps p x u us o vs y d e f = (_, refl, (d, (e, (content_describes o, f))))

-- The item describes the value in its form.
formed :
    {A : Type 0} (s : Shape A) (t : Bool) (n : ℕ) (b : List ℕ) (w : Item) (x : A) → IsItem b (perhaps_tag t n w) → s.describes w x
    → Describes (in_form t n s) b x
formed s true n b w x is d = (tag n w, is, (w, refl, d))
formed s false n b w x is d = (w, is, d)

pub message_described :
    (k : kinds.Kind) (t : Bool) (b p : List ℕ) (us : Pairs) (c : Option (List ℕ)) (s : List ℕ) (w : Item) (x : ProtectedView) (u : HeaderView)
    → has_recipients k ≡ false → IsProof k s → IsItem b (perhaps_tag t (tag_of k) (array (laid_items k p us c s w)))
    → protected.describes (bytes p) x → header.describes (dict us) u
    → DescribesMessage k t b x u c s
message_described Sign1 t b p us c s w x u few is_proof is d f =
    formed sign1 t 18 b (array (laid_items Sign1 p us c s w)) _ is (three (bstr then end) p x u us c (item (bytes s) no_items) (s, tt) d f (refl, tt))
message_described Mac0 t b p us c s w x u few is_proof is d f =
    formed mac0 t 17 b (array (laid_items Mac0 p us c s w)) _ is (three (bstr then end) p x u us c (item (bytes s) no_items) (s, tt) d f (refl, tt))
message_described Encrypt0 t b p us c s w x u few is_proof is d f =
    (formed encrypt0 t 16 b (array (laid_items Encrypt0 p us c s w)) _ is (three end p x u us c no_items tt d f tt), is_proof)
message_described Mac t b p us c s w x u few is_proof is d f = absurd (true≢false few)
message_described Encrypt t b p us c s w x u few is_proof is d f = absurd (true≢false few)

-- A plain header that was found.
pub plain_header_found :
    (b : List ℕ) (h : Header) → IsHeader b h → h.is_plain ≡ true → (k : ℕ) → (x : HeaderView) × Describes (layered_header k) b x
plain_header_found b n h t k =
    let x = view_of k h.pairs n.named (h.has.plain t).0 (named_of h.pairs n h.has t) in
    (x.0, (dict h.pairs, h.is_item, x.1))
