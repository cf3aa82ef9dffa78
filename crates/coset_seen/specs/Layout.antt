-- Messages, laid out in the bytes that encode them. Their headers may be invalid.
use Rattle.std.specs.Prelude.{◌≡◌, ℕ, pos, negsuc, List, None, true, false, IfSome}
use Rattle.coset.specs.Item.{Item, Pairs, array}
use Rattle.coset.specs.Grammar.{IsItem}
use Rattle.coset.specs.Headers.{HeaderView, ProtectedView}
use Rattle.coset_seen.specs.declared.kind.Kind as kinds
use Rattle.coset_seen.specs.declared.message.Layout.{Layout}
use Rattle.coset_seen.specs.declared.message.Seen.{Seen}
use Rattle.coset_seen.specs.Elements.{BeginsHeaders, IsFilledMapOf, IsProof, laid_items, perhaps_tag}
use Rattle.coset_seen.specs.Kinds.{tag_of}
use Rattle.coset_seen.specs.Labels.{NamesAlgorithm}
use Rattle.coset_seen.specs.Named.{value_of}
use Rattle.coset_seen.specs.Plain.{ArePlain}
use Rattle.coset_seen.specs.Seen.{DescribesMessage, IsPart, IsUnderKid, bytes_of}

-- How the message of kind k lies in the bytes b. `first` and `second` are the pairs of its headers.
pub record IsLayout (k : kinds.Kind) (b : List ℕ) (x : Layout) : Type 0 where
  pub first : Pairs
  pub second : Pairs
  pub recipients : Item
  pub is_item :
      IsItem b (perhaps_tag x.seen.is_tagged (tag_of k)
      (array (laid_items k x.seen.protected.bytes.now second (bytes_of x.seen.content) x.seen.proof.bytes.now recipients)))
  pub kind : x.seen.kind ≡ k
  pub is_first : IsFilledMapOf x.seen.protected.bytes.now first
  pub algorithm : NamesAlgorithm (value_of (pos 1) first) x.seen.algorithm x.has_text
  pub key_id : IsUnderKid first second x.seen.key_id
  pub critical : x.is_critical ≡ false → (value_of (pos 2) first ≡ None) × (value_of (pos 2) second ≡ None)
  pub first_plain : x.is_first_plain ≡ true → ArePlain (negsuc 0) first
  pub second_plain : x.is_second_plain ≡ true → ArePlain (negsuc 0) second
  pub is_proof : IsProof k x.seen.proof.bytes.now
  pub fronts : BeginsHeaders x.seen.protected.bytes.now second x.fronts.0.now x.fronts.1.now
  pub protected_in : IsPart b x.seen.protected
  pub key_id_in : IfSome x.seen.key_id (λ i. IsPart b i.part)
  pub content_in : IfSome x.seen.content (IsPart b)
  pub proof_in : IsPart b x.seen.proof

-- The bytes b describe the message s, with some headers.
abbrev pub IsDescribed : kinds.Kind → List ℕ → Seen → Type 0
IsDescribed k b s =
    (p : ProtectedView) × (u : HeaderView) × DescribesMessage k s.is_tagged b p u (bytes_of s.content) s.proof.bytes.now
