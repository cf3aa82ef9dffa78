-- Messages, seen in the bytes that encode them.
use Rattle.std.specs.Prelude.{◌≡◌, ◌≢◌, ◌++◌, ◌⊎◌, ℕ, pos, negsuc, List, [], Option, Some, None, Bool, true, false, Result}
use Rattle.std.specs.Prelude.{Ok, Err, IfSome, length, option_map, ⊤}
use Rattle.std.specs.Borrow.{Bor}
use Rattle.coset.specs.Item.{Pairs, no_pairs, array, bytes, dict, integer}
use Rattle.coset.specs.Grammar.{IsItem}
use Rattle.coset.specs.Results.{Describes}
use Rattle.coset.specs.Shape.{Shape, tagged}
use Rattle.coset.specs.Headers.{HeaderView, ProtectedView, fields_in}
use Rattle.coset.specs.LabelData.{as_label, number}
use Rattle.coset.specs.Encrypt0.{encrypt0}
use Rattle.coset.specs.Mac0.{mac0}
use Rattle.coset.specs.Sign1.{sign1}
use Rattle.coset_seen.specs.declared.elements.Elements.{Elements}
use Rattle.coset_seen.specs.declared.forward.Ahead.{Ahead}
use Rattle.coset_seen.specs.declared.kind.Kind as kinds
use Rattle.coset_seen.specs.declared.kind.Kind.TheVariants.{Sign1, Mac0, Encrypt0}
use Rattle.coset_seen.specs.declared.message.KeyId.{KeyId}
use Rattle.coset_seen.specs.declared.message.Part.{Part}
use Rattle.coset_seen.specs.declared.message.Seen.{Seen}
use Rattle.coset_seen.specs.declared.structure.StructureError as errors
use Rattle.coset_seen.specs.declared.structure.StructureError.TheVariants.{NoContent, TwoContents}
use Rattle.coset_seen.specs.Begins.{IsAhead}
use Rattle.coset_seen.specs.Elements.{message_items, perhaps_tag}
use Rattle.coset_seen.specs.Kinds.{tag_of}
use Rattle.coset_seen.specs.Named.{value_of}
use Rattle.coset_seen.specs.Plain.{ArePlain}
use Rattle.coset_seen.specs.Structures.{MakesItem, PutsItem, structure_of}

-- ---- parts

-- The part's bytes are in b at its offset.
pub record IsPart (b : List ℕ) (p : Part) : Type 0 where
  pub before : List ℕ
  pub behind : List ℕ
  pub parts : b ≡ before ++ (p.bytes.now ++ behind)
  pub offset : p.at ≡ length before

-- The part p has the bytes t, and is in b if they are.
abbrev pub IsPartOf : List ℕ → Ahead → Part → Type 0
IsPartOf b t p = (p.bytes.now ≡ t.bytes.now) × (IsAhead b t → IsPart b p)

-- The same for bytes that may be absent.
abbrev pub IsContentOf : List ℕ → Option Ahead → Option Part → Type 0
IsContentOf b None None = ⊤
IsContentOf b (Some t) (Some p) = IsPartOf b t p
IsContentOf b o q = ⊥

-- The key identifier of a message in b. That of the protected header comes first; it is in the protected bytes, the part p.
abbrev pub FindsKeyId : List ℕ → Part → Option Ahead → Option Ahead → Option KeyId → Type 0
FindsKeyId b p (Some t) o (Some i) =
    (i.is_protected ≡ true) × (i.part.bytes.now ≡ t.bytes.now) × (IsPart b p → IsAhead p.bytes.now t → IsPart b i.part)
FindsKeyId b p None (Some t) (Some i) = (i.is_protected ≡ false) × IsPartOf b t i.part
FindsKeyId b p None None None = ⊤
FindsKeyId b p o q i = ⊥

-- The parts of the message s are those of the elements e, in the bytes b.
pub record IsTakenFrom (k : kinds.Kind) (b : List ℕ) (t : Bool) (e : Elements) (s : Seen) : Type 0 where
  pub kind : s.kind ≡ k
  pub is_tagged : s.is_tagged ≡ t
  pub algorithm : s.algorithm ≡ e.first.named.algorithm
  pub protected : IsPartOf b e.protected s.protected
  pub key_id : FindsKeyId b s.protected e.first.named.key_id e.second.named.key_id s.key_id
  pub content : IsContentOf b e.content s.content
  pub proof : IsPartOf b e.proof s.proof

-- ---- messages

-- The value as it is, or under a tag of that number if the bool is true.
abbrev pub in_form : {A : Type 0} → Bool → ℕ → Shape A → Shape A
in_form true n s = tagged n s
in_form false n s = s

-- The bytes b describe a message of kind k with these headers, this content, and this signature or tag. It is under its
-- tag if t is true.
abbrev pub DescribesMessage : kinds.Kind → Bool → List ℕ → ProtectedView → HeaderView → Option (List ℕ) → List ℕ → Type 0
DescribesMessage Sign1 t b p u c s = Describes (in_form t 18 sign1) b (record { protected = p; unprotected = u; payload = c; signature = s })
DescribesMessage Mac0 t b p u c s = Describes (in_form t 17 mac0) b (record { protected = p; unprotected = u; payload = c; tag = s })
DescribesMessage Encrypt0 t b p u c s = Describes (in_form t 16 encrypt0) b (record { protected = p; unprotected = u; ciphertext = c }) × (s ≡ [])
DescribesMessage k t b p u c s = ⊥

-- The last argument is the first key identifier that isn't empty: p of the protected header, or u of the unprotected one.
abbrev pub IsKeyId : List ℕ → List ℕ → Option KeyId → Type 0
IsKeyId p u None = (p ≡ []) × (u ≡ [])
IsKeyId p u (Some i) =
    (i.part.bytes.now ≢ [])
    × (((i.is_protected ≡ true) × (p ≡ i.part.bytes.now)) ⊎ ((i.is_protected ≡ false) × (p ≡ []) × (u ≡ i.part.bytes.now)))

-- The bytes of the part, if there is one.
abbrev pub bytes_of : Option Part → Option (List ℕ)
bytes_of = option_map (λ p. p.bytes.now)

-- The bytes b describe a message of kind k, and s has its fields. Each part is in b.
pub record IsSeen (k : kinds.Kind) (b : List ℕ) (s : Seen) : Type 0 where
  pub protected : ProtectedView
  pub unprotected : HeaderView
  pub describes : DescribesMessage k s.is_tagged b protected unprotected (bytes_of s.content) s.proof.bytes.now
  pub kind : s.kind ≡ k
  pub kept : protected.original ≡ Some s.protected.bytes.now
  pub algorithm : option_map as_label (fields_in protected.header).alg ≡ option_map number s.algorithm
  pub key_id : IsKeyId (fields_in protected.header).key_id (fields_in unprotected).key_id s.key_id
  pub protected_in : IsPart b s.protected
  pub key_id_in : IfSome s.key_id (λ i. IsPart b i.part)
  pub content_in : IfSome s.content (IsPart b)
  pub proof_in : IsPart b s.proof

-- ---- items

-- i is the key identifier under its label, 4, in the pairs ps of the protected header, or else in the pairs us.
abbrev pub IsUnderKid : Pairs → Pairs → Option KeyId → Type 0
IsUnderKid ps us None = (value_of (pos 4) ps ≡ None) × (value_of (pos 4) us ≡ None)
IsUnderKid ps us (Some i) =
    ((i.is_protected ≡ true) × (value_of (pos 4) ps ≡ Some (bytes i.part.bytes.now)))
    ⊎ ((i.is_protected ≡ false) × (value_of (pos 4) ps ≡ None) × (value_of (pos 4) us ≡ Some (bytes i.part.bytes.now)))

-- The content of a protected header's byte string is empty, or a map of these pairs.
abbrev pub IsMapOf : List ℕ → Pairs → Type 0
IsMapOf b ps = ((b ≡ []) × (ps ≡ no_pairs)) ⊎ IsItem b (dict ps)

-- How the message s lies in the bytes b. Both headers are plain.
pub record LiesIn (k : kinds.Kind) (b : List ℕ) (s : Seen) : Type 0 where
  pub first : Pairs
  pub second : Pairs
  pub is_item : IsItem b (perhaps_tag s.is_tagged (tag_of k) (array (message_items k s.protected.bytes.now second (bytes_of s.content) s.proof.bytes.now)))
  pub is_first : IsMapOf s.protected.bytes.now first
  pub first_plain : ArePlain (negsuc 0) first
  pub second_plain : ArePlain (negsuc 0) second
  pub algorithm : value_of (pos 1) first ≡ option_map integer s.algorithm
  pub key_id : IsUnderKid first second s.key_id

-- ---- structures

-- The content that the structure is over: the carried one, or the given one d.
abbrev pub GivesContent : Option Part → Option (List ℕ) → Result (Bor (List ℕ)) errors.StructureError → Type 0
GivesContent (Some p) None (Ok c) = c.now ≡ p.bytes.now
GivesContent None (Some d) (Ok c) = c.now ≡ d
GivesContent (Some p) (Some d) (Err e) = e ≡ TwoContents
GivesContent None None (Err e) = e ≡ NoContent
GivesContent o d r = ⊥

-- Writing the structure of the message s over the carried content, or over the given one d.
abbrev pub PutsStructure : Seen → List ℕ → Option Part → Option (List ℕ) → List ℕ → List ℕ → Result ℕ errors.StructureError → Type 0
PutsStructure s aad (Some p) None old new r = PutsItem (structure_of s.kind s.protected.bytes.now aad p.bytes.now) old new r
PutsStructure s aad None (Some d) old new r = PutsItem (structure_of s.kind s.protected.bytes.now aad d) old new r
PutsStructure s aad (Some p) (Some d) old new r = (r ≡ Err TwoContents) × (new ≡ old)
PutsStructure s aad None None old new r = (r ≡ Err NoContent) × (new ≡ old)

-- Making that structure.
abbrev pub MakesStructure :
    {V : Type 0} → (V → List ℕ) → Seen → List ℕ → Option Part → Option (List ℕ) → Result V errors.StructureError → Type 0
MakesStructure items s aad (Some p) None r = MakesItem items (structure_of s.kind s.protected.bytes.now aad p.bytes.now) r
MakesStructure items s aad None (Some d) r = MakesItem items (structure_of s.kind s.protected.bytes.now aad d) r
MakesStructure items s aad (Some p) (Some d) r = r ≡ Err TwoContents
MakesStructure items s aad None None r = r ≡ Err NoContent
