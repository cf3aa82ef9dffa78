-- The elements of a message at the front of bytes (RFC 8152, section 3). Its headers may be invalid.
use Rattle.std.specs.Prelude.{◌≡◌, ◌≢◌, ◌⊎◌, ◌++◌, ℕ, List, [], Option, Some, None, Bool, true, false, IfSome, option_map, ⊤}
use Rattle.coset.specs.Item.{Item, Items, Pairs, item, no_items, no_pairs, array, bytes, dict, null, tag}
use Rattle.coset.specs.Grammar.{AreEncodings, IsHeaded, IsItem}
use Rattle.coset_seen.specs.declared.elements.Elements.{Elements}
use Rattle.coset_seen.specs.declared.forward.Ahead.{Ahead}
use Rattle.coset_seen.specs.declared.kind.Kind as kinds
use Rattle.coset_seen.specs.declared.kind.Kind.TheVariants.{Sign1, Mac0, Encrypt0, Mac, Encrypt}
use Rattle.coset_seen.specs.declared.labels.Header.{Header}
use Rattle.coset_seen.specs.Begins.{Begins, IsAhead}
use Rattle.coset_seen.specs.Kinds.{elements_of, has_recipients, tag_of}
use Rattle.coset_seen.specs.Labels.{Has, IsFlat}

-- The content of a protected header's byte string is empty, or a map of these pairs.
abbrev pub IsFilledMapOf : List ℕ → Pairs → Type 0
IsFilledMapOf b ps = ((b ≡ []) × (ps ≡ no_pairs)) ⊎ ((b ≢ []) × IsItem b (dict ps))

-- The content b of a protected header's byte string has the parameters h.
pub record IsContent (b : List ℕ) (h : Header) : Type 0 where
  pub pairs : Pairs
  pub is_map : IsFilledMapOf b pairs
  pub has : Has pairs h
  pub placed : IfSome h.named.key_id (IsAhead b)

-- The item in the content's place.
abbrev pub content_item : Option (List ℕ) → Item
content_item None = null
content_item (Some t) = bytes t

-- The bytes that are ahead, if there are any.
abbrev pub content_of : Option Ahead → Option (List ℕ)
content_of = option_map (λ t. t.bytes.now)

-- The bytes b begin with the content o, and s follows it.
abbrev pub BeginsContent : List ℕ → Option Ahead → List ℕ → Type 0
BeginsContent b o s = Begins (content_item (content_of o)) s b × IfSome o (IsAhead b)

-- The elements after the content: a signature or a tag, or none. Recipients are left out.
abbrev pub proof_items : kinds.Kind → List ℕ → Items
proof_items Sign1 t = item (bytes t) no_items
proof_items Mac0 t = item (bytes t) no_items
proof_items Encrypt0 t = no_items
proof_items Mac t = item (bytes t) no_items
proof_items Encrypt t = no_items

-- The elements after the content: a signature or a tag t, and the array of recipients w, or none of them.
abbrev pub last_items : kinds.Kind → List ℕ → Item → Items
last_items Sign1 t w = item (bytes t) no_items
last_items Mac0 t w = item (bytes t) no_items
last_items Encrypt0 t w = no_items
last_items Mac t w = item (bytes t) (item w no_items)
last_items Encrypt t w = item w no_items

-- A kind without a signature or a tag has an empty one.
abbrev pub IsProof : kinds.Kind → List ℕ → Type 0
IsProof Encrypt0 t = t ≡ []
IsProof Encrypt t = t ≡ []
IsProof k t = ⊤

-- The bytes b begin with the elements after the content, and s follows them.
pub record BeginsProof (k : kinds.Kind) (b : List ℕ) (t : Ahead) (s : List ℕ) : Type 0 where
  pub recipients : Item
  pub encoding : List ℕ
  pub parts : b ≡ encoding ++ s
  pub are_encoded : AreEncodings (last_items k t.bytes.now recipients) encoding
  pub is_proof : IsProof k t.bytes.now
  pub placed : IsAhead b t

-- A message of kind k, from its protected bytes p, the pairs of its unprotected header, its content, and its signature or
-- tag.
abbrev pub message_items : kinds.Kind → List ℕ → Pairs → Option (List ℕ) → List ℕ → Items
message_items k p us c t = item (bytes p) (item (dict us) (item (content_item c) (proof_items k t)))

-- The same with the array w of its recipients.
abbrev pub laid_items : kinds.Kind → List ℕ → Pairs → Option (List ℕ) → List ℕ → Item → Items
laid_items k p us c t w = item (bytes p) (item (dict us) (item (content_item c) (last_items k t w)))

-- The message with these elements.
abbrev pub items_of : kinds.Kind → Elements → Pairs → Item → Items
items_of k e us w = laid_items k e.protected.bytes.now us (content_of e.content) e.proof.bytes.now w

-- The bytes b begin with the byte string p, and the bytes d with a map.
abbrev pub BeginsHeaders : List ℕ → Pairs → List ℕ → List ℕ → Type 0
BeginsHeaders p us b d = ((r : List ℕ) × Begins (bytes p) r b) × ((s : List ℕ) × Begins (dict us) s d)

-- A message of kind k with the unprotected header h has no recipients, and no item in a value of this header.
abbrev pub IsFlatMessage : kinds.Kind → Header → Type 0
IsFlatMessage k h = (has_recipients k ≡ false) × IsFlat h

-- The elements e of a message of kind k, in the bytes b. The pairs are those of its unprotected header.
pub record AreElements (k : kinds.Kind) (b : List ℕ) (ps : Pairs) (e : Elements) : Type 0 where
  pub first : IsContent e.protected.bytes.now e.first
  pub second : Has ps e.second
  pub plain : e.is_plain ≡ true → (e.first.is_plain ≡ true) × (e.second.is_plain ≡ true)
  pub flat : e.is_flat ≡ true → IsFlatMessage k e.second
  pub is_proof : IsProof k e.proof.bytes.now
  pub front : BeginsHeaders e.protected.bytes.now ps e.front.now e.protected.behind.now
  pub protected_in : IsAhead b e.protected
  pub key_id_in : IfSome e.second.named.key_id (IsAhead b)
  pub content_in : IfSome e.content (IsAhead b)
  pub proof_in : IsAhead b e.proof

-- The bytes b begin with the elements e, and s follows them.
pub record BeginsElements (k : kinds.Kind) (b : List ℕ) (e : Elements) (s : List ℕ) : Type 0 where
  pub pairs : Pairs
  pub recipients : Item
  pub encoding : List ℕ
  pub parts : b ≡ encoding ++ s
  pub are_encoded : AreEncodings (items_of k e pairs recipients) encoding
  pub are_elements : AreElements k b pairs e

-- The number of elements is that of the kind, if it is announced.
abbrev pub IsCounted : kinds.Kind → Option ℕ → Type 0
IsCounted k (Some n) = n ≡ elements_of k
IsCounted k None = ⊤

-- The bytes b begin with an array of the elements e, and s follows it.
pub record BeginsMessage (k : kinds.Kind) (b : List ℕ) (e : Elements) (s : List ℕ) : Type 0 where
  pub pairs : Pairs
  pub recipients : Item
  pub begins : Begins (array (items_of k e pairs recipients)) s b
  pub are_elements : AreElements k b pairs e

-- If t is true, the bytes b are a tag of that number and then r. Otherwise they are r.
abbrev pub IsUntagged : ℕ → List ℕ → Bool → List ℕ → Type 0
IsUntagged n b true r = IsHeaded 6 n r b
IsUntagged n b false r = r ≡ b

-- The item with a tag of that number, if t is true.
abbrev pub perhaps_tag : Bool → ℕ → Item → Item
perhaps_tag true n v = tag n v
perhaps_tag false n v = v

-- The bytes b are a message of kind k with the elements e. It is under its tag if t is true.
pub record IsMessage (k : kinds.Kind) (b : List ℕ) (t : Bool) (e : Elements) : Type 0 where
  pub pairs : Pairs
  pub recipients : Item
  pub is_item : IsItem b (perhaps_tag t (tag_of k) (array (items_of k e pairs recipients)))
  pub are_elements : AreElements k b pairs e
