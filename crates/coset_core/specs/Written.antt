-- Headers and signatures as bytes, without an item in between.
use Rattle.std.specs.Prelude.{◌≡◌, ℕ, ◌+◌, List, [], ◌∷◌, ◌++◌, length, filter, Bool, false, not, Option, Some, None, option_map, is_some, ⊤}
use Rattle.coset_value.specs.Item.{Item, bytes}
use Rattle.coset_value.specs.Range.{AreInRange}
use Rattle.coset_value.specs.View.{items_of}
use Rattle.coset_cbor.specs.Least.{least_encodings}
use Rattle.coset_cbor.specs.Shortest.{IsShortest}
use Rattle.coset_iana.specs.HeaderParameter as parameters
use Rattle.coset_iana.specs.declared.headers.HeaderParameter.{HeaderParameter}
use Rattle.coset_iana.specs.declared.headers.HeaderParameter.TheVariants.{Alg, Crit, ContentType, Kid, Iv, PartialIv}
use Rattle.coset_codec.specs.Encoding.{AppendsField}
use Rattle.coset_codec.specs.Maps.{is_nonempty, unless_empty, optional}
use Rattle.coset_codec.specs.Shape.{nonempty_bstr, some_of}
use Rattle.coset_label.specs.Labels.{algorithm}
use Rattle.coset_core.specs.Fields.{FieldsView, critical, content_type as content_type_shape}
use Rattle.coset_core.specs.Headers.{HeaderView, header_of, fields_in, SignatureView, Signatures, signatures_of, are_none, is_empty_header}
use Rattle.coset_core.specs.Headers.{counter_signatures_item, signature_item, signatures_image, header_image, protected_bytes}

-- ---- items, one after the other

-- new is old, followed by the shortest encodings of these items.
pub record AppendsItems (old new : List ℕ) (vs : List Item) : Type 0 where
  pub in_range : AreInRange (items_of vs)
  pub parts : new ≡ old ++ least_encodings (items_of vs)

-- ---- fields

-- new is old, followed by the pairs of labels 1 to 6 whose fields are set.
pub record AppendsFirst (old new : List ℕ) (f : FieldsView) : Type 0 where
  pub behind_alg : List ℕ
  pub behind_crit : List ℕ
  pub behind_content_type : List ℕ
  pub behind_kid : List ℕ
  pub behind_iv : List ℕ
  pub alg : AppendsField (parameters.number Alg) ((optional algorithm).image f.alg) old behind_alg
  pub crit : AppendsField (parameters.number Crit) ((unless_empty (some_of critical)).image f.crit) behind_alg behind_crit
  pub content_type : AppendsField (parameters.number ContentType) ((optional content_type_shape).image f.content_type) behind_crit behind_content_type
  pub key_id : AppendsField (parameters.number Kid) ((unless_empty nonempty_bstr).image f.key_id) behind_content_type behind_kid
  pub iv : AppendsField (parameters.number Iv) ((unless_empty nonempty_bstr).image f.iv) behind_kid behind_iv
  pub partial_iv : AppendsField (parameters.number PartialIv) ((unless_empty nonempty_bstr).image f.partial_iv) behind_iv new

-- Whether each field of a header is set, in the order of their labels.
abbrev pub fields_present : HeaderView → List Bool
fields_present (header_of f ss ts) =
    is_some f.alg ∷ is_nonempty f.crit ∷ is_some f.content_type ∷ is_nonempty f.key_id ∷ is_nonempty f.iv ∷ is_nonempty f.partial_iv
    ∷ not (are_none ss) ∷ not (are_none ts) ∷ is_some f.countersignature0_v2 ∷ []

-- The number of pairs in a header's map.
abbrev pub count_pairs : HeaderView → ℕ
count_pairs h = length (filter (λ b. b) (fields_present h)) + length (fields_in h).rest

-- ---- headers and signatures

-- new is old, followed by the shortest encodings of the arrays of these signatures.
abbrev pub AppendsSignatures : List ℕ → List ℕ → List SignatureView → Type 0
AppendsSignatures old new ss = (vs : List Item) × (signatures_image (signatures_of ss) ≡ Some (items_of vs)) × (length vs ≡ length ss) × AppendsItems old new vs

-- new is old, followed by the pair of this parameter, if there are signatures.
abbrev pub AppendsCounterSignatures : HeaderParameter → List ℕ → List ℕ → Signatures → Type 0
AppendsCounterSignatures p old new ss = AppendsField (parameters.number p) (counter_signatures_item ss (signatures_image ss)) old new

-- The array of a signature.
abbrev pub signature_array : SignatureView → Option Item
signature_array s = signature_item (option_map bytes (protected_bytes s.protected)) (header_image s.unprotected) s.signature

-- ---- the bytes of protected headers

-- If the header is not empty and has no kept bytes, b is the shortest encoding of its map.
abbrev pub AreShortest : Option (List ℕ) → HeaderView → List ℕ → Type 0
AreShortest (Some read) h b = ⊤
AreShortest None h b = is_empty_header h ≡ false → (v : Item) → header_image h ≡ Some v → IsShortest b v

-- The item is a byte string. If the header is not empty and has no kept bytes, the content is the shortest encoding of
-- its map.
abbrev pub HoldsShortest : Option (List ℕ) → HeaderView → Item → Type 0
HoldsShortest original h (bytes b) = AreShortest original h b
HoldsShortest original h v = ⊥
