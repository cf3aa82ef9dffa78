-- A claims set's understood claims, and those whose numbers are neither assigned by IANA nor for private use (RFC 8392,
-- section 3). The audience is a text or an array of texts (RFC 8392, section 3.1.3; RFC 7519, section 4.1.3).
use Rattle.std.specs.Prelude.{◌≡◌, ◌⊎◌, ℕ, List, [], ◌∷◌, Option, Some, None, Bool, true, false, Result, Ok, Err, map, string_bytes, if◌then◌else◌}
use Rattle.std.specs.Map.{keys_of}
use Rattle.std.specs.Option.{option_to_list}
use Rattle.std.specs.Ordering.{int_eq}
use Rattle.coset_value.specs.Item.{Item, Items, Pairs, array, no_pairs, pair, dict}
use Rattle.coset_value.specs.Parts.{as_array, as_map}
use Rattle.coset_value.specs.View.{value_pairs}
use Rattle.coset_cbor.specs.Elements.{items_left}
use Rattle.coset_iana.specs.CwtClaimName as claim_names
use Rattle.coset_iana.specs.declared.claims.CwtClaimName.TheVariants.{Aud}
use Rattle.coset_codec.specs.Errors.{IsUnexpected, UnlessMemory}
use Rattle.coset_codec.specs.Maps.{SomePair, are_distinct}
use Rattle.coset_codec.specs.Shape.{Shape, some_of, tstr}
use Rattle.coset_codec.specs.declared.error.CoseError.{CoseError}
use Rattle.coset_codec.specs.declared.error.CoseError.TheVariants.{DuplicateMapKey}
use Rattle.coset_label.specs.Labels.{label, cose_labels, is_known}
use Rattle.coset_label.specs.LabelData.{LabelView, RegisteredLabelView}
use Rattle.coset_label.specs.Views.{entry_view}
use Rattle.coset_claims.specs.Claims.{ClaimsView, claim_name, claims, claims_view}
use Rattle.coset_claims.specs.declared.known.KnownClaims.{KnownClaims}
use Rattle.coset_claims.specs.declared.known.Parts.{Parts}

-- ---- views

-- The labels and values of claims that no claims set can contain.
abbrev pub Others : Type 0
Others = List (LabelView × Item)

-- The view of known claims. `audience` is all names of the claim `aud`, in order.
pub record KnownView : Type 0 where
  pub claims : ClaimsView
  pub audience : List (List ℕ)
  pub others : Others

abbrev pub known_view : KnownClaims → KnownView
known_view c = record {
  claims = claims_view c.claims;
  audience = map string_bytes c.audience.items;
  others = map entry_view c.others.items;
}

-- The claims without others. The audience is a text, if there is one.
abbrev pub only_claims : ClaimsView → KnownView
only_claims c = record { claims = c; audience = option_to_list c.audience; others = [] }

-- ---- the pairs

-- The key is the name of a claim that a claims set can contain.
abbrev pub IsName : Item → Type 0
IsName k = (n : RegisteredLabelView) × claim_name.describes k n

abbrev pub IsNamed : Bool → Item → Type 0
IsNamed true k = IsName k
IsNamed false k = IsName k → ⊥

-- The key is the number of the claim `aud`.
abbrev pub is_aud : Item → Bool
is_aud = is_known (λ i. int_eq i (claim_names.number Aud))

-- The elements of the array, if the pair is the claim `aud` with an array.
abbrev pub aud_array : Item → Item → Option Items
aud_array k v = if is_aud k then as_array v else None

-- The pairs of a claims set without `aud` as an array, the elements of each `aud` that is an array, and all other pairs
-- with the labels of their keys. Each group is in order.
abbrev pub Splits : Pairs → Pairs → List Items → Others → Type 0
Splits no_pairs ns auds us = (ns ≡ no_pairs) × (auds ≡ []) × (us ≡ [])
Splits (pair k v ps) ns auds us =
    ((vs : Items) × (ws : List Items) × (aud_array k v ≡ Some vs) × (auds ≡ vs ∷ ws) × Splits ps ns ws us)
    ⊎ ((aud_array k v ≡ None) × IsName k × ((ms : Pairs) × (ns ≡ pair k v ms) × Splits ps ms auds us))
    ⊎ ((IsName k → ⊥) × ((l : LabelView) × (ws : Others) × label.describes k l × (us ≡ (l, v) ∷ ws) × Splits ps ns auds ws))

-- The key is neither a claim's name nor a label, and `e` is its fault as a label.
abbrev pub IsNoLabel : CoseError → Item → Item → Type 0
IsNoLabel e k v = (IsName k → ⊥) × label.faults k e

-- ---- the audience

-- [+ tstr]
abbrev pub texts : Shape (List (List ℕ))
texts = some_of tstr

-- The names of the claim `aud`. It occurs at most once, in one of the arrays or as the text.
abbrev pub IsAudience : List Items → Option (List ℕ) → List (List ℕ) → Type 0
IsAudience [] text xs = xs ≡ option_to_list text
IsAudience (vs ∷ []) None xs = texts.describes (array vs) xs
IsAudience (vs ∷ []) (Some s) xs = ⊥
IsAudience (vs ∷ ws ∷ auds) text xs = ⊥

-- The faults of the claim `aud`: a fault of the only array, or more than one occurrence.
abbrev pub AudienceFaults : List Items → Option (List ℕ) → CoseError → Type 0
AudienceFaults [] text e = ⊥
AudienceFaults (vs ∷ []) None e = texts.faults (array vs) e
AudienceFaults (vs ∷ []) (Some s) e = e ≡ DuplicateMapKey
AudienceFaults (vs ∷ ws ∷ auds) text e = e ≡ DuplicateMapKey

-- The result of reading the claim `aud`, given its arrays and the text.
abbrev pub ReadsAudience : {T : Type 0} → (T → List (List ℕ)) → List Items → Option (List ℕ) → Result T CoseError → Type 0
ReadsAudience view auds text (Ok x) = IsAudience auds text (view x)
ReadsAudience view auds text (Err e) = UnlessMemory e (AudienceFaults auds text)

-- ---- the shape

-- The pairs split into a claims set, its audience, and others, whose labels are distinct.
abbrev pub AreKnown : Pairs → KnownView → Type 0
AreKnown ps x =
    (ns : Pairs) × (auds : List Items) × Splits ps ns auds x.others
    × claims.describes (dict ns) x.claims × IsAudience auds x.claims.audience x.audience × (are_distinct cose_labels.same (keys_of x.others) ≡ true)

-- The faults of split pairs: a label that the others repeat, a fault in the claims set, or in its audience.
abbrev pub SplitFaults : Pairs → List Items → Others → CoseError → Type 0
SplitFaults ns auds us e =
    ((are_distinct cose_labels.same (keys_of us) ≡ false) × (e ≡ DuplicateMapKey))
    ⊎ claims.faults (dict ns) e ⊎ ((c : ClaimsView) × claims.describes (dict ns) c × AudienceFaults auds c.audience e)

-- The faults of pairs: a key that is no label, or a fault in the pairs after they are split.
abbrev pub KnownFaults : Pairs → CoseError → Type 0
KnownFaults ps e =
    SomePair (IsNoLabel e) ps ⊎ ((ns : Pairs) × (auds : List Items) × (us : Others) × Splits ps ns auds us × SplitFaults ns auds us e)

-- {claims, ? 3 => tstr / [+ tstr], * label => any}: the claims that a claims set can contain, with any audience, and
-- all others. This shape is never written.
abbrev pub known : Shape KnownView
known = record {
  describes = λ v x. (ps : Pairs) × (as_map v ≡ Some ps) × AreKnown ps x;
  image = λ x. None;
  faults = λ v e. ((as_map v ≡ None) × IsUnexpected e) ⊎ ((ps : Pairs) × (as_map v ≡ Some ps) × KnownFaults ps e);
}

-- ---- the result of splitting

-- The view of the groups of pairs.
pub record PartsView : Type 0 where
  pub named : Pairs
  pub audiences : List Items
  pub others : Others

abbrev pub parts_view : Parts → PartsView
parts_view s = record { named = value_pairs s.named.items; audiences = map items_left s.audiences.items; others = map entry_view s.others.items }

-- The result of splitting pairs by their keys.
abbrev pub SplitsOff : {T : Type 0} → Pairs → (T → PartsView) → Result T CoseError → Type 0
SplitsOff ps view (Ok s) = Splits ps (view s).named (view s).audiences (view s).others
SplitsOff ps view (Err e) = UnlessMemory e (λ f. SomePair (IsNoLabel f) ps)
