-- Claims in headers (RFC 9597), which must be in the payload too.
use Rattle.std.specs.Prelude.{◌≡◌, ◌&&◌, ◌||◌, ℕ, pos, List, Option, Some, None, Bool, true, false, is_some}
use Rattle.std.specs.List.{list_all}
use Rattle.std.specs.Map.{lookup}
use Rattle.coset_value.specs.Same.{item_eq}
use Rattle.coset.specs.Grammar.{IsItem}
use Rattle.coset.specs.Headers.{HeaderView, fields_in}
use Rattle.coset.specs.Item.{Item, dict, Pairs, no_pairs, pair}
use Rattle.coset.specs.LabelData.{number, same_label}
use Rattle.cwt_verify.specs.Layers.{PartView, whole, by_signature, for_recipient}
use Rattle.cwt_verify.specs.Opening.{VerifiedView}

-- Returns true if the test passes for some pair, or for all pairs.
abbrev pub any_pair : (Item → Item → Bool) → Pairs → Bool
any_pair test no_pairs = false
any_pair test (pair k v ps) = test k v || any_pair test ps

abbrev pub all_pairs : (Item → Item → Bool) → Pairs → Bool
all_pairs test no_pairs = true
all_pairs test (pair k v ps) = test k v && all_pairs test ps

-- Returns true if the map has this pair.
abbrev pub has_pair : Pairs → Item → Item → Bool
has_pair ps k v = any_pair (λ l w. item_eq l k && item_eq w v) ps

-- The claims in a header: the value of label 15.
abbrev pub claims_in : HeaderView → Option Item
claims_in h = lookup (same_label (number (pos 15))) (fields_in h).rest

-- The pairs of a map. Any other item has none.
abbrev pub pairs_in : Item → Pairs
pairs_in (dict ps) = ps
pairs_in v = no_pairs

-- Returns true if there are no claims, or if they are a map of pairs that are among these.
abbrev pub are_among : Pairs → Option Item → Bool
are_among ps None = true
are_among ps (Some (dict qs)) = all_pairs (has_pair ps) qs
are_among ps (Some v) = false

-- Returns true if the claims in the header are among these pairs.
abbrev pub agrees : Pairs → HeaderView → Bool
agrees ps h = are_among ps (claims_in h)

-- Returns true if the claims in the headers of the part are among these pairs. The protected header of a recipient is
-- empty.
abbrev pub part_agrees : Pairs → PartView → Bool
part_agrees ps whole = true
part_agrees ps (by_signature s) = agrees ps s.protected.header && agrees ps s.unprotected
part_agrees ps (for_recipient r) = agrees ps r.unprotected

abbrev pub layer_agrees : Pairs → VerifiedView → Bool
layer_agrees ps v = agrees ps v.protected.header && agrees ps v.unprotected && part_agrees ps v.part

-- Returns true if the claims in the headers of the layers, and of their accepted parts, are among the pairs of this item.
abbrev pub agree : List VerifiedView → Item → Bool
agree vs v = list_all (layer_agrees (pairs_in v)) vs

-- Returns true if a header has claims, and if one of a layer has.
abbrev pub has_claims : HeaderView → Bool
has_claims h = is_some (claims_in h)

abbrev pub part_has_claims : PartView → Bool
part_has_claims whole = false
part_has_claims (by_signature s) = has_claims s.protected.header || has_claims s.unprotected
part_has_claims (for_recipient r) = has_claims r.unprotected

abbrev pub layer_has_claims : VerifiedView → Bool
layer_has_claims v = has_claims v.protected.header || has_claims v.unprotected || part_has_claims v.part

-- The answer whether the claims in the headers of these layers are among those in the payload.
abbrev pub Agrees : List VerifiedView → List ℕ → Bool → Type 0
Agrees vs payload b = (v : Item) → IsItem payload v → agree vs v ≡ b
