-- Claims in headers: tests of the pairs of a map, as values and as items.
use Rattle.std.proofs.Common.{◌≡◌, ◌∙◌, ◌&&◌, ◌||◌, Bool, true, false, true≢false, List, [], ◌∷◌, Option, Some, None, ap, is_some, refl}
use Rattle.std.specs.List.{list_all, list_any}
use Rattle.coset_value.specs.declared.value.Value.{Value}
use Rattle.coset.specs.Item.{Item, Pairs, array, boolean, bytes, dict, float, integer, null, tag, text}
use Rattle.coset.specs.Parts.{as_map}
use Rattle.coset.specs.View.{value_item, value_pairs}
use Rattle.cwt_verify.specs.HeaderClaims.{all_pairs, any_pair, are_among, claims_in, has_claims, has_pair, layer_agrees}
use Rattle.cwt_verify.specs.HeaderClaims.{layer_has_claims, part_agrees, part_has_claims}
use Rattle.cwt_verify.specs.Layers.{PartView, whole, by_signature, for_recipient}
use Rattle.cwt_verify.specs.Opening.{VerifiedView}

pub any_pair-of : (test : Item → Item → Bool) (xs : List (Value × Value))
    → any_pair test (value_pairs xs) ≡ list_any (λ p. test (value_item p.0) (value_item p.1)) xs
any_pair-of test [] = refl
any_pair-of test (x ∷ xs) = ap (λ (b : Bool). test (value_item x.0) (value_item x.1) || b) (any_pair-of test xs)

pub all_pairs-of : (test : Item → Item → Bool) (xs : List (Value × Value))
    → all_pairs test (value_pairs xs) ≡ list_all (λ p. test (value_item p.0) (value_item p.1)) xs
all_pairs-of test [] = refl
all_pairs-of test (x ∷ xs) = ap (λ (b : Bool). test (value_item x.0) (value_item x.1) && b) (all_pairs-of test xs)

abbrev among : Pairs → Option Pairs → Bool
among ps None = false
among ps (Some qs) = all_pairs (has_pair ps) qs

-- The claims in a header are a map.
pub among-map : (ps : Pairs) (v : Item) (qs : Pairs) → as_map v ≡ Some qs → are_among ps (Some v) ≡ all_pairs (has_pair ps) qs
among-map ps (dict rs) qs e = ap (among ps) e
among-map ps (integer n) qs e = absurd (cc)
among-map ps (text s) qs e = absurd (cc)
among-map ps (bytes s) qs e = absurd (cc)
among-map ps (float x) qs e = absurd (cc)
among-map ps (boolean b) qs e = absurd (cc)
among-map ps null qs e = absurd (cc)
among-map ps (tag t v) qs e = absurd (cc)
among-map ps (array vs) qs e = absurd (cc)

no-claims : (ps : Pairs) (o : Option Item) → is_some o ≡ false → are_among ps o ≡ true
no-claims ps None e = refl
no-claims ps (Some v) e = absurd (true≢false e)

neither : (a b : Bool) → a || b ≡ false → (a ≡ false) × (b ≡ false)
neither true b e = absurd (true≢false e)
neither false b e = (refl, e)

both-true : (a b : Bool) → a ≡ true → b ≡ true → a && b ≡ true
both-true true b e f = f
both-true false b e f = e

-- If no header of the part has claims, it agrees with any pairs.
part-agrees : (ps : Pairs) (x : PartView) → part_has_claims x ≡ false → part_agrees ps x ≡ true
part-agrees ps whole e = refl
part-agrees ps (by_signature s) e =
    let own = neither (has_claims s.protected.header) (has_claims s.unprotected) e in
    both-true (are_among ps (claims_in s.protected.header)) (are_among ps (claims_in s.unprotected))
    (no-claims ps (claims_in s.protected.header) own.0) (no-claims ps (claims_in s.unprotected) own.1)
part-agrees ps (for_recipient r) e = no-claims ps (claims_in r.unprotected) e

-- If no header of the layers has claims, they agree with any pairs.
pub none-agree : (ps : Pairs) (vs : List VerifiedView) → list_any layer_has_claims vs ≡ false → list_all (layer_agrees ps) vs ≡ true
none-agree ps [] e = refl
none-agree ps (v ∷ vs) e =
    let parts = neither (layer_has_claims v) (list_any layer_has_claims vs) e in
    let own = neither (has_claims v.protected.header || has_claims v.unprotected) (part_has_claims v.part) parts.0 in
    let headers = neither (has_claims v.protected.header) (has_claims v.unprotected) own.0 in
    let agreed : layer_agrees ps v ≡ true =
    both-true (are_among ps (claims_in v.protected.header) && are_among ps (claims_in v.unprotected)) (part_agrees ps v.part)
    (both-true (are_among ps (claims_in v.protected.header)) (are_among ps (claims_in v.unprotected))
    (no-claims ps (claims_in v.protected.header) headers.0) (no-claims ps (claims_in v.unprotected) headers.1))
    (part-agrees ps v.part own.1) in
    ap (λ (b : Bool). b && list_all (layer_agrees ps) vs) agreed ∙ none-agree ps vs parts.1
