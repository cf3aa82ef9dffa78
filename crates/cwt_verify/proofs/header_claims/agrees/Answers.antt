use Rattle.std.proofs.Common.{◌≡◌, ◌∙◌, Some, ap, option_map, sym}
use Rattle.coset.specs.Parts.{as_map}
use Rattle.coset.specs.View.{value_item, value_pairs}
use Rattle.coset.specs.Views.{header_view}
use Rattle.cwt_verify.specs.HeaderClaims.{agrees, all_pairs, are_among, claims_in, has_pair}
use Rattle.cwt_verify.proofs.Labels.{if-ok}
use Rattle.cwt_verify.proofs.PairTests.{among-map}
use Rattle.cwt_verify.proofs.header_claims.agrees.Goals as goal

pub returns-clause-answer : goal.returns-clause-answer
returns-clause-answer c =
    let h = header_view c.args.header.now in
    let ps = value_pairs c.args.pairs.now in
    let v = value_item c.in-Some.value.now in
    let claims = c.in-Some-as_map.claims.now.items in
    let there : claims_in h ≡ Some v = sym c.get.ensures ∙ ap (option_map (λ w. value_item w.now)) c.in-Some.is in
    let is_map : as_map v ≡ Some (value_pairs claims) = sym c.as_map.ensures ∙ ap (option_map (λ w. value_pairs w.now.items)) c.in-Some-as_map.is in
    let same : all_pairs (has_pair ps) (value_pairs c.deref.result.now) ≡ agrees ps h =
    ap (λ xs. all_pairs (has_pair ps) (value_pairs xs)) c.deref.ensures.value
    ∙ sym (ap (are_among ps) there ∙ among-map ps v (value_pairs claims) is_map) in
    if-ok (λ b. b ≡ all_pairs (has_pair ps) (value_pairs c.deref.result.now)) (λ b. b ≡ agrees ps h) c.are_among.result (λ b e. e ∙ same)
    c.are_among.ensures.answer
