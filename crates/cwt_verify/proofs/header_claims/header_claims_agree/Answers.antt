use Rattle.std.specs.Prelude.{IfErr}
use Rattle.std.specs.List.{list_all}
use Rattle.std.proofs.Common.{◌≡◌, ◌∙◌, [], ap, map, refl, rules, sym, tests}
use Rattle.std.proofs.lemmas.Iterator.{YieldsList-from_slice}
use Rattle.std.proofs.lemmas.Iterator.Search.{any_from_yields_List}
use Rattle.coset.specs.Grammar.{IsItem}
use Rattle.coset.specs.Item.{Item}
use Rattle.coset.specs.Results.{IsRefused}
use Rattle.coset.specs.Shape.{any}
use Rattle.coset.specs.View.{value_item, value_pairs}
use Rattle.cwt_verify.specs.HeaderClaims.{Agrees, agree, layer_agrees, layer_has_claims, pairs_in}
use Rattle.cwt_verify.specs.Opening.{verified_view}
use Rattle.cwt_verify.proofs.Opened.{any-map}
use Rattle.cwt_verify.proofs.Labels.{if-ok}
use Rattle.cwt_verify.proofs.PairTests.{none-agree}
use Rattle.cwt_verify.proofs.Reading.{passed_on}
use Rattle.cwt_verify.proofs.header_claims.header_claims_agree.Goals as goal

pub returns-then-not-any-clause-answer : goal.returns-then-not-any-clause-answer
returns-then-not-any-clause-answer c = λ v is.
    let ls = c.args.layers.now in
    let found = any_from_yields_List (λ l. layer_has_claims (verified_view l)) _ _ _ c.any.ensures.ran (YieldsList-from_slice ls cc)
    (λ x b q k. search (rules, tests)) in
    none-agree (pairs_in v) (map verified_view ls) (any-map layer_has_claims verified_view ls ∙ (sym found ∙ c.if-not-any.true))

pub returns-in_err-value-clause-refused : goal.returns-in_err-value-clause-refused
returns-in_err-value-clause-refused c =
    passed_on (λ r. IfErr r (λ e. IsRefused any c.args.payload.now e)) c.from_residual.result c.in_err-value.field-0.0 c.from_residual.ensures.1
    (λ n. (c.in_err-value.ensures.read n, c.in_err-value.ensures.refused n))

pub returns-clause-answer : goal.returns-clause-answer
returns-clause-answer c =
    let ls = c.args.layers.now in
    let payload = c.args.payload.now in
    let ps = value_pairs c.pairs_in.result.now in
    let same : (v : Item) → IsItem payload v → agree (map verified_view ls) v ≡ list_all (layer_agrees ps) (map verified_view ls) =
    λ v is.
    let one : v ≡ value_item c.in_ok-value.value =
    (c.one_item.ensures v c.in_ok-value.ensures.read.0 payload payload [] [] is.0 c.in_ok-value.ensures.read.1.0 refl).0 ∙ c.in_ok-value.ensures.read.2 in
    ap (λ (w : Item). agree (map verified_view ls) w) one ∙ ap (λ qs. list_all (layer_agrees qs) (map verified_view ls)) (sym c.pairs_in.ensures) in
    if-ok (λ b. b ≡ list_all (layer_agrees ps) (map verified_view ls)) (λ b. Agrees (map verified_view ls) payload b) c.layers_agree.result
    (λ b e v is. same v is ∙ sym e) c.layers_agree.ensures.answer
