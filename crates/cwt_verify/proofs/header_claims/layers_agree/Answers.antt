use Rattle.std.proofs.Common.{◌∙◌, sym}
use Rattle.coset.specs.View.{value_pairs}
use Rattle.cwt_verify.specs.HeaderClaims.{layer_agrees}
use Rattle.cwt_verify.specs.Opening.{verified_view}
use Rattle.cwt_verify.specs.declared.layer.VerifiedLayer.{VerifiedLayer}
use Rattle.cwt_verify.proofs.Opened.{all-map}
use Rattle.cwt_verify.proofs.Agreeing.{goes_on, fails_at, none_left}
use Rattle.cwt_verify.proofs.header_claims.layers_agree.Goals as goal

pub loop-layer-preserved : goal.loop-layer-preserved
loop-layer-preserved c =
    let test = λ (x : VerifiedLayer). layer_agrees (value_pairs c.args.pairs.now) (verified_view x) in
    c.loop-layer.invariant
    ∙ goes_on test c.args.layers.now c.loop-layer.layer-index c.layer-item.result c.loop-layer-test.true c.layer-item.is
    (sym c.in_ok-layer_agrees.ensures.answer ∙ c.if-not-branch.false)

pub returns-then-not-branch-clause-answer : goal.returns-then-not-branch-clause-answer
returns-then-not-branch-clause-answer c =
    let all = c.args.layers.now in
    let test = λ (x : VerifiedLayer). layer_agrees (value_pairs c.args.pairs.now) (verified_view x) in
    let found = fails_at test all c.loop-layer.layer-index c.layer-item.result c.loop-layer-test.true c.layer-item.is
    (sym c.in_ok-layer_agrees.ensures.answer ∙ c.if-not-branch.true) in
    sym (all-map (layer_agrees (value_pairs c.args.pairs.now)) verified_view all ∙ (c.loop-layer.invariant ∙ found))

pub returns-clause-answer : goal.returns-clause-answer
returns-clause-answer c =
    let all = c.args.layers.now in
    let test = λ (x : VerifiedLayer). layer_agrees (value_pairs c.args.pairs.now) (verified_view x) in
    let found = none_left test all c.loop-layer.layer-index c.loop-layer-test.false in
    sym (all-map (layer_agrees (value_pairs c.args.pairs.now)) verified_view all ∙ (c.loop-layer.invariant ∙ found))
