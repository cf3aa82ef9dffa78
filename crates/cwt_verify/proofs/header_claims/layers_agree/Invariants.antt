use Rattle.std.specs.List.{list_all}
use Rattle.std.proofs.Common.{◌≡◌, drop}
use Rattle.coset.specs.View.{value_pairs}
use Rattle.cwt_verify.specs.HeaderClaims.{layer_agrees}
use Rattle.cwt_verify.specs.Opening.{verified_view}
use Rattle.cwt_verify.specs.declared.layer.VerifiedLayer.{VerifiedLayer}
use Rattle.cwt_verify.proofs.header_claims.layers_agree.Given as goal

-- The layers so far agree.
abbrev pub invariant-loop-layer : goal.invariant-loop-layer
invariant-loop-layer l =
    let test = λ (x : VerifiedLayer). layer_agrees (value_pairs l.pairs) (verified_view x) in
    list_all test l.layers ≡ list_all test (drop l.layer-index l.layers)
