use Rattle.std.proofs.Common.{◌∙◌, ◌&&◌, ap, rules, tests}
use Rattle.std.specs.List.{list_any}
use Rattle.std.proofs.lemmas.Iterator.{YieldsList-from_slice}
use Rattle.std.proofs.lemmas.Iterator.Search.{any_from_yields_List}
use Rattle.coset.specs.Views.{header_view}
use Rattle.cwt_verify.specs.Headers.{is_parameter}
use Rattle.cwt_verify.proofs.headers.share_parameter.Goals as goal

pub returns : goal.returns
returns c =
    let g = header_view c.args.other.now in
    let found = any_from_yields_List (λ p. p.1 && is_parameter g p.0) _ _ _ c.any.ensures.ran (YieldsList-from_slice c.parameters.result cc)
    (λ x b q k. search (rules, tests)) in
    found ∙ ap (list_any (λ p. p.1 && is_parameter g p.0)) c.parameters.ensures
