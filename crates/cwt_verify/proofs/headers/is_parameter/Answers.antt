use Rattle.std.proofs.Common.{◌∙◌, ◌&&◌, ap, rules, tests}
use Rattle.std.specs.List.{list_any}
use Rattle.std.specs.Ordering.{int_eq}
use Rattle.std.proofs.lemmas.Iterator.{YieldsList-from_slice}
use Rattle.std.proofs.lemmas.Iterator.Search.{any_from_yields_List}
use Rattle.cwt_verify.proofs.headers.is_parameter.Goals as goal

pub returns : goal.returns
returns c =
    let i = c.args.label in
    let found = any_from_yields_List (λ p. p.1 && int_eq p.0 i) _ _ _ c.any.ensures.ran (YieldsList-from_slice c.parameters.result cc)
    (λ x b q k. search (rules, tests)) in
    found ∙ ap (list_any (λ p. p.1 && int_eq p.0 i)) c.parameters.ensures
