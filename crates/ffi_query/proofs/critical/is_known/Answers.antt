use Rattle.std.proofs.Common.{◌∙◌, ap, rules, tests}
use Rattle.std.specs.Ordering.{int_eq}
use Rattle.std.proofs.lemmas.Iterator.{YieldsList-from_slice}
use Rattle.std.proofs.lemmas.Iterator.Search.{any_from_yields_List}
use Rattle.ffi_query.specs.Critical.{is_among}
use Rattle.ffi_query.proofs.critical.is_known.Goals as goal

pub returns-in-Some : goal.returns-in-Some
returns-in-Some c =
    let n = c.in-Some.number in
    let ns = c.args.known.now in
    let found = any_from_yields_List (λ m. int_eq m n) _ _ _ c.any.ensures.ran (YieldsList-from_slice ns cc) (λ x b q k. search (rules, tests)) in
    found ∙ ap (is_among ns) c.in-Some.ensures
