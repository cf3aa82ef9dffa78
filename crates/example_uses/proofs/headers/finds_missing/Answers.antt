use Rattle.std.proofs.Common.{◌∙◌, sym, rules, tests}
use Rattle.std.proofs.lemmas.Iterator.{YieldsList-from_slice}
use Rattle.std.proofs.lemmas.Iterator.Search.{any_from_yields_List}
use Rattle.coset_core.specs.Views.{critical_view, header_view}
use Rattle.example_uses.specs.HeaderParts.{is_missing}
use Rattle.example_uses.proofs.Opened.{any-map}
use Rattle.example_uses.proofs.headers.finds_missing.Goals as goal

pub returns : goal.returns
returns c =
    let missing = is_missing (header_view c.args.header.now) in
    let found = any_from_yields_List (λ l. missing (critical_view l)) _ _ _ c.any.ensures.ran (YieldsList-from_slice c.args.known.now cc)
    (λ x b q k. search (rules, tests)) in
    found ∙ sym (any-map missing critical_view c.args.known.now)
