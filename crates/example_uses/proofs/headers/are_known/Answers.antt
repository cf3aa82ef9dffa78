use Rattle.std.proofs.Common.{◌∙◌, map, sym, rules, tests}
use Rattle.std.proofs.lemmas.Iterator.{YieldsList-from_slice}
use Rattle.std.proofs.lemmas.Iterator.Search.{all_from_yields_List}
use Rattle.coset_core.specs.Views.{critical_view}
use Rattle.coset_core.specs.declared.header.Header.{out-Header}
use Rattle.cwt_verify.proofs.Opened.{all-critical}
use Rattle.example_uses.specs.HeaderParts.{is_one_of}
use Rattle.example_uses.proofs.headers.are_known.Goals as goal

pub returns : goal.returns
returns c =
    let h = c.args.header.now in
    let known = is_one_of (map critical_view c.args.known.now) in
    let found = all_from_yields_List (λ l. known (critical_view l)) _ _ _ c.all.ensures.ran (YieldsList-from_slice (out-Header h).crit.items cc)
    (λ x b q k. search (rules, tests)) in
    found ∙ sym (all-critical h known)
