use Rattle.std.proofs.Common.{◌∙◌, sym, rules, tests}
use Rattle.std.proofs.lemmas.Iterator.{YieldsList-from_slice}
use Rattle.std.proofs.lemmas.Iterator.Search.{any_from_yields_List}
use Rattle.coset_claims.specs.Claims.{same_label}
use Rattle.coset_core.specs.Views.{critical_view}
use Rattle.coset_core.specs.declared.header.Header.{out-Header}
use Rattle.cwt_verify.proofs.Opened.{any-critical}
use Rattle.example_uses.proofs.headers.is_listed.Goals as goal

pub returns : goal.returns
returns c =
    let h = c.args.header.now in
    let m = critical_view c.args.label.now in
    let found = any_from_yields_List (λ l. same_label m (critical_view l)) _ _ _ c.any.ensures.ran (YieldsList-from_slice (out-Header h).crit.items cc)
    (λ x b q k. search (rules, tests)) in
    found ∙ sym (any-critical h (same_label m))
