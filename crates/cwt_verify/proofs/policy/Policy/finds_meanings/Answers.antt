use Rattle.std.proofs.Common.{◌∙◌, sym, rules, tests}
use Rattle.std.proofs.lemmas.Iterator.{YieldsList-from_slice}
use Rattle.std.proofs.lemmas.Iterator.Search.{all_from_yields_List}
use Rattle.coset.specs.Header.{out-Header}
use Rattle.coset.specs.Views.{critical_view}
use Rattle.cwt_verify.specs.Policy.{has_meaning, policy_view}
use Rattle.cwt_verify.proofs.Opened.{all-critical}
use Rattle.cwt_verify.proofs.policy.Policy.finds_meanings.Goals as goal

pub returns : goal.returns
returns c =
    let h = c.args.header.now in
    let meant = has_meaning (policy_view c.args.self.now) in
    let found = all_from_yields_List (λ l. meant (critical_view l)) _ _ _ c.all.ensures.ran (YieldsList-from_slice (out-Header h).crit.items cc)
    (λ x b q k. search (rules, tests)) in
    found ∙ sym (all-critical h meant)
