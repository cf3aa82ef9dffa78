use Rattle.std.proofs.Common.{◌∙◌, ◌||◌, Bool, ap, sym, rules, tests}
use Rattle.std.specs.List.{list_any}
use Rattle.std.proofs.lemmas.Iterator.{YieldsList-from_slice}
use Rattle.std.proofs.lemmas.Iterator.Search.{any_from_yields_List}
use Rattle.std.proofs.lemmas.List.Folds.{list_any-append}
use Rattle.coset.specs.Views.{critical_view, header_view}
use Rattle.cwt_verify.specs.Policy.{is_missing, own_labels, policy_view}
use Rattle.cwt_verify.proofs.Opened.{any-map}
use Rattle.cwt_verify.proofs.policy.Policy.finds_missing.Goals as goal

pub returns-then-lacks_own : goal.returns-then-lacks_own
returns-then-lacks_own c =
    let h = header_view c.args.header.now in
    let p = policy_view c.args.self.now in
    c.if-lacks_own.true
    ∙ sym (list_any-append (is_missing h) own_labels p.critical
    ∙ ap (λ (b : Bool). b || list_any (is_missing h) p.critical) (sym c.lacks_own.ensures ∙ c.if-lacks_own.true))

pub returns-else-lacks_own : goal.returns-else-lacks_own
returns-else-lacks_own c =
    let h = header_view c.args.header.now in
    let p = policy_view c.args.self.now in
    let own = c.args.self.now.critical.now in
    let found = any_from_yields_List (λ l. is_missing h (critical_view l)) _ _ _ c.any.ensures.ran (YieldsList-from_slice own cc)
    (λ x b q k. search (rules, tests)) in
    found
    ∙ (sym (any-map (is_missing h) critical_view own)
    ∙ sym (list_any-append (is_missing h) own_labels p.critical
    ∙ ap (λ (b : Bool). b || list_any (is_missing h) p.critical) (sym c.lacks_own.ensures ∙ c.if-lacks_own.false)))
