use Rattle.std.proofs.Common.{◌∙◌, ◌&&◌, ap, is_some, option_map, rules, sym, tests}
use Rattle.std.specs.List.{list_any}
use Rattle.std.proofs.lemmas.Iterator.{YieldsList-from_slice}
use Rattle.std.proofs.lemmas.Iterator.Search.{any_from_yields_List}
use Rattle.coset.specs.Fields.{FieldsView}
use Rattle.coset.specs.Header.{out-Header}
use Rattle.coset.specs.LabelViews.{algorithm_view}
use Rattle.cwt_keys.specs.Table.{of_form, row_for}
use Rattle.cwt_verify.specs.Policy.{is_named}
use Rattle.cwt_verify.proofs.Opened.{opened}
use Rattle.cwt_verify.proofs.policy.Policy.allows.Goals as goal

pub returns : goal.returns
returns c =
    let h = c.args.header.now in
    let all = c.args.self.now.algorithms.now in
    let found = any_from_yields_List
    (λ a. is_named (option_map algorithm_view (out-Header h).alg) a && is_some (of_form c.args.form (row_for a))) _ _ _ c.any.ensures.ran
    (YieldsList-from_slice all cc) (λ x b q k. search (rules, tests)) in
    found ∙ sym (ap (λ (f : FieldsView). list_any (λ a. is_named f.alg a && is_some (of_form c.args.form (row_for a))) all) (opened h))
