use Rattle.std.proofs.Common.{◌∙◌, ap, sym, rules, tests}
use Rattle.std.specs.List.{list_any}
use Rattle.std.proofs.lemmas.Iterator.{YieldsList-from_slice}
use Rattle.std.proofs.lemmas.Iterator.Search.{any_from_yields_List}
use Rattle.coset_label.specs.LabelData.{as_label, same_label}
use Rattle.coset_label.specs.Views.{entry_view}
use Rattle.coset_core.specs.Fields.{FieldsView}
use Rattle.coset_core.specs.Views.{critical_view}
use Rattle.coset_core.specs.declared.header.Header.{out-Header}
use Rattle.example_uses.proofs.Opened.{any-map, opened}
use Rattle.example_uses.proofs.headers.has_parameter.Goals as goal

pub returns : goal.returns
returns c =
    let h = c.args.header.now in
    let l = as_label (critical_view c.args.label.now) in
    let rest = (out-Header h).rest.items in
    let found = any_from_yields_List (λ e. same_label (entry_view e).0 l) _ _ _ c.any.ensures.ran (YieldsList-from_slice rest cc)
    (λ x b q k. search (rules, tests)) in
    found ∙ (sym (any-map (λ e. same_label e.0 l) entry_view rest) ∙ sym (ap (λ (f : FieldsView). list_any (λ e. same_label e.0 l) f.rest) (opened h)))
