use Rattle.std.proofs.Common.{◌≡◌, ◌∙◌, ◌||◌, Bool, false, ap, sym, rules, tests}
use Rattle.std.specs.List.{list_any}
use Rattle.std.proofs.lemmas.Iterator.{YieldsList-from_slice}
use Rattle.std.proofs.lemmas.Iterator.Search.{any_from_yields_List}
use Rattle.coset.specs.LabelData.{as_label, same_label}
use Rattle.coset.specs.Fields.{FieldsView}
use Rattle.coset.specs.LabelViews.{entry_view}
use Rattle.coset.specs.Headers.{fields_in}
use Rattle.coset.specs.Views.{critical_view, header_view}
use Rattle.coset.specs.Header.{out-Header}
use Rattle.cwt_verify.specs.Headers.{is_set}
use Rattle.cwt_verify.proofs.Opened.{any-map, opened}
use Rattle.cwt_verify.proofs.headers.has_label.Goals as goal

pub returns-else-is_set : goal.returns-else-is_set
returns-else-is_set c =
    let h = c.args.header.now in
    let l = as_label (critical_view c.args.label.now) in
    let rest = (out-Header h).rest.items in
    let found = any_from_yields_List (λ e. same_label (entry_view e).0 l) _ _ _ c.any.ensures.ran (YieldsList-from_slice rest cc)
    (λ x b q k. search (rules, tests)) in
    let none : is_set (header_view h) l ≡ false = sym c.is_set.ensures ∙ c.if-is_set.false in
    found
    ∙ (sym (any-map (λ e. same_label e.0 l) entry_view rest)
    ∙ (sym (ap (λ (f : FieldsView). list_any (λ e. same_label e.0 l) f.rest) (opened h))
    ∙ sym (ap (λ (t : Bool). t || list_any (λ e. same_label e.0 l) (fields_in (header_view h)).rest) none)))
