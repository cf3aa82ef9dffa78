use Rattle.std.proofs.Common.{◌≡◌, ◌∙◌, ap, sym, rules, tests}
use Rattle.std.proofs.lemmas.Iterator.{YieldsList-from_slice}
use Rattle.std.proofs.lemmas.Iterator.Search.{any_from_yields_List}
use Rattle.coset.specs.Item.{array}
use Rattle.coset.specs.LabelData.{number}
use Rattle.coset.specs.View.{value_items, value_item}
use Rattle.coset_cbor.proofs.Kept.{value_item-Array}
use Rattle.ffi_query.specs.Critical.{lists}
use Rattle.ffi_query.specs.Labels.{is_label}
use Rattle.ffi_query.proofs.Known.{one_listed}
use Rattle.ffi_query.proofs.critical.is_listed.Goals as goal

pub returns-in-Array : goal.returns-in-Array
returns-in-Array c =
    let n = c.args.wanted in
    let vs = c.in-Array.labels.items in
    let found = any_from_yields_List (λ l. is_label (number n) (value_item l)) _ _ _ c.any.ensures.ran (YieldsList-from_slice vs cc)
    (λ x b q k. search (rules, tests)) in
    let whole : value_item c.args.labels.now ≡ array (value_items vs) = ap value_item c.in-Array.is ∙ value_item-Array c.in-Array.labels in
    found ∙ sym (ap (λ w. lists w n) whole ∙ one_listed n vs)
