use Rattle.std.proofs.Common.{◌≡◌, ◌∙◌, ap, sym, rules, tests}
use Rattle.std.proofs.lemmas.Iterator.{YieldsList-from_slice}
use Rattle.std.proofs.lemmas.Iterator.Search.{all_from_yields_List}
use Rattle.coset.specs.Item.{array}
use Rattle.coset.specs.View.{value_items, value_item}
use Rattle.coset_cbor.proofs.Kept.{value_item-Array}
use Rattle.ffi_query.specs.Critical.{are_known, is_known}
use Rattle.ffi_query.proofs.Known.{each_all}
use Rattle.ffi_query.proofs.critical.are_known.Goals as goal

pub returns-in-Array : goal.returns-in-Array
returns-in-Array c =
    let ns = c.args.known.now in
    let vs = c.in-Array.labels.items in
    let found = all_from_yields_List (λ l. is_known ns (value_item l)) _ _ _ c.all.ensures.ran (YieldsList-from_slice vs cc)
    (λ x b q k. search (rules, tests)) in
    let whole : value_item c.args.labels.now ≡ array (value_items vs) = ap value_item c.in-Array.is ∙ value_item-Array c.in-Array.labels in
    found ∙ sym (ap (are_known ns) whole ∙ each_all ns vs)
