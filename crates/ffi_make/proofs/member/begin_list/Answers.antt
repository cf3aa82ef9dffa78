use Rattle.std.proofs.Common.{◌≡◌, ◌∙◌, IfOk, ap, subst}
use Rattle.coset.specs.Item.{array, item, no_items}
use Rattle.coset.specs.View.{value_items, value_item}
use Rattle.coset_value.specs.declared.value.Value.{Array}
use Rattle.coset_cbor.proofs.Kept.{value_item-Array}
use Rattle.ffi_make.specs.Messages.{and_item}
use Rattle.ffi_make.proofs.Lists.{two_more}
use Rattle.ffi_make.proofs.member.begin_list.Goals as goal

pub returns-clause-places : goal.returns-clause-places
returns-clause-places c =
    let ps = value_items c.args.places.items in
    let v = value_item c.args.last in
    let m = value_item c.args.member in
    let r = c.and_value-3.result in
    let list : value_item (Array c.in_ok-list.list) ≡ array (item m no_items) =
    value_item-Array c.in_ok-list.list ∙ ap array (c.in_ok-list.ensures.values ∙ ap (λ vs. and_item (value_items vs) m) c.new.ensures.items) in
    subst (λ us. IfOk r (λ vs. value_items vs.items ≡ us)) (two_more ps v (array (item m no_items)))
    (subst (λ w. IfOk r (λ vs. value_items vs.items ≡ and_item (and_item ps v) w)) list
    (subst (λ us. IfOk r (λ vs. value_items vs.items ≡ and_item us (value_item (Array c.in_ok-list.list)))) c.in_ok-places.ensures.values
    c.and_value-3.ensures.values))
