use Rattle.std.proofs.Common.{◌≡◌, ◌∙◌, Some, ap, sym}
use Rattle.coset.specs.Item.{dict, no_pairs, pair}
use Rattle.coset.specs.View.{value_pairs, value_item}
use Rattle.coset_value.specs.declared.value.Value.{Map}
use Rattle.coset_cbor.proofs.Kept.{value_item-Map}
use Rattle.ffi_make.specs.PairsMade.{pairs_and, with_pair}
use Rattle.ffi_make.proofs.Lists.{pairs_view_push}
use Rattle.ffi_make.proofs.pair.with_pair.Goals as goal

pub returns-in-Map-clause-value : goal.returns-in-Map-clause-value
returns-in-Map-clause-value c =
    let k = c.args.key in
    let v = c.args.value in
    let ps = c.in-Map.pairs in
    let old : value_item c.args.map ≡ dict (value_pairs ps.items) = ap value_item c.in-Map.is ∙ value_item-Map ps in
    let new : value_item (Map c.push.new.self) ≡ dict (pairs_and (value_pairs ps.items) (pair (value_item k) (value_item v) no_pairs)) =
    value_item-Map c.push.new.self ∙ ap dict (ap value_pairs c.in_ok-push-in-Map.ensures.items ∙ pairs_view_push ps.items k v) in
    ap Some new ∙ sym (ap (with_pair (value_item k) (value_item v)) old)
