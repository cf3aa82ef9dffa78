use Rattle.std.proofs.Common.{◌≡◌, ◌<◌, ◌^◌, refl, ◌++◌, length, arith, rules, sym, ap, ◌∙◌}
use Rattle.coset_value.specs.Item.{array, dict, items_count, pairs_count}
use Rattle.coset_cbor.specs.Least.{least_encoding, least_encodings, least_pair_encodings, least_head}
use Rattle.coset_value.specs.View.{value_item, value_items, value_pairs}
use Rattle.coset_cbor.proofs.Kept.{item_put, pair_put, item_in_range, pair_in_range}
use Rattle.coset_cbor.proofs.Kept.{headed_put, items_count-value_items, pairs_count-value_pairs, value_item-Array}
use Rattle.coset_cbor.proofs.Kept.{value_item-Map, value_item-Tag, in_range_of}
use Rattle.coset_cbor.proofs.write.+put.Goals as goal

pub put-returns-in_ok-put_head-in-Array-clause-ok : goal.put-returns-in_ok-put_head-in-Array-clause-ok
put-returns-in_ok-put_head-in-Array-clause-ok t c =
    let v = c.in-Array.items in
    let len : c.len.result ≡ length v.items = search rules in
    headed_put c.put_items.result 4 c.len.result (items_count (value_items v.items))
    (least_encodings (value_items v.items)) c.args.out.now.items c.put_head-in-Array.new.out.items c.put_items.new.out.items
    (least_encoding (value_item c.args.value.now))
    (ap (λ x. least_encoding (value_item x)) c.in-Array.is ∙ ap least_encoding (value_item-Array v))
    (len ∙ sym (items_count-value_items v.items)) c.in_ok-put_head-in-Array.ensures.ok c.put_items.ensures.ok

pub put-returns-in_ok-put_head-in-Map-clause-ok : goal.put-returns-in_ok-put_head-in-Map-clause-ok
put-returns-in_ok-put_head-in-Map-clause-ok t c =
    let v = c.in-Map.pairs in
    let len : c.len-in-Map.result ≡ length v.items = search rules in
    headed_put c.put_pairs.result 5 c.len-in-Map.result (pairs_count (value_pairs v.items))
    (least_pair_encodings (value_pairs v.items)) c.args.out.now.items c.put_head-in-Map.new.out.items c.put_pairs.new.out.items
    (least_encoding (value_item c.args.value.now))
    (ap (λ x. least_encoding (value_item x)) c.in-Map.is ∙ ap least_encoding (value_item-Map v))
    (len ∙ sym (pairs_count-value_pairs v.items)) c.in_ok-put_head-in-Map.ensures.ok c.put_pairs.ensures.ok

pub put_items-loop-item-preserved : goal.put_items-loop-item-preserved
put_items-loop-item-preserved t c = record {
  written = item_put c.deref-item-items.result.now c.loop-item.item-index c.item-item.result c.args.out.now.items c.loop-item.out.items c.put.new.out.items
      (omega arith) c.item-item.is c.loop-item.invariant.written c.in_ok-put.ensures.ok;
  in_range = item_in_range c.deref-item-items.result.now c.loop-item.item-index c.item-item.result
      (omega arith) c.item-item.is c.loop-item.invariant.in_range c.in_ok-put.ensures.in_range;
}

pub put_pairs-loop-key-preserved : goal.put_pairs-loop-key-preserved
put_pairs-loop-key-preserved t c = record {
  written = pair_put c.deref-key-items.result.now c.loop-key.key-index c.loop-key-item.result c.args.out.now.items c.loop-key.out.items c.put.new.out.items
      c.put-in-loop-key.new.out.items (omega arith) c.loop-key-item.is c.loop-key.invariant.written c.in_ok-put.ensures.ok c.in_ok-put-2.ensures.ok;
  in_range = pair_in_range c.deref-key-items.result.now c.loop-key.key-index c.loop-key-item.result
      (omega arith) c.loop-key-item.is c.loop-key.invariant.in_range c.in_ok-put.ensures.in_range c.in_ok-put-2.ensures.in_range;
}

pub put-returns-in_ok-put_head-in-Tag-clause-ok : goal.put-returns-in_ok-put_head-in-Tag-clause-ok
put-returns-in_ok-put_head-in-Tag-clause-ok t c =
    let n = c.in-Tag.number in
    let inner = least_encoding (value_item c.in-Tag.inside.value) in
    let same : value_item c.deref-in-Tag.result.now ≡ value_item c.in-Tag.inside.value = ap value_item c.deref-in-Tag.ensures in
    headed_put c.put.result 6 n n (least_encoding (value_item c.deref-in-Tag.result.now)) c.args.out.now.items c.put_head.new.out.items c.put.new.out.items
    (least_encoding (value_item c.args.value.now))
    (ap (λ x. least_encoding (value_item x)) c.in-Tag.is ∙ ap least_encoding (value_item-Tag n c.in-Tag.inside)
    ∙ ap (λ v. least_head 6 n ++ least_encoding v) (sym same)) refl c.in_ok-put_head-in-Tag.ensures.ok c.put.ensures.ok

pub put-returns-in_ok-put_head-in-Array-clause-in_range : goal.put-returns-in_ok-put_head-in-Array-clause-in_range
put-returns-in_ok-put_head-in-Array-clause-in_range t c =
    let v = c.in-Array.items in
    let len : length v.items < 2 ^ 64 = omega (arith, v.ok.0, v.ok.1, v.small) in
    in_range_of c.put_items.result (value_item c.args.value.now) (array (value_items v.items)) (ap value_item c.in-Array.is ∙ value_item-Array v)
    (λ h. (omega (arith, items_count-value_items v.items), h)) c.put_items.ensures.in_range

pub put-returns-in_ok-put_head-in-Map-clause-in_range : goal.put-returns-in_ok-put_head-in-Map-clause-in_range
put-returns-in_ok-put_head-in-Map-clause-in_range t c =
    let v = c.in-Map.pairs in
    let len : length v.items < 2 ^ 64 = omega (arith, v.ok.0, v.ok.1, v.small) in
    in_range_of c.put_pairs.result (value_item c.args.value.now) (dict (value_pairs v.items)) (ap value_item c.in-Map.is ∙ value_item-Map v)
    (λ h. (omega (arith, pairs_count-value_pairs v.items), h)) c.put_pairs.ensures.in_range
