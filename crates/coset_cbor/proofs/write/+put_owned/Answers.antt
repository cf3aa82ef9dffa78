use Rattle.std.proofs.Common.{◌≡◌, ◌<◌, ◌^◌, length, arith, rules, sym, ap, ◌∙◌}
use Rattle.coset_value.specs.Item.{array, dict, items_count, pairs_count}
use Rattle.coset_value.specs.declared.value.Value.{Value}
use Rattle.coset_cbor.specs.Least.{least_encoding, least_encodings, least_pair_encodings}
use Rattle.coset_value.specs.View.{value_item, value_items, value_pairs}
use Rattle.coset_cbor.proofs.Kept.{headed_put, items_count-value_items, pairs_count-value_pairs, value_item-Array, value_item-Map, in_range_of}
use Rattle.coset_cbor.proofs.Kept.{moved, item_pushed, pair_pushed, items_in_range, pairs_in_range}
use Rattle.coset_cbor.proofs.write.+put_owned.Goals as goal

pub put_owned-returns-in_ok-put_head-in-Array-clause-ok : goal.put_owned-returns-in_ok-put_head-in-Array-clause-ok
put_owned-returns-in_ok-put_head-in-Array-clause-ok t c =
    let v = c.in-Array.array in
    let len : c.len.result ≡ length v.items = search rules in
    headed_put c.put_owned_items.result 4 c.len.result (items_count (value_items v.items))
    (least_encodings (value_items v.items)) c.args.out.now.items c.put_head.new.out.items c.put_owned_items.new.out.items
    (least_encoding (value_item c.args.value))
    (ap (λ x. least_encoding (value_item x)) c.in-Array.is ∙ ap least_encoding (value_item-Array v))
    (len ∙ sym (items_count-value_items v.items)) c.in_ok-put_head-in-Array.ensures.ok c.put_owned_items.ensures.ok

pub put_owned-returns-in_ok-put_head-in-Map-clause-ok : goal.put_owned-returns-in_ok-put_head-in-Map-clause-ok
put_owned-returns-in_ok-put_head-in-Map-clause-ok t c =
    let v = c.in-Map.map in
    let len : c.len-in-Map.result ≡ length v.items = search rules in
    headed_put c.put_owned_pairs.result 5 c.len-in-Map.result (pairs_count (value_pairs v.items))
    (least_pair_encodings (value_pairs v.items)) c.args.out.now.items c.put_head-in-Map.new.out.items c.put_owned_pairs.new.out.items
    (least_encoding (value_item c.args.value))
    (ap (λ x. least_encoding (value_item x)) c.in-Map.is ∙ ap least_encoding (value_item-Map v))
    (len ∙ sym (pairs_count-value_pairs v.items)) c.in_ok-put_head-in-Map.ensures.ok c.put_owned_pairs.ensures.ok

pub put_owned-returns-in_ok-put_head-in-Array-clause-in_range : goal.put_owned-returns-in_ok-put_head-in-Array-clause-in_range
put_owned-returns-in_ok-put_head-in-Array-clause-in_range t c =
    let v = c.in-Array.array in
    let len : length v.items < 2 ^ 64 = omega (arith, v.ok.0, v.ok.1, v.small) in
    in_range_of c.put_owned_items.result (value_item c.args.value) (array (value_items v.items)) (ap value_item c.in-Array.is ∙ value_item-Array v)
    (λ h. (omega (arith, items_count-value_items v.items), h)) c.put_owned_items.ensures.in_range

pub put_owned-returns-in_ok-put_head-in-Map-clause-in_range : goal.put_owned-returns-in_ok-put_head-in-Map-clause-in_range
put_owned-returns-in_ok-put_head-in-Map-clause-in_range t c =
    let v = c.in-Map.map in
    let len : length v.items < 2 ^ 64 = omega (arith, v.ok.0, v.ok.1, v.small) in
    in_range_of c.put_owned_pairs.result (value_item c.args.value) (dict (value_pairs v.items)) (ap value_item c.in-Map.is ∙ value_item-Map v)
    (λ h. (omega (arith, pairs_count-value_pairs v.items), h)) c.put_owned_pairs.ensures.in_range

pub put_owned_items-loop-item-preserved : goal.put_owned_items-loop-item-preserved
put_owned_items-loop-item-preserved t c =
    let so_far = c.loop-item.yielded in
    let kept = c.loop-item.invariant in
    record {
      passed = moved so_far c.in-Some.item _ _ _ kept.passed c.in-Some.ensures.steps.0;
      written = item_pushed so_far c.in-Some.item c.args.out.now.items c.loop-item.out.items c.put_owned.new.out.items
          kept.written c.in_ok-put_owned.ensures.ok;
      in_range = items_in_range so_far c.in-Some.item kept.in_range c.in_ok-put_owned.ensures.in_range;
    }

pub put_owned_pairs-loop-key-preserved : goal.put_owned_pairs-loop-key-preserved
put_owned_pairs-loop-key-preserved t c =
    let so_far = c.loop-key.yielded in
    let pair : Value × Value = (c.in-Some.key, c.in-Some.value) in
    let kept = c.loop-key.invariant in
    record {
      passed = moved so_far pair _ _ _ kept.passed c.in-Some.ensures.steps.0;
      written = pair_pushed so_far pair c.args.out.now.items c.loop-key.out.items c.put_owned.new.out.items c.put_owned-in-loop-key.new.out.items
          kept.written c.in_ok-put_owned.ensures.ok c.in_ok-put_owned-2.ensures.ok;
      in_range = pairs_in_range so_far pair kept.in_range c.in_ok-put_owned.ensures.in_range c.in_ok-put_owned-2.ensures.in_range;
    }
