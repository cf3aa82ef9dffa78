use Rattle.std.proofs.Common.{◌≡◌, ◌++◌, take}
use Rattle.coset_value.specs.Range.{AreInRange, ArePairsInRange}
use Rattle.coset_value.specs.View.{value_items, value_pairs}
use Rattle.coset_cbor.specs.Least.{least_encodings, least_pair_encodings}
use Rattle.coset_cbor.proofs.write.+put.Given as goal

abbrev pub invariant-put_items-loop-item : goal.invariant-put_items-loop-item
invariant-put_items-loop-item l = record {
  written : l.out.items ≡ l.initial.out.items ++ least_encodings (value_items (take l.item-index l.item-items));
  in_range : AreInRange (value_items (take l.item-index l.item-items));
}

abbrev pub invariant-put_pairs-loop-key : goal.invariant-put_pairs-loop-key
invariant-put_pairs-loop-key l = record {
  written : l.out.items ≡ l.initial.out.items ++ least_pair_encodings (value_pairs (take l.key-index l.key-items));
  in_range : ArePairsInRange (value_pairs (take l.key-index l.key-items));
}
