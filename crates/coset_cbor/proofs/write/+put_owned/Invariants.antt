use Rattle.std.proofs.Common.{◌≡◌, ◌++◌}
use Rattle.std.specs.Vec.Iter.{into_iter_items}
use Rattle.coset_value.specs.Range.{AreInRange, ArePairsInRange}
use Rattle.coset_value.specs.View.{value_items, value_pairs}
use Rattle.coset_cbor.specs.Least.{least_encodings, least_pair_encodings}
use Rattle.coset_cbor.proofs.write.+put_owned.Given as goal

abbrev pub invariant-put_owned_items-loop-item : goal.invariant-put_owned_items-loop-item
invariant-put_owned_items-loop-item l = record {
  passed : l.yielded ++ into_iter_items l.item-iterator ≡ into_iter_items l.initial.item-iterator;
  written : l.out.items ≡ l.initial.out.items ++ least_encodings (value_items l.yielded);
  in_range : AreInRange (value_items l.yielded);
}

abbrev pub invariant-put_owned_pairs-loop-key : goal.invariant-put_owned_pairs-loop-key
invariant-put_owned_pairs-loop-key l = record {
  passed : l.yielded ++ into_iter_items l.key-iterator ≡ into_iter_items l.initial.key-iterator;
  written : l.out.items ≡ l.initial.out.items ++ least_pair_encodings (value_pairs l.yielded);
  in_range : ArePairsInRange (value_pairs l.yielded);
}
