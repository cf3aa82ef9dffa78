use Rattle.std.proofs.Common.{◌≡◌}
use Rattle.coset.specs.Elements.{items_left}
use Rattle.ffi_query.specs.Sets.{first_key}
use Rattle.ffi_query.proofs.keys.first_key.Given as goal

abbrev pub invariant-loop-key : goal.invariant-loop-key
invariant-loop-key l = first_key l.key_id (items_left l.initial.key-iterator) ≡ first_key l.key_id (items_left l.key-iterator)
