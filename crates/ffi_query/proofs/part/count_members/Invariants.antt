use Rattle.std.proofs.Common.{◌≡◌, ◌+◌}
use Rattle.coset.specs.Item.{items_count}
use Rattle.coset.specs.Elements.{items_left}
use Rattle.ffi_query.proofs.part.count_members.Given as goal

abbrev pub invariant-loop-member : goal.invariant-loop-member
invariant-loop-member l = l.count + items_count (items_left l._member-iterator) ≡ items_count (items_left l.initial._member-iterator)
