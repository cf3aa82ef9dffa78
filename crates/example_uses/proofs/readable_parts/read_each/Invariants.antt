use Rattle.std.proofs.Common.{◌≡◌, ◌++◌, map}
use Rattle.std.specs.Vec.Iter.{into_iter_items}
use Rattle.coset_value.specs.View.{value_item}
use Rattle.example_uses.specs.ReadableParts.{EachIsRead}
use Rattle.example_uses.proofs.readable_parts.read_each.Given as goal

-- The results so far are those for the items so far.
abbrev pub invariant-loop-item : goal.invariant-loop-item
invariant-loop-item g l =
    (l.yielded ++ into_iter_items l.item-iterator ≡ into_iter_items l.initial.item-iterator)
    × EachIsRead g.T.AsCborValue.shape g.T.AsCborValue.view (map value_item l.yielded) l.all.items
