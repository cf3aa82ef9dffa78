use Rattle.std.proofs.Common.{◌≡◌, option_map, take}
use Rattle.coset.specs.Item.{Pairs}
use Rattle.coset.specs.View.{value_item}
use Rattle.ffi_make.specs.Given.{pairs_view}
use Rattle.ffi_make.specs.PairsMade.{ArePairs, with_pairs}
use Rattle.ffi_make.proofs.pairs.with_all.Given as goal

-- The pairs so far were added.
abbrev pub invariant-loop-pair : goal.invariant-loop-pair
invariant-loop-pair l =
    (qs : Pairs) × ArePairs (pairs_view (take l.pair-index l.pairs)) qs × (option_map value_item l.made ≡ with_pairs qs (value_item l.fn.map))
