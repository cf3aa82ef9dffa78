use Rattle.std.proofs.Common.{◌≡◌, Some, take}
use Rattle.ffi_make.specs.Given.{pairs_view}
use Rattle.ffi_c.specs.PairsGiven.{pairs_of}
use Rattle.ffi_c.proofs.pairs.pairs_of.Given as goal

-- The pairs so far were found.
abbrev pub invariant-loop-pair : goal.invariant-loop-pair
invariant-loop-pair l = pairs_of l.bytes (take l.pair-index l.pairs) ≡ Some (pairs_view l.found.items)
