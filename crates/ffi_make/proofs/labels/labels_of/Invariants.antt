use Rattle.std.proofs.Common.{◌≡◌, map, take}
use Rattle.coset.specs.View.{value_pairs}
use Rattle.ffi_make.specs.LabelsMade.{labels_in, named_view}
use Rattle.ffi_make.proofs.labels.labels_of.Given as goal

-- The labels so far are those of the pairs so far.
abbrev pub invariant-loop-key : goal.invariant-loop-key
invariant-loop-key l = map named_view l.labels.items ≡ labels_in (value_pairs (take l.key-index l.pairs))
