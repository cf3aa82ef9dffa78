use Rattle.std.proofs.Common.{false, take}
use Rattle.coset.specs.Pulls.{pull_item}
use Rattle.coset.specs.View.{value_item}
use Rattle.ffi_query.specs.Critical.{IsAbsent}
use Rattle.ffi_query.proofs.Known.{Each}
use Rattle.ffi_query.proofs.critical.are_present.Given as goal

-- None of the known labels so far is absent.
abbrev pub invariant-loop-label : goal.invariant-loop-label
invariant-loop-label l = Each (λ n. IsAbsent l.kind (pull_item l.item) (value_item l.labels) n false) (take l.label-index l.known)
