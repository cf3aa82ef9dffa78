use Rattle.std.proofs.Common.{◌*◌, ◌≤◌, suc}
use Rattle.coset_core.specs.SignatureCounts.{count_in_lists}
use Rattle.coset_core.proofs.signature.+drop_nested.Given as goal

-- `drop_counter_signatures` passes all its signatures to `drop_nested`, so its measure is greater by one.
abbrev pub decreases-drop_nested : goal.decreases-drop_nested
decreases-drop_nested l = 2 * count_in_lists l.all.items l.version_2.items

abbrev pub decreases-drop_counter_signatures : goal.decreases-drop_counter_signatures
decreases-drop_counter_signatures l = suc (2 * count_in_lists l.held.0.items l.held.1.items)

-- No more signatures are left than were passed in.
abbrev pub invariant-drop_nested-loop-protected : goal.invariant-drop_nested-loop-protected
invariant-drop_nested-loop-protected l = count_in_lists l.all.items l.version_2.items ≤ count_in_lists l.fn.all.items l.fn.version_2.items

abbrev pub decreases-drop_nested-loop-protected : goal.decreases-drop_nested-loop-protected
decreases-drop_nested-loop-protected l = count_in_lists l.all.items l.version_2.items
