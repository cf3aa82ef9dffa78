use Rattle.std.proofs.Common.{◌-◌, length}
use Rattle.cwt_verify.specs.Policy.{policy_view}
use Rattle.cwt_verify.proofs.Walking.{AreOpened}
use Rattle.cwt_verify.proofs.layers.open_all.Given as goal

abbrev pub invariant-loop-alloc : goal.invariant-loop-alloc
invariant-loop-alloc g l = AreOpened (g.K.Keys.view l.keys) (policy_view l.policy) l.token l.opened

abbrev pub decreases-loop-alloc : goal.decreases-loop-alloc
decreases-loop-alloc g l = 4 - length l.opened.layers.items
