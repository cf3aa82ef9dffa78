use Rattle.std.proofs.Common.{◌≡◌}
use Rattle.cwt_confirm.proofs.LayerOrder.{conceal_from}
use Rattle.cwt_confirm.proofs.layers.conceal_cnf.Given as goal

-- The layers so far neither show the claim nor are encrypted.
abbrev pub invariant-loop-layer : goal.invariant-loop-layer
invariant-loop-layer l = conceal_from l.layers 0 ≡ conceal_from l.layers l.layer-index
