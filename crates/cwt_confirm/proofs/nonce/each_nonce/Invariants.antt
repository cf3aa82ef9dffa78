use Rattle.std.proofs.Common.{map}
use Rattle.cwt_confirm.proofs.NonceOrder.{Gathers}
use Rattle.cwt_confirm.proofs.nonce.each_nonce.Given as goal

abbrev pub invariant-loop-value : goal.invariant-loop-value
invariant-loop-value l = Gathers l.values l.value-index (map (λ n. n.now) l.nonces.items)
