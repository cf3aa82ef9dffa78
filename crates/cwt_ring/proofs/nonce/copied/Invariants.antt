use Rattle.std.proofs.Common.{◌≡◌, ◌<◌, ℕ, get_or, length}
use Rattle.cwt_ring.proofs.nonce.copied.Given as goal

abbrev pub invariant-loop-place : goal.invariant-loop-place
invariant-loop-place l = (length l.bytes ≡ 13) × ((k : ℕ) → k < l.place → get_or l.bytes k 0 ≡ get_or l.iv k 0)
