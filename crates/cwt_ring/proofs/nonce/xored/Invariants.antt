use Rattle.std.proofs.Common.{◌≡◌, ◌<◌, ℕ, get_or, bit_xor, length}
use Rattle.cwt_ring.specs.Nonce.{padded}
use Rattle.cwt_ring.proofs.nonce.xored.Given as goal

abbrev pub invariant-loop-place : goal.invariant-loop-place
invariant-loop-place l =
    (length l.bytes ≡ 13) × ((k : ℕ) → k < l.place → get_or l.bytes k 0 ≡ bit_xor (get_or l.base_iv k 0) (padded l.partial_iv (length l.base_iv) k))
