use Rattle.std.proofs.Common.{◌≡◌, ◌≤◌, filter, length, take}
use Rattle.coset_codec.proofs.write.map.count_true.Given as goal

-- `count` is the number of true elements so far.
abbrev pub invariant-loop-b : goal.invariant-loop-b
invariant-loop-b l = (l.count ≡ length (filter (λ b. b) (take l.b-index l.there))) × (l.count ≤ l.b-index)
