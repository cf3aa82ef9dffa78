use Rattle.std.proofs.Common.{take}
use Rattle.cwt_verify.specs.Pairs.{AreEncoded}
use Rattle.cwt_verify.proofs.pairs.encodings.Given as goal

-- The set has the encodings of the pairs so far.
abbrev pub invariant-loop-pair : goal.invariant-loop-pair
invariant-loop-pair l = AreEncoded (take l.pair-index l.pairs) l.found
