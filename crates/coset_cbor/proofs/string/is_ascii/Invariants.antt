use Rattle.std.proofs.Common.{length}
use Rattle.std.specs.Str.{IsAscii}
use Rattle.coset_cbor.proofs.string.is_ascii.Given as goal

abbrev pub invariant-loop-front : goal.invariant-loop-front
invariant-loop-front l = IsAscii l.rest → IsAscii l.bytes

abbrev pub decreases-loop-front : goal.decreases-loop-front
decreases-loop-front l = length l.rest
