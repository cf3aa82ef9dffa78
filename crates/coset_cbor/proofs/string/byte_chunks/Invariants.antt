use Rattle.std.proofs.Common.{◌≡◌, ◌-◌, ℕ, List, length}
use Rattle.std.specs.Prelude.{false}
use Rattle.coset_cbor.specs.Reading.{until_at, chunk_at}
use Rattle.coset_cbor.specs.Grammar.{joined_chunks}
use Rattle.coset_cbor.proofs.Loops.{with_front}
use Rattle.coset_cbor.proofs.string.byte_chunks.Given as goal

abbrev pub invariant-loop : goal.invariant-loop
invariant-loop l = (fronts : List (List ℕ)) × (joined_chunks fronts ≡ l.joined.items)
    × (with_front fronts (until_at (chunk_at false) (l.end - l.counter) l.rest) ≡ until_at (chunk_at false) (length l.bytes) l.bytes)
