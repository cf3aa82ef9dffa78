use Rattle.std.proofs.Common.{◌≡◌, ◌-◌, ℕ, List, length, string_bytes}
use Rattle.std.specs.Prelude.{true}
use Rattle.coset_cbor.specs.Reading.{until_at, chunk_at}
use Rattle.coset_cbor.specs.Grammar.{joined_chunks}
use Rattle.coset_cbor.proofs.Loops.{with_front}
use Rattle.coset_cbor.proofs.string.text_chunks.Given as goal

abbrev pub invariant-loop : goal.invariant-loop
invariant-loop l = (fronts : List (List ℕ)) × (joined_chunks fronts ≡ string_bytes l.joined)
    × (with_front fronts (until_at (chunk_at true) (l.end - l.counter) l.rest) ≡ until_at (chunk_at true) (length l.bytes) l.bytes)
