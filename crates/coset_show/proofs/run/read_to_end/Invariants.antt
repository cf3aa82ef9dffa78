use Rattle.std.proofs.Common.{◌≡◌, ℕ, List}
use Rattle.std.specs.Prelude.{Option}
use Rattle.coset_show.specs.declared.stream.Stream.{Stream}
use Rattle.std.specs.Io.KnownBytes.{Consumes}
use Rattle.coset_show.proofs.run.read_to_end.Given as goal

-- The reader returned the gathered bytes, and no read has failed.
pub record Gathered {R : Type 0} (remaining : R → Option (List ℕ)) (old new : Stream R) (input : List ℕ) : Type 0 where
  pub took : Consumes (remaining old.inner) (remaining new.inner) input
  pub same : new.failed ≡ old.failed

abbrev pub invariant-loop : goal.invariant-loop
invariant-loop g l = Gathered g.R.Read.remaining l.fn.reader l.reader l.input.items
