use Rattle.std.proofs.Common.{◌≡◌, ◌+◌}
use Rattle.coset_cbor.proofs.check.text_content.Given as goal

abbrev pub invariant-loop : goal.invariant-loop
invariant-loop g l = l.steps ≡ l.initial.steps + l.counter
