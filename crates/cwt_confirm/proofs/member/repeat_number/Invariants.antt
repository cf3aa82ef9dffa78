use Rattle.std.specs.Map.{keys_of}
use Rattle.coset.specs.Parts.{as_integer}
use Rattle.cwt_confirm.proofs.MapMembers.{Gathers}
use Rattle.cwt_confirm.proofs.member.repeat_number.Given as goal

abbrev pub invariant-loop-key : goal.invariant-loop-key
invariant-loop-key l = Gathers as_integer l.pairs l.key-index (keys_of l.numbers.items)
