use Rattle.std.specs.Map.{keys_of}
use Rattle.std.proofs.Common.{map}
use Rattle.coset.specs.Parts.{as_text}
use Rattle.cwt_confirm.proofs.MapMembers.{Gathers}
use Rattle.cwt_confirm.proofs.member.repeat_text.Given as goal

abbrev pub invariant-loop-key : goal.invariant-loop-key
invariant-loop-key l = Gathers as_text l.pairs l.key-index (map (λ s. s.now) (keys_of l.texts.items))
