use Rattle.std.proofs.Common.{◌∷◌}
use Rattle.coset.specs.ReadHeads.{initial_byte}
use Rattle.tool_seals.proofs.message.tag_at_front.Goals as goal

pub returns-in_ok-number-in-Ok : goal.returns-in_ok-number-in-Ok
returns-in_ok-number-in-Ok c = (initial_byte c.in-Ok.head ∷ c.in-Ok.ensures.argument, c.in-Ok.ensures.parts)
