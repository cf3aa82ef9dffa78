use Rattle.std.proofs.Common.{◌∷◌}
use Rattle.coset.specs.ReadHeads.{initial_byte}
use Rattle.tool_explain.proofs.kind.without_tag.Goals as goal

pub returns-in-Ok : goal.returns-in-Ok
returns-in-Ok c = (initial_byte c.in-Ok.head ∷ c.in-Ok.ensures.argument, c.in-Ok.ensures.parts)
