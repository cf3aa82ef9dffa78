use Rattle.std.proofs.Common.{◌∷◌, ◌∙◌, ap}
use Rattle.tool_spelled.proofs.array.front.Goals as goal

pub before-word-requires : goal.before-word-requires
before-word-requires c =
    (c.in-Some.first.now ∷ c.from_gap-behind.ensures.rest.0, c.in-Some.ensures.cases.0 ∙ ap (λ t. c.in-Some.first.now ∷ t) c.from_gap-behind.ensures.rest.1)
