use Rattle.std.proofs.Common.{[], refl}
use Rattle.tool_explain.proofs.kind.Kind.named.Goals as goal

pub returns-then-is_by_tag : goal.returns-then-is_by_tag
returns-then-is_by_tag c = record { behind = c.without_tag-inner.ensures; same = λ no. absurd (cc) }

pub returns-else-is_by_tag : goal.returns-else-is_by_tag
returns-else-is_by_tag c = record { behind = ([], refl); same = λ _. (refl, refl) }
