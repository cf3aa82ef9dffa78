use Rattle.std.proofs.Common.{◌≤◌, ◌≡◌, ◌∙◌, IfErr, IfOk, ℕ, ap, length, subst}
use Rattle.tool_spelled.proofs.Commented.{as_long}
use Rattle.tool_spelled.specs.Comments.{without_comments}
use Rattle.tool_spelled.specs.declared.comments.Place.TheVariants.{Outside}
use Rattle.tool_spelled.proofs.comments.bytes.Goals as goal

pub returns-in-Ok-clause-within : goal.returns-in-Ok-clause-within
returns-in-Ok-clause-within c =
    let spelled : c.in-Ok.pieces.items ≡ without_comments Outside c.args.text.now = rw c.in-Ok.is at c.in_ok-pieces.ensures.spelled in
    let same : length c.deref.result.now ≡ length c.args.text.now = ap length (c.deref.ensures.value ∙ spelled) ∙ as_long Outside c.args.text.now in
    subst (λ (n : ℕ). IfOk c.bytes.result (λ r. IfErr r (λ m. m.0 ≤ n))) same c.bytes.ensures.within
