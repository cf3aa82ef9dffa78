use mir.Syntax.{w32}
use mir.Val.{of_z, to_z}
use Rattle.std.proofs.Common.{◌≡◌, Err, pos, refl, rules}
use Rattle.tool_page.specs.declared.answer.Unanswered.TheVariants.{Memory}
use Rattle.tool_page.proofs.page_look.Goals as goal

pub returns-in-Err : goal.returns-in-Err
returns-in-Err c =
    let status : to_z w32 (of_z w32 c.number_of-in-Err.result) ≡ pos 2 = search rules in
    (Err Memory, status, (refl, refl))
