use Rattle.tool_spelled.proofs.Parts.{behind_both, inner, whole}
use Rattle.tool_spelled.proofs.framed.text_of.Goals as goal

pub returns-then-not-is_text : goal.returns-then-not-is_text
returns-then-not-is_text c = whole c.args.input.now

pub returns : goal.returns
returns c =
    let trimmed = c.without_end-trimmed in
    let text = c.without_front-inner in
    let found = c.part_as-found in
    let front = behind_both trimmed.result.now c.without_mark.result.now text.result.now c.without_mark.ensures text.ensures in
    inner c.args.input.now trimmed.result.now text.result.now found.result.text.now front.0 trimmed.ensures.0 found.result.offset trimmed.ensures.1 front.1
    found.ensures
