use Rattle.tool_seals.proofs.Reading.{behind}
use Rattle.tool_seals.proofs.message.read_outermost.Goals as goal

pub returns-then-is_some : goal.returns-then-is_some
returns-then-is_some c =
    behind c.args.form c.args.bytes.now c.without_cwt_tag-inner.result.now c.read_tagged.result c.in-None.is c.without_cwt_tag-inner.ensures
    c.read_tagged.ensures

pub returns-else-is_some : goal.returns-else-is_some
returns-else-is_some c =
    behind c.args.form c.args.bytes.now c.without_cwt_tag-inner.result.now c.read_tried.result c.in-None.is c.without_cwt_tag-inner.ensures
    c.read_tried.ensures
