use Rattle.tool_explain.proofs.Columns.{moves_on}
use Rattle.tool_explain.proofs.column.Column.end_line.Goals as goal

pub returns-clause-whole : goal.returns-clause-whole
returns-clause-whole c =
    moves_on c.args.self.now.lines.items c.push.new.self.items _ c.split_at.result.1.now c.args.self.now.rest.now _ c.in_ok-push.ensures.items
    c.split_at.ensures.front c.split_at.ensures.back
