use Rattle.tool_explain.proofs.Columns.{ends, shows}
use Rattle.tool_explain.proofs.column.Column.end_with_rest.Goals as goal

pub returns-clause-column : goal.returns-clause-column
returns-clause-column c = shows c.args.self.lines.items c.push.new.self.items _ c.in_ok-push.ensures.items

pub returns-clause-ends : goal.returns-clause-ends
returns-clause-ends c = ends c.args.self.lines.items c.push.new.self.items _ c.in_ok-push.ensures.items
