use Rattle.std.proofs.Common.{◌≢◌, [], rules}
use Rattle.tool_fault.proofs.header.has_header_fault.Goals as goal

pub returns-in_default-found : goal.returns-in_default-found
returns-in_default-found c = λ alike.
    let filled : c.args.content.now ≢ [] = search rules in
    let refused = c.in-Some.ensures c.in_default-found.not-OutOfMemory in
    (filled, c.in-Some.found, c.are_alike.ensures alike, refused.0, refused.1)
