use Rattle.std.proofs.Common.{◌≡◌, rules}
use Rattle.tool_fault.proofs.Members.{opens}
use Rattle.tool_fault.proofs.step.member.Goals as goal

pub returns : goal.returns
returns c =
    let same : c.in-Ok.head.major_type ≡ c.args.major_type = search rules in
    opens c.args.bytes.now c.in-Ok.head c.in-Ok.rest.now c.in_ok-part.part.now c.args.major_type c.args.index _ c.in-Ok.ensures same
    (c.announces.ensures (search rules)) c.in_ok-part.ensures (search rules)
