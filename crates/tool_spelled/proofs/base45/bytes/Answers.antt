use Rattle.std.proofs.Common.{arith, ap, length}
use Rattle.tool_spelled.proofs.Groups.{one_group}
use Rattle.tool_spelled.proofs.base45.bytes.Goals as goal

pub loop-number-preserved : goal.loop-number-preserved
loop-number-preserved c =
    let group = c.in-Some in
    let count = ap length group.ensures.3 in
    let within = c.loop-number.invariant.1 in (
      one_group c.args.text.now c.loop-number.left.now group.rest.now c.loop-number.bytes.items c.push.new.self.items c.push-in-Some.new.self.items
          group.number group.ensures c.in_ok-push.ensures.items c.in_ok-push-2.ensures.items c.loop-number.invariant.0,
      grind (arith, count, within),
    )
