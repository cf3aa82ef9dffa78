use Rattle.tool_seals.specs.Seals.{IsCountersignature}
use Rattle.tool_seals.proofs.Lists.{found, one_more}
use Rattle.tool_seals.proofs.countersigned.first_version.Goals as goal

pub loop-index-preserved : goal.loop-index-preserved
loop-index-preserved c =
    let P = IsCountersignature c.args.asked.now.layer in
    one_more P c.loop-index.list.items c.push.new.self.items c.in-Some.seal c.in_ok-push-in-Some.ensures.items c.loop-index.invariant
    (found P c.in_ok-seal.field-0 c.in-Some.seal c.in_ok-seal.ensures c.in-Some.is)
