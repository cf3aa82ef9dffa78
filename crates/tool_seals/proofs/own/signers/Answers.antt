use Rattle.tool_seals.specs.Seals.{IsPart}
use Rattle.tool_seals.specs.declared.message.Message.TheVariants.{Sign}
use Rattle.tool_seals.proofs.Lists.{found, one_more}
use Rattle.tool_seals.proofs.own.signers.Goals as goal

pub loop-index-preserved : goal.loop-index-preserved
loop-index-preserved c =
    let P = IsPart c.args.asked.now.layer (Sign c.args.message.now) c.args.asked.now.external_aad.now in
    one_more P c.loop-index.list.items c.push.new.self.items c.in-Some.seal c.in_ok-push-in-Some.ensures.items c.loop-index.invariant
    (found P c.in_ok-seal.field-0 c.in-Some.seal c.in_ok-seal.ensures c.in-Some.is)
