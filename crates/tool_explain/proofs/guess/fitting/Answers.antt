use Rattle.std.proofs.Common.{None}
use Rattle.tool_explain.specs.Refusal.{JudgesAs}
use Rattle.tool_explain.proofs.Judged.{judged, one_more}
use Rattle.tool_explain.proofs.guess.fitting.Goals as goal
use Rattle.tool_explain.proofs.guess.fitting.Goals.{in-None+in_ok-push-in-None, in-Some}

pub loop-kind-preserved : goal.loop-kind-preserved
loop-kind-preserved c =
    elim c.match-refusal.branch [
      | in-None+in_ok-push-in-None w ↦
          rw w.kinds-is (one_more (λ k. JudgesAs k c.args.bytes.now None) c.loop-kind.kinds.items w.push.new.self.items _ w.in_ok-push-in-None.ensures.items
          c.loop-kind.invariant (judged _ c.args.bytes.now c.refusal.result c.refusal.ensures w.in-None.is))
      | in-Some w ↦ rw w.kinds-is c.loop-kind.invariant
    ]
