use Rattle.tool_explain.proofs.kind.message_refusal.Goals as goal
use Rattle.tool_explain.proofs.kind.message_refusal.Goals.{in-Ok, in-Err}

pub returns : goal.returns
returns g c =
    elim c.match-from_any_slice.branch [
      | in-Ok w ↦ rw w.result-is (g.T.AsCborValue.view w.in-Ok.field-0, w.in-Ok.ensures.read)
      | in-Err w ↦ rw w.result-is (λ no. (w.in-Err.ensures.read no, w.in-Err.ensures.refused no))
    ]
