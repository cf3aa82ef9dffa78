use Rattle.tool_fault.proofs.unexpected.refusal.Goals as goal
use Rattle.tool_fault.proofs.unexpected.refusal.Goals.{in-Ok, in-Err}

pub returns : goal.returns
returns g c =
    elim c.match-from_slice.branch [
      | in-Ok w ↦ rw w.result-is tt
      | in-Err w ↦ rw w.result-is (λ no. (w.in-Err.ensures.read no, w.in-Err.ensures.refused no))
    ]
