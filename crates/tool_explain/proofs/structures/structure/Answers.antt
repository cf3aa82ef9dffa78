use Rattle.tool_explain.proofs.Covered.{found_of_kind}
use Rattle.tool_explain.proofs.structures.structure.Goals as goal

pub returns-in-Ok : goal.returns-in-Ok
returns-in-Ok c =
    found_of_kind (λ b. b.items) c.args.kind c.named-kind.result.0 c.args.external_aad.now c.args.index c.args.bytes.now c.named-kind.result.1.now c.in-Ok.found
    c.named-kind.ensures c.in-Ok.ensures
