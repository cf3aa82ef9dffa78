use Rattle.coset.specs.Sign1.{sign1_structure, sign1_view}
use Rattle.tool_explain.proofs.Covered.{is_there, over_present}
use Rattle.tool_explain.proofs.structures.of_sign1.Goals as goal

pub returns-in-Some : goal.returns-in-Some
returns-in-Some c =
    let m = sign1_view c.in_ok-message.message in
    let w = c.in_ok-signed.ensures in (
      m,
      c.in_ok-message.ensures.read,
      w.0,
      over_present (sign1_structure m c.args.external_aad.now) m.payload w.0 (is_there (λ b. b.items) c.in_ok-message.message.payload _ c.in-Some.is) w.1,
      w.2,
    )
