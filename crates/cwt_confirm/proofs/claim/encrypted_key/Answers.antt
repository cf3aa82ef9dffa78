use Rattle.std.specs.Global.{Global}
use Rattle.std.proofs.Common.{◌∙◌, ℕ, Vec, ap, not, sym}
use Rattle.cwt_confirm.proofs.Refused.{nothing}
use Rattle.cwt_confirm.proofs.claim.encrypted_key.Goals as goal

pub returns-then-is_none : goal.returns-then-is_none
returns-then-is_none c =
    let absent = nothing (λ (b : Vec ℕ Global). b.items) c.ciphertext.result.now (c.is_none.ensures ∙ ap not c.if-is_none.true) in
    (c.in-Ok.key, c.in-Ok.ensures, sym c.ciphertext.ensures ∙ absent)
