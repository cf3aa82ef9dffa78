use Rattle.std.proofs.Common.{◌∙◌, sym}
use Rattle.std.proofs.lemmas.Result.{IfOk-weaker}
use Rattle.coset_seen.proofs.Found.{described}
use Rattle.coset_seen.proofs.message.Layout.is_valid.Goals as goal

pub returns-in-Ok-true-clause-valid : goal.returns-in-Ok-true-clause-valid
returns-in-Ok-true-clause-valid c =
    λ k b x.
    let first = c.in-Ok-true.ensures.valid k b x c.in-Ok-true.field-0-test in
    let one = sym c.has_recipients.ensures ∙ c.if-has_recipients.false in
    IfOk-weaker c.is_second_valid.result _ _ (λ t h e. described k b c.args.self.now x one first (h e)) (c.is_second_valid.ensures.valid k b x)
