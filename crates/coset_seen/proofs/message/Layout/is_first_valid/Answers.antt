use Rattle.std.proofs.lemmas.Result.{IfOk-weaker}
use Rattle.coset.specs.Headers.{protected}
use Rattle.coset.specs.Item.{bytes}
use Rattle.coset.specs.Pulls.{pull_bytes, pull_item}
use Rattle.coset_seen.proofs.Found.{decoded_front, first_plain_valid}
use Rattle.coset_seen.proofs.message.Layout.is_first_valid.Goals as goal

pub returns-then-self-clause-valid : goal.returns-then-self-clause-valid
returns-then-self-clause-valid c = λ k b x t. first_plain_valid k b c.args.self.now x c.if-self.true

pub returns-in-Ok-clause-valid : goal.returns-in-Ok-clause-valid
returns-in-Ok-clause-valid c =
    λ k b x.
    let found = c.in-Ok.ensures.found in
    let p = c.in-Ok.protected in
    IfOk-weaker c.is_protected.result _ _
    (λ t h e.
    decoded_front protected c.one_item.ensures c.args.self.now.fronts.0.now (bytes c.args.self.now.seen.protected.bytes.now) (pull_item p) x.fronts.0.0 _
    x.fronts.0.1 (pull_bytes p, found.1.0, found.0) (h e)) c.is_protected.ensures.valid
