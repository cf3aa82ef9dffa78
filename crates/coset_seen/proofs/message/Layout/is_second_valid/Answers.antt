use Rattle.std.proofs.lemmas.Result.{IfOk-weaker}
use Rattle.coset.specs.Headers.{header}
use Rattle.coset.specs.Item.{dict}
use Rattle.coset.specs.Pulls.{pull_bytes, pull_item}
use Rattle.coset_seen.proofs.Found.{decoded_front, second_plain_valid}
use Rattle.coset_seen.proofs.message.Layout.is_second_valid.Goals as goal

pub returns-then-self-clause-valid : goal.returns-then-self-clause-valid
returns-then-self-clause-valid c = λ k b x t. second_plain_valid k b c.args.self.now x c.if-self.true

pub returns-in-Ok-clause-valid : goal.returns-in-Ok-clause-valid
returns-in-Ok-clause-valid c =
    λ k b x.
    let found = c.in-Ok.ensures.found in
    let p = c.in-Ok.unprotected in
    IfOk-weaker c.is_unprotected.result _ _
    (λ t h e.
    decoded_front header c.one_item.ensures c.args.self.now.fronts.1.now (dict x.second) (pull_item p) x.fronts.1.0 _ x.fronts.1.1
    (pull_bytes p, found.1.0, found.0) (h e)) c.is_unprotected.ensures.valid
