use Rattle.std.proofs.Common.{◌≡◌, inl, rules}
use Rattle.coset_cbor.specs.Pulls.{pull_bytes, pull_item}
use Rattle.coset_codec.specs.Errors.{decode_failure}
use Rattle.coset_codec.proofs.Whole.{on_err, no_whole, byte_fault, extraneous, only_item}
use Rattle.coset_codec.proofs.traits.whole_item.Goals as goal

pub returns-in_err-pull-clause-whole : goal.returns-in_err-pull-clause-whole
returns-in_err-pull-clause-whole c =
    let s = c.args.s.now in
    let e = c.in_err-pull.field-0.0 in
    on_err pull_item s c.from_residual.result (λ f. f ≡ decode_failure e) c.from_residual.ensures.1
    (λ f is. rw is (inl (byte_fault s e c.in_err-pull.ensures.memory c.in_err-pull.ensures.fault), no_whole s c.in_err-pull.ensures.refused))

pub returns-then-not-is_empty-clause-whole : goal.returns-then-not-is_empty-clause-whole
returns-then-not-is_empty-clause-whole c =
    λ _. extraneous c.one_item.ensures c.args.s.now (pull_bytes c.in_ok-pull.pull) c.in_ok-pull.rest.now (pull_item c.in_ok-pull.pull)
    (search rules) c.in_ok-pull.ensures.found.0 c.in_ok-pull.ensures.found.1

pub returns-clause-whole : goal.returns-clause-whole
returns-clause-whole c =
    only_item c.one_item.ensures c.args.s.now (pull_bytes c.in_ok-pull.pull) c.in_ok-pull.rest.now (pull_item c.in_ok-pull.pull)
    (search rules) c.in_ok-pull.ensures.found.0 c.in_ok-pull.ensures.found.1
