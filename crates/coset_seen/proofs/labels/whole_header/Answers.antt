use Rattle.coset.specs.Pulls.{pull_item}
use Rattle.std.proofs.Common.{◌≡◌, [], arith}
use Rattle.std.proofs.lemmas.Grind.{common_steps}
use Rattle.coset_seen.proofs.Messages.{flat_header, header_is}
use Rattle.coset_seen.proofs.labels.whole_header.Goals as goal

pub returns-then-is_flat : goal.returns-then-is_flat
returns-then-is_flat c =
    let none : c.in_ok-header.rest.now ≡ [] = grind (arith, common_steps) in
    flat_header c.args.input.now c.in_ok-header.header c.in_ok-header.rest.now (c.is_flat.ensures c.if-is_flat.true) none c.in_ok-header.ensures

pub returns : goal.returns
returns c =
    header_is c.one_item.ensures c.args.input.now (pull_item c.in-Ok.field-0) c.in_ok-header.header c.in_ok-header.rest.now c.in-Ok.ensures.whole.0
    c.in_ok-header.ensures
