use Rattle.coset.specs.Pulls.{pull_item}
use Rattle.coset_seen.proofs.Messages.{flat_message, message_is}
use Rattle.coset_seen.specs.Elements.{IsUntagged}
use Rattle.std.proofs.Common.{◌≡◌, [], arith, subst}
use Rattle.std.proofs.lemmas.Grind.{common_steps}
use Rattle.coset_seen.proofs.elements.elements_of.Goals as goal

pub returns-then-elements : goal.returns-then-elements
returns-then-elements c =
    let none : c.in_ok-elements.rest.now ≡ [] = grind (arith, common_steps) in
    flat_message c.args.kind c.args.input.now c.untagged-is_tagged.result.0 c.untagged-is_tagged.result.1.now c.in_ok-elements.elements
    c.in_ok-elements.rest.now
    (subst (λ n. IsUntagged n c.args.input.now c.untagged-is_tagged.result.0 c.untagged-is_tagged.result.1.now) c.tag.ensures c.untagged-is_tagged.ensures)
    c.in_ok-elements.ensures c.if-elements.true none

pub returns : goal.returns
returns c =
    message_is c.args.kind c.args.input.now c.untagged-is_tagged.result.0 c.untagged-is_tagged.result.1.now c.in_ok-elements.elements
    c.in_ok-elements.rest.now
    (subst (λ n. IsUntagged n c.args.input.now c.untagged-is_tagged.result.0 c.untagged-is_tagged.result.1.now) c.tag.ensures c.untagged-is_tagged.ensures)
    c.in_ok-elements.ensures c.one_item.ensures (pull_item c.in-Ok.field-0) c.in-Ok.ensures.whole.0
