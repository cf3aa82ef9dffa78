use Rattle.std.proofs.Common.{◌≡◌, ◌∙◌, ◌-◌, ap, drop, length, rules}
use Rattle.coset.specs.Elements.{items_bytes, items_left}
use Rattle.coset.specs.Pulls.{pull_bytes}
use Rattle.ffi_query.specs.Places.{nth}
use Rattle.ffi_query.proofs.Locating.{located_next}
use Rattle.ffi_query.proofs.located.nth_located.Goals as goal

pub loop-member-preserved : goal.loop-member-preserved
loop-member-preserved c =
    let step = c.in-Some.ensures.steps in
    let element : nth c.args.index (items_left c.into_iter-member-iterator.result) ≡ nth (c.loop-member.left - 1) (items_left c.next.new.self) =
    search rules in
    let passed = c.after-rest.ensures ∙ ap (λ y. drop (length y) c.loop-member.rest.now) c.slice.ensures.bytes in record {
      element = element;
      place =
          λ b l.
          located_next b (items_bytes c.loop-member.member-iterator) (pull_bytes c.in-Some.member) (items_bytes c.next.new.self) c.loop-member.rest.now
          c.after-rest.result.now step.1 passed (c.loop-member.invariant.place b l);
    }
