use Rattle.std.proofs.Common.{◌≡◌, ◌+◌, suc, ap, arith}
use Rattle.coset.specs.Item.{items_count}
use Rattle.coset.specs.Elements.{items_left}
use Rattle.ffi_query.proofs.part.count_members.Goals as goal

pub loop-member-preserved : goal.loop-member-preserved
loop-member-preserved c =
    let before : items_count (items_left c.loop-member._member-iterator) ≡ suc (items_count (items_left c.next.new.self)) =
    ap items_count c.in-Some.ensures.steps.0 in
    let so_far :
    c.loop-member.count + items_count (items_left c.loop-member._member-iterator)
    ≡ items_count (items_left c.into_iter-member-iterator.result) =
    c.loop-member.invariant in
    omega (arith, before, so_far, c.in-Some-checked_add.ensures)

pub returns-clause-count : goal.returns-clause-count
returns-clause-count c =
    let none : items_count (items_left c.loop-member._member-iterator) ≡ 0 = ap items_count c.in-None.ensures.steps.0 in
    let so_far :
    c.loop-member.count + items_count (items_left c.loop-member._member-iterator)
    ≡ items_count (items_left c.into_iter-member-iterator.result) =
    c.loop-member.invariant in
    let all : items_count (items_left c.into_iter-member-iterator.result) ≡ items_count (items_left c.args.members) =
    ap (λ it. items_count (items_left it)) c.into_iter-member-iterator.ensures.into_iter_gives in
    omega (arith, none, so_far, all)
