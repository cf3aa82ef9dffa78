use Rattle.std.proofs.Common.{◌≡◌, IfOk, option_map, subst, sym}
use Rattle.coset.specs.View.{value_items, value_item}
use Rattle.ffi_make.specs.Members.{member_in}
use Rattle.ffi_make.proofs.Lists.{popped}
use Rattle.ffi_make.proofs.member.in_last.Goals as goal

pub returns-in-Some-clause-places : goal.returns-in-Some-clause-places
returns-in-Some-clause-places c =
    let f = member_in c.args.begins (value_item c.args.member) in
    let is = popped f c.args.places.items c.pop.new.self.items c.in-Some.last c.pop.result c.pop.ensures.items c.in-Some.is in
    subst (λ o. IfOk c.member_in.result (λ p. option_map (λ vs. value_items vs.items) p ≡ o)) (sym is) c.member_in.ensures.places
