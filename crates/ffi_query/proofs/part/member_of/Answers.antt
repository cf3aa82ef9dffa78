use Rattle.coset.specs.Pulls.{pull_item}
use Rattle.ffi_query.specs.Parts.{IsMember}
use Rattle.ffi_query.proofs.Answering.{answered}
use Rattle.ffi_query.proofs.part.member_of.Goals as goal

pub returns-in-Ok : goal.returns-in-Ok
returns-in-Ok c =
    let k = c.args.kind in
    answered (λ b. b.items) k c.args.bytes.now c.args.out.now c.write_found.new.out (IsMember k c.args.index) (pull_item c.in-Ok.item) c.find_member.result
    c.write_found.result c.in-Ok.ensures c.find_member.ensures.found c.find_member.ensures.memory c.write_found.ensures
