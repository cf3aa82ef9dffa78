use Rattle.coset.specs.Pulls.{pull_item}
use Rattle.ffi_query.specs.Parts.{IsPart}
use Rattle.ffi_query.proofs.Answering.{answered}
use Rattle.ffi_query.proofs.part.part_of.Goals as goal

pub returns-in-Ok : goal.returns-in-Ok
returns-in-Ok c =
    let k = c.args.kind in
    answered (λ b. b.items) k c.args.bytes.now c.args.out.now c.write_found.new.out (IsPart k c.args.part) (pull_item c.in-Ok.item) c.find_part.result
    c.write_found.result c.in-Ok.ensures c.find_part.ensures.found c.find_part.ensures.memory c.write_found.ensures
