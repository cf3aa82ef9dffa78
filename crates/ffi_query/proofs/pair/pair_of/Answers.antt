use Rattle.coset.specs.Pulls.{pull_item}
use Rattle.ffi_query.specs.Pairs.{IsHalf}
use Rattle.ffi_query.proofs.Answering.{answered}
use Rattle.ffi_query.proofs.pair.pair_of.Goals as goal

pub returns-in-Ok : goal.returns-in-Ok
returns-in-Ok c =
    let k = c.args.kind in
    answered (λ b. b.items) k c.args.bytes.now c.args.out.now c.write_found.new.out (IsHalf c.args.half c.args.index) (pull_item c.in-Ok.item)
    c.find_half.result c.write_found.result c.in-Ok.ensures c.find_half.ensures.found c.find_half.ensures.memory c.write_found.ensures
