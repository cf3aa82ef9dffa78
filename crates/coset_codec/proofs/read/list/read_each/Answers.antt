use Rattle.std.proofs.Common.{map}
use Rattle.coset_codec.proofs.Lists.{all_read}
use Rattle.coset_codec.proofs.read.list.read_each.Goals as goal

pub returns-clause-reads : goal.returns-clause-reads
returns-clause-reads g c = λ vs z within.
    let p = c.loop-alloc.invariant.fills vs z within in
    let none = c.loop-alloc-test.ensures.nexts p.others z p.within in
    ((_, none.1), all_read g.T.AsCborValue.shape vs p.others (map g.T.AsCborValue.view c.loop-alloc.all.items) p.continues none.0)
