use Rattle.std.proofs.Common.{map}
use Rattle.coset_codec.specs.Shape.{bstr}
use Rattle.coset_codec.proofs.Lists.{all_read}
use Rattle.coset_claims.proofs.ByteStrings.{ReadSoFar}
use Rattle.coset_claims.proofs.context.read_byte_strings.Goals as goal

pub returns-in-None-clause-reads : goal.returns-in-None-clause-reads
returns-in-None-clause-reads c = λ vs z within.
    let xs = map (λ b. b.items) c.loop-alloc.all.items in
    let w = c.loop-alloc.invariant.reads vs z within in
    let none = c.loop-alloc-test.ensures.nexts w.left z w.within in
    let so_far : ReadSoFar vs xs w.left c.loop-alloc.fault = w.so_far in
    ((_, none.1), all_read bstr vs w.left xs (rw c.in-None.is at so_far) none.0)
