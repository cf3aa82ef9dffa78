use Rattle.std.proofs.Common.{arith, refl}
use Rattle.coset_seen.proofs.Parts.{offset_fits, part_within}
use Rattle.coset_seen.proofs.message.within.Goals as goal

pub returns-clause-part : goal.returns-clause-part
returns-clause-part c = λ b small o i.
    let fits = offset_fits b c.args.outer c.args.inner small o i in
    part_within b c.args.outer c.args.inner _ o i refl (omega (arith, fits, c.saturating_add.ensures))
