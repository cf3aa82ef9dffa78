use Rattle.std.proofs.Common.{None, refl}
use Rattle.coset_codec.proofs.EncodingMaps.{nothing-added}
use Rattle.coset_codec.proofs.write.map.write_optional.Goals as goal

pub returns-in-None-clause-ok : goal.returns-in-None-clause-ok
returns-in-None-clause-ok g c = (None, rw c.in-None.is refl, nothing-added c.args.out.now.items)
