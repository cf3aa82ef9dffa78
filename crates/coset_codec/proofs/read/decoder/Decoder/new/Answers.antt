use Rattle.std.proofs.Common.{[], refl}
use Rattle.coset_codec.specs.Inputs.{borrowed}
use Rattle.coset_codec.proofs.read.decoder.Decoder.new.Goals as goal

pub returns-in-Borrowed-clause-item : goal.returns-in-Borrowed-clause-item
returns-in-Borrowed-clause-item c = rw c.in-Borrowed.is (borrowed [], ([], refl, c.new.ensures.whole _ c.slice.ensures.item))
