use Rattle.coset_cbor.proofs.Cursors.{none_within}
use Rattle.coset_cbor.proofs.cursor.Remaining.none.Goals as goal

pub returns : goal.returns
returns c = none_within
