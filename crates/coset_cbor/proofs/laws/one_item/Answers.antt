use Rattle.coset_cbor.proofs.Again.{encodings_differ}
use Rattle.coset_cbor.proofs.laws.one_item.Goals as goal

pub returns : goal.returns
returns c = encodings_differ
