use Rattle.coset_cbor.proofs.Stood.{end_in_front}
use Rattle.coset_cbor.proofs.laws.only_end_in_prefix.Goals as goal

pub returns : goal.returns
returns c = end_in_front
