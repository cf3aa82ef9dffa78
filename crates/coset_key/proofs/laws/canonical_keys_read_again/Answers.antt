use Rattle.coset_key.proofs.CanonicalKeys.{canonical_reads_again}
use Rattle.coset_key.proofs.laws.canonical_keys_read_again.Goals as goal

pub returns : goal.returns
returns c = canonical_reads_again
