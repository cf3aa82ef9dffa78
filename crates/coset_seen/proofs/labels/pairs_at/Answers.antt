use Rattle.coset_seen.proofs.Labelling.{plain_pairs}
use Rattle.coset_seen.proofs.labels.pairs_at.Goals as goal

pub returns-in-Some : goal.returns-in-Some
returns-in-Some c = plain_pairs c.args.count c.args.bytes.now c.in-Some.named c.in-Some.rest.now c.in-Some.ensures
