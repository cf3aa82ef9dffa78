use Rattle.coset_sign.proofs.Countersigned.{abbreviates_same, countersigns_same}
use Rattle.coset_sign.proofs.laws.countersigned_by_bytes.Goals as goal

pub returns-clause-full : goal.returns-clause-full
returns-clause-full c = countersigns_same

pub returns-clause-abbreviated : goal.returns-clause-abbreviated
returns-clause-abbreviated c = abbreviates_same
