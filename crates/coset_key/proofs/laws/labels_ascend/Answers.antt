use Rattle.coset_key.proofs.AscendingLabels.{labels_ascend, zero_after_fields}
use Rattle.coset_key.proofs.laws.labels_ascend.Goals as goal

pub returns-clause-ascend : goal.returns-clause-ascend
returns-clause-ascend c = labels_ascend

pub returns-clause-zero : goal.returns-clause-zero
returns-clause-zero c = zero_after_fields
