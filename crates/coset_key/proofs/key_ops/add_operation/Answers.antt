use Rattle.coset_label.specs.LabelData.{label_cmp}
use Rattle.coset_key.specs.Keys.{operation_view}
use Rattle.coset_key.proofs.KeySets.{insert-view}
use Rattle.coset_key.proofs.key_ops.add_operation.Goals as goal

pub returns-clause-ok : goal.returns-clause-ok
returns-clause-ok c = rw c.in_ok-insert.ensures.keys (insert-view operation_view label_cmp c.args.operations.now.keys c.args.operation)
