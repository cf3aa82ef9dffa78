use Rattle.std.proofs.Common.{◌∙◌, sym}
use Rattle.coset.specs.Keys.{operation_view}
use Rattle.coset.specs.LabelData.{number, same_label}
use Rattle.coset_iana.specs.KeyOperation as operations
use Rattle.cwt_ring.proofs.Lists.{any-map}
use Rattle.cwt_ring.proofs.fit.has_operation.Goals as goal

pub returns : goal.returns
returns c =
    c.contains.ensures ∙ sym (any-map (same_label (number (operations.number c.args.operation))) operation_view c.args.key.now.key_ops.keys)
