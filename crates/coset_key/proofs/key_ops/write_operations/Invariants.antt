use Rattle.std.proofs.Common.{◌≡◌, ◌++◌, map, length}
use Rattle.coset_codec.specs.Encoding.{AppendsElements}
use Rattle.coset_codec.specs.Shape.{images}
use Rattle.coset_key.specs.Keys.{operation, operation_view}
use Rattle.coset_key.proofs.key_ops.write_operations.Given as goal

abbrev pub invariant-loop-operation : goal.invariant-loop-operation
invariant-loop-operation l =
    AppendsElements (images operation.image (map operation_view (map (λ x. x.now) l.yielded))) (length l.yielded) l.initial.out.items l.out.items
    × (map (λ x. x.now) l.yielded ++ l.operation-iterator ≡ l.operations.keys)
