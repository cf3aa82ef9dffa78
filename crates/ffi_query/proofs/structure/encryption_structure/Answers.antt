use Rattle.ffi_query.specs.Results.{Finds, IsEncodingOf}
use Rattle.ffi_query.specs.Structures.{structure_of_one}
use Rattle.std.proofs.Common.{IfOk, subst}
use Rattle.ffi_query.proofs.structure.encryption_structure.Goals as goal

pub returns-clause-found : goal.returns-clause-found
returns-clause-found c =
    subst (λ p. IfOk c.structure_of_one.result (Finds (λ b. b.items) (IsEncodingOf (structure_of_one c.args.context.now c.args.external_aad.now p))))
    c.in_ok-protected.ensures.bytes c.structure_of_one.ensures.found
