use Rattle.ffi_query.proofs.structure.content_structure.Goals as goal

pub returns-clause-found : goal.returns-clause-found
returns-clause-found c =
    rw (← c.in_ok-protected.ensures.bytes, ← c.in_ok-content.ensures.content) c.structure_of_two.ensures.found
