use Rattle.ffi_query.proofs.countersign.find_countersigned.Goals as goal

pub returns-clause-found : goal.returns-clause-found
returns-clause-found c =
    rw (← c.in_ok-body.ensures.bytes, ← c.in_ok-payload.ensures.content, ← c.in_ok-others.ensures.fields) c.countersigned_of.ensures.found
