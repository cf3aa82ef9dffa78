use Rattle.ffi_query.proofs.countersign.countersigned_of.Goals as goal

pub returns-in-Some-others-clause-found : goal.returns-in-Some-others-clause-found
returns-in-Some-others-clause-found c =
    rw (c.in-Some.is, c.in-Some-payload.is, c.in-Some-others.is)
    (rw (c.deref.ensures.value, c.deref-in-Some-others.ensures.value) at c.countersigned_by.ensures.found)
